-- The loop holds that the contexts (s, z) that were passed have what the entry makes of them. Assumes nothing.
use native.Mathlib.Omega.{arith}
use Rattle.scratch.proofs.Rows.{filled_all}
use Rattle.until_step.proofs.Rows.{row_needs, clamp_place, step_more}
use Rattle.until_step.proofs.step_row.Goals as goal

pub entry_byte-clamp-requires : goal.entry_byte-clamp-requires
entry_byte-clamp-requires c = record {
  step_needs = row_needs c.requires.step_needs c.requires.s_lt_np c.loop-z.invariant.0 c.loop-z-test.true;
  s_lt_np = (c.requires.s_lt_np, c.loop-z-test.true);
}

pub clamp_over-made-requires : goal.clamp_over-made-requires
clamp_over-made-requires c =
    clamp_place c.requires.step_needs c.requires.s_lt_np c.loop-z.invariant.0 c.loop-z-test.true c.entry_byte-clamp.ensures

pub loop-z-preserved : goal.loop-z-preserved
loop-z-preserved c =
    (step_more c.requires.step_needs c.requires.s_lt_np c.loop-z.invariant.0 c.loop-z-test.true c.entry_byte-clamp.ensures c.clamp_over-made.ensures, omega arith)

pub returns : goal.returns
returns c = filled_all c.loop-z.invariant.1 c.loop-z-test.false c.loop-z.invariant.0
