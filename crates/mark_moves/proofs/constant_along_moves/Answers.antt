-- `mark_moves::constant_along_moves` meets its contract: the elements that were passed agree, and all of them make the marks constant. Assumes nothing.
use native.Mathlib.Omega.{arith}
use Rattle.finite.proofs.Each.{each_none}
use Rattle.mark_moves.proofs.Agreeing.{answer_yes, pass_more, pass_ends, all_agree}
use mathlib.Core.Bool.{not}
use mathlib.Core.Path.{ap}
use Rattle.mark_moves.proofs.constant_along_moves.Goals as goal

pub loop-e-init : goal.loop-e-init
loop-e-init c = each_none

pub cycle_agrees-agrees-requires : goal.cycle_agrees-agrees-requires
cycle_agrees-agrees-requires c = record {
  table = c.requires.table;
  move_needs = c.requires.move_needs;
  e_lt_n = c.loop-e-test.true;
}

pub returns-then-not-agrees : goal.returns-then-not-agrees
returns-then-not-agrees c = pass_ends c.cycle_agrees-agrees.ensures (ap not c.if-not-agrees.true)

pub loop-e-preserved : goal.loop-e-preserved
loop-e-preserved c = pass_more c.loop-e.invariant c.cycle_agrees-agrees.ensures (ap not c.if-not-agrees.false)

pub returns : goal.returns
returns c =
    answer_yes (all_agree c.requires.move_needs.lawful (record { each = λ e h. c.loop-e.invariant.each e (omega (arith, c.loop-e-test.false)) }))
