-- `mark_moves::move_agrees` meets its contract: the starts that were passed agree. Assumes nothing.
use native.Mathlib.Omega.{arith}
use Rattle.finite.proofs.Each.{each_none}
use Rattle.mark_moves.proofs.Agreeing.{answer_yes, pass_more, pass_ends}
use mathlib.Core.Bool.{not}
use mathlib.Core.Path.{ap}
use Rattle.mark_moves.proofs.move_agrees.Goals as goal

pub loop-s-init : goal.loop-s-init
loop-s-init c = each_none

pub start_agrees-agrees-requires : goal.start_agrees-agrees-requires
start_agrees-agrees-requires c = record {
  table = c.requires.table;
  move_needs = c.requires.move_needs;
  move_to = c.requires.move_to;
  s_lt_n = c.loop-s-test.true;
}

pub returns-then-not-agrees : goal.returns-then-not-agrees
returns-then-not-agrees c = pass_ends c.start_agrees-agrees.ensures (ap not c.if-not-agrees.true)

pub loop-s-preserved : goal.loop-s-preserved
loop-s-preserved c = pass_more c.loop-s.invariant c.start_agrees-agrees.ensures (ap not c.if-not-agrees.false)

pub returns : goal.returns
returns c = answer_yes (record { same = record { each = λ s h. c.loop-s.invariant.each s (omega (arith, c.loop-s-test.false)) } })
