-- `mark_raising::raise_move` meets its contract: the marks at the starts that were passed are raised. Assumes nothing.
use native.Mathlib.Omega.{arith}
use Rattle.mark_raising.proofs.Raising.{pass_none, pass_more, raise_known}
use Rattle.mark_raising.proofs.raise_move.Goals as goal

pub loop-s-init : goal.loop-s-init
loop-s-init c = (pass_none c.requires.raised, omega arith)

pub raise_start-more-requires : goal.raise_start-more-requires
raise_start-more-requires c = record {
  table = c.requires.table;
  lawful = c.requires.lawful;
  raised = c.loop-s.invariant.0.raised;
  move_to = (c.requires.move_to, c.loop-s-test.true);
}

pub loop-s-preserved : goal.loop-s-preserved
loop-s-preserved c = (pass_more c.loop-s.invariant.0 c.raise_start-more.ensures, omega arith)

pub shape_of-scratch : goal.shape_of-scratch
shape_of-scratch c = c.loop-s.invariant.0.kept.same_length

pub returns : goal.returns
returns c = raise_known (λ w. record { starts = record { each = λ s h. w.each s (omega (arith, c.loop-s-test.false)) } }) c.loop-s.invariant.0
