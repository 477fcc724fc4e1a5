-- `mark_raising::raise_round` meets its contract: marks are raised from the elements that were passed. Assumes nothing.
use native.Mathlib.Omega.{arith}
use Rattle.mark_raising.proofs.Raising.{pass_none, pass_more, raise_known}
use Rattle.mark_raising.proofs.raise_round.Goals as goal

pub loop-e-init : goal.loop-e-init
loop-e-init c = (pass_none c.requires.raised, omega arith)

pub raise_cycle-more-requires : goal.raise_cycle-more-requires
raise_cycle-more-requires c = record {
  table = c.requires.table;
  lawful = c.requires.lawful;
  raised = c.loop-e.invariant.0.raised;
  e_lt_n = c.loop-e-test.true;
}

pub loop-e-preserved : goal.loop-e-preserved
loop-e-preserved c = (pass_more c.loop-e.invariant.0 c.raise_cycle-more.ensures, omega arith)

pub shape_of-scratch : goal.shape_of-scratch
shape_of-scratch c = c.loop-e.invariant.0.kept.same_length

pub returns : goal.returns
returns c = raise_known (λ w. record { cycles = record { each = λ e h. w.each e (omega (arith, c.loop-e-test.false)) } }) c.loop-e.invariant.0
