-- `mark_closure::close_row` meets its contract: the factors y that were passed were tried with x. Assumes nothing.
use Prim.Native.Nat.{ℕ, ◌+◌, ◌*◌}
use mathlib.Core.Path.{◌≡◌, subst}
use native.Mathlib.Omega.{arith}
use native.Mathlib.Nat.{add-zero}
use Rattle.formats.specs.Table.{morphism_at}
use Rattle.mark_closure.specs.Closing.{ClosureAdvanced}
use Rattle.mark_closure.proofs.Tables.{kept_none}
use Rattle.mark_closure.proofs.Passes.{advanced_both}
use Rattle.mark_closure.proofs.close_row.Goals as goal

pub loop-y-init : goal.loop-y-init
loop-y-init c =
    (rw add-zero (record { so_far = c.requires.closed_so_far; kept = kept_none _ _ }), omega arith)

pub close_by-requires : goal.close_by-requires
close_by-requires c = record {
  table = c.requires.table;
  lawful = c.requires.lawful;
  x_lt_n = (c.requires.x_lt_n, c.loop-y-test.true);
  closed_so_far = c.loop-y.invariant.0.so_far;
}

pub loop-y-preserved : goal.loop-y-preserved
loop-y-preserved c = (advanced_both c.loop-y.invariant.0 c.close_by.ensures, omega arith)

pub shape_of-scratch : goal.shape_of-scratch
shape_of-scratch c = c.loop-y.invariant.0.kept.same_length

pub returns : goal.returns
returns c =
    let a = c.args in
    let q : c.loop-y.y ≡ a.n = omega arith in
    subst (λ (y : ℕ). ClosureAdvanced (morphism_at a.rule.now a.n a.k) (a.x * a.n + y) a.scratch.now c.loop-y.scratch) q c.loop-y.invariant.0
