-- `mark_class_numbers::lower_row` meets its contract: the factors y that were passed were tried with x. Assumes nothing.
use Prim.Native.Nat.{ℕ, ◌+◌, ◌*◌}
use mathlib.Core.Path.{◌≡◌, subst}
use native.Mathlib.Omega.{arith}
use native.Mathlib.Nat.{add-zero}
use Rattle.formats.specs.Table.{morphism_at}
use Rattle.mark_class_numbers.specs.Cells.{CellAdvanced}
use Rattle.scratch.proofs.Unchanged.{unchanged_none}
use Rattle.mark_class_numbers.proofs.Passes.{advanced_both}
use Rattle.mark_class_numbers.proofs.lower_row.Goals as goal

pub loop-y-init : goal.loop-y-init
loop-y-init c =
    (rw add-zero (record { classed = c.requires.classed; kept = unchanged_none 0 _ _ }), omega arith)

pub lower_by-requires : goal.lower_by-requires
lower_by-requires c = record {
  table = c.requires.table;
  lawful = c.requires.lawful;
  x_lt_n = (c.requires.x_lt_n, c.loop-y-test.true);
  n_in_bounds = omega (arith, c.requires.n_in_bounds, c.loop-y.invariant.0.kept.same_length);
  classed = c.loop-y.invariant.0.classed;
}

pub loop-y-preserved : goal.loop-y-preserved
loop-y-preserved c = (advanced_both c.loop-y.invariant.0 c.lower_by.ensures, omega arith)

pub shape_of-out : goal.shape_of-out
shape_of-out c = c.loop-y.invariant.0.kept.same_length

pub returns : goal.returns
returns c =
    let a = c.args in
    let q : c.loop-y.y ≡ a.n = omega arith in
    subst (λ (y : ℕ). CellAdvanced (morphism_at a.rule.now a.n a.k) (a.x * a.n + y) a.out.now c.loop-y.out) q c.loop-y.invariant.0
