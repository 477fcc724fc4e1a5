-- `list_classes_call::write_classes` meets its contract: once every x was passed, each number is the least over all factors. Assumes nothing.
use Prim.Native.Nat.{ℕ, ◌*◌}
use mathlib.Core.Path.{◌≡◌, ◌∙◌, subst}
use native.Mathlib.Omega.{arith}
use native.Mathlib.Nat.{zero-mul}
use Rattle.formats.specs.Table.{morphism_at}
use Rattle.mark_class_numbers.specs.Cells.{CellAdvanced}
use Rattle.scratch.proofs.Unchanged.{unchanged_none}
use Rattle.mark_class_numbers.proofs.Bytes.{pairs_small}
use Rattle.mark_class_numbers.proofs.Passes.{advanced_both, advanced_row, advanced_all}
use Rattle.list_classes_call.proofs.write_classes.Goals as goal

pub begin-requires : goal.begin-requires
begin-requires c = record {
  table = c.requires.table;
  lawful = c.requires.lawful;
  n_in_bounds = omega (arith, pairs_small c.requires.table.small, c.requires.classes_size_in_bounds);
}

pub loop-x-init : goal.loop-x-init
loop-x-init c = (rw zero-mul (record { classed = c.begin.ensures.classed; kept = unchanged_none 0 _ _ }), omega arith)

pub lower_row-requires : goal.lower_row-requires
lower_row-requires c = record {
  table = c.requires.table;
  lawful = c.requires.lawful;
  x_lt_n = c.loop-x-test.true;
  n_in_bounds = omega (arith, pairs_small c.requires.table.small, c.requires.classes_size_in_bounds, c.begin.ensures.kept.same_length, c.loop-x.invariant.0.kept.same_length);
  classed = c.loop-x.invariant.0.classed;
}

pub loop-x-preserved : goal.loop-x-preserved
loop-x-preserved c =
    (advanced_row c.loop-x.x c.loop-x.invariant.0 c.lower_row.ensures, omega arith)

pub shape_of-out : goal.shape_of-out
shape_of-out c = c.loop-x.invariant.0.kept.same_length ∙ c.begin.ensures.kept.same_length

pub returns : goal.returns
returns c =
    let a = c.args in
    let q : c.loop-x.x ≡ a.n = omega arith in
    let all = advanced_both c.begin.ensures c.loop-x.invariant.0 in
    advanced_all (subst (λ (x : ℕ). CellAdvanced (morphism_at a.rule.now a.n a.k) (x * a.n) a.out.now c.loop-x.out) q all)
