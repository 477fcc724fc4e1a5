-- `mark_class_numbers::begin_row` meets its contract: the pairs of the row that were passed have their first numbers. Assumes nothing.
use Prim.Native.Nat.{ℕ, ◌+◌, ◌*◌}
use mathlib.Core.Path.{◌≡◌, sym, subst}
use native.Mathlib.Omega.{arith}
use native.Mathlib.Nat.{add-zero}
use Rattle.formats.specs.Table.{morphism_at}
use Rattle.mark_class_numbers.specs.Cells.{Begun}
use Rattle.mark_class_numbers.proofs.Bytes.{CellNeeds, cell_place}
use Rattle.mark_class_numbers.proofs.Factors.{attained_small}
use Rattle.mark_class_numbers.proofs.Passes.{begun_none, begun_more}
use Rattle.mark_class_numbers.proofs.begin_row.Goals as goal

-- where the number of this turn's pair stands
place : (d : goal.After-store-arg-1) → CellNeeds d.args.n d.args.s d.loop-e.e d.loop-e.out
place d =
    cell_place d.requires.table.small d.requires.n_in_bounds.1 d.loop-e-test.true (omega (arith, d.requires.n_in_bounds.0, d.loop-e.invariant.0.kept.same_length))

pub loop-e-init : goal.loop-e-init
loop-e-init c =
    let a = c.args in
    (subst (λ (to : ℕ). Begun (morphism_at a.rule.now a.n a.k) (a.s * a.n) to a.out.now a.out.now) (sym (add-zero (a.s * a.n))) (begun_none _ _ _), omega arith)

pub first_number-number-requires : goal.first_number-number-requires
first_number-number-requires c = record {
  table = c.requires.table;
  lawful = c.requires.lawful;
  s_lt_n = (c.requires.n_in_bounds.1, c.loop-e-test.true);
}

pub overflow_mul-s : goal.overflow_mul-s
overflow_mul-s c = omega (arith, place c)

pub overflow_add-s : goal.overflow_add-s
overflow_add-s c = omega (arith, place c)

pub overflow_mul-s-in-loop-e : goal.overflow_mul-s-in-loop-e
overflow_mul-s-in-loop-e c = omega (arith, place c)

pub store-requires : goal.store-requires
store-requires c = record {
  at_in_bounds = (place c).inside;
  number_bound = attained_small c.requires.table.small c.first_number-number.ensures.attained;
}

pub loop-e-preserved : goal.loop-e-preserved
loop-e-preserved c =
    (begun_more c.loop-e-test.true (omega arith) c.loop-e.invariant.0 c.store.ensures c.first_number-number.ensures, omega arith)

pub shape_of-out : goal.shape_of-out
shape_of-out c = c.loop-e.invariant.0.kept.same_length

pub returns : goal.returns
returns c =
    let a = c.args in
    let q : c.loop-e.e ≡ a.n = omega arith in
    subst (λ (e : ℕ). Begun (morphism_at a.rule.now a.n a.k) (a.s * a.n) (a.s * a.n + e) a.out.now c.loop-e.out) q c.loop-e.invariant.0
