-- `mark_class_numbers::lower` meets its contract: the numbers of the elements that were passed are lowered. Assumes nothing.
use Prim.Native.Nat.{ℕ}
use mathlib.Core.Path.{◌≡◌, subst}
use native.Mathlib.Omega.{arith}
use Rattle.formats.specs.Table.{morphism_at}
use Rattle.mark_class_numbers.specs.Cells.{Lowest, Lowered}
use Rattle.mark_class_numbers.proofs.Bytes.{CellNeeds, cell_place}
use Rattle.mark_class_numbers.proofs.Factors.{lowest_le}
use Rattle.mark_class_numbers.proofs.Passes.{lowered_none, lowered_more}
use Rattle.mark_class_numbers.proofs.lower.Goals as goal

-- where the number of this turn's pair stands
place : (d : goal.In-loop-s) → CellNeeds d.args.n d.loop-s.s d.args.e d.loop-s.out
place d =
    cell_place d.requires.table.small d.loop-s-test.true d.requires.x_lt_n.1 (omega (arith, d.requires.n_in_bounds, d.loop-s.invariant.0.kept.same_length))

-- where the number of this turn's pair stands
place-2 : (d : goal.After-store-arg-1) → CellNeeds d.args.n d.loop-s.s d.args.e d.loop-s.out
place-2 d =
    cell_place d.requires.table.small d.loop-s-test.true d.requires.x_lt_n.1 (omega (arith, d.requires.n_in_bounds, d.loop-s.invariant.0.kept.same_length))

pub loop-s-init : goal.loop-s-init
loop-s-init c = (lowered_none _ _ _ _ _, omega arith)

pub overflow_mul-at : goal.overflow_mul-at
overflow_mul-at c = omega (arith, place c)

pub overflow_add-at : goal.overflow_add-at
overflow_add-at c = omega (arith, place c)

pub overflow_mul-at-in-loop-s : goal.overflow_mul-at-in-loop-s
overflow_mul-at-in-loop-s c = omega (arith, place c)

pub load-old-requires : goal.load-old-requires
load-old-requires c = (place c).inside

pub lowest-number-requires : goal.lowest-number-requires
lowest-number-requires c = record {
  table = c.requires.table;
  x_lt_n = (c.requires.x_lt_n.0, c.requires.x_lt_n.1, c.requires.x_lt_n.2, c.loop-s-test.true);
}

pub store-requires : goal.store-requires
store-requires c = record {
  at_in_bounds = (place-2 c).inside;
  number_bound = omega (arith, lowest_le c.lowest-number.ensures, c.load-old.ensures.small);
}

pub loop-s-preserved : goal.loop-s-preserved
loop-s-preserved c =
    let a = c.args in (
      lowered_more c.loop-s-test.true c.requires.x_lt_n.1 c.loop-s.invariant.0 c.store.ensures
          (subst (λ (old : ℕ). Lowest (morphism_at a.rule.now a.n a.k) a.x a.e a.f c.loop-s.s old c.lowest-number.result) c.load-old.ensures.is_number c.lowest-number.ensures),
      omega arith,
    )

pub shape_of-out : goal.shape_of-out
shape_of-out c = c.loop-s.invariant.0.kept.same_length

pub returns : goal.returns
returns c =
    let a = c.args in
    let q : c.loop-s.s ≡ a.n = omega arith in
    subst (λ (s : ℕ). Lowered (morphism_at a.rule.now a.n a.k) a.x a.e a.f s a.out.now c.loop-s.out) q c.loop-s.invariant.0
