-- `mark_class_numbers::begin` meets its contract: the rows that were passed have their first numbers. Assumes nothing.
use Prim.Native.Nat.{ℕ, ◌*◌}
use mathlib.Core.Path.{◌≡◌, subst}
use native.Mathlib.Omega.{arith}
use native.Mathlib.Nat.{zero-mul}
use Rattle.formats.specs.Table.{morphism_at}
use Rattle.mark_class_numbers.specs.Cells.{Begun}
use Rattle.mark_class_numbers.proofs.Passes.{begun_none, begun_row, begun_all}
use Rattle.mark_class_numbers.proofs.begin.Goals as goal

pub loop-s-init : goal.loop-s-init
loop-s-init c = (rw zero-mul (begun_none _ 0 _), omega arith)

pub begin_row-requires : goal.begin_row-requires
begin_row-requires c = record {
  table = c.requires.table;
  lawful = c.requires.lawful;
  n_in_bounds = (omega (arith, c.requires.n_in_bounds, c.loop-s.invariant.0.kept.same_length), c.loop-s-test.true);
}

pub loop-s-preserved : goal.loop-s-preserved
loop-s-preserved c =
    (begun_row c.loop-s.s c.loop-s.invariant.0 c.begin_row.ensures, omega arith)

pub shape_of-out : goal.shape_of-out
shape_of-out c = c.loop-s.invariant.0.kept.same_length

pub returns : goal.returns
returns c =
    let a = c.args in
    let q : c.loop-s.s ≡ a.n = omega arith in
    begun_all (subst (λ (s : ℕ). Begun (morphism_at a.rule.now a.n a.k) 0 (s * a.n) a.out.now c.loop-s.out) q c.loop-s.invariant.0)
