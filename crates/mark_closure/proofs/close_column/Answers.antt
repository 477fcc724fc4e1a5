-- `mark_closure::close_column` meets its contract: the bytes of the elements that were passed have changed. Assumes nothing.
use Prim.Native.Nat.{ℕ}
use mathlib.Core.Path.{◌≡◌, subst}
use native.Mathlib.Omega.{arith}
use Rattle.formats.specs.Table.{morphism_at}
use Rattle.mark_closure.specs.Closing.{ColumnClosed}
use Rattle.mark_closure.proofs.Columns.{column_none, column_more}
use Rattle.mark_closure.proofs.close_column.Goals as goal

pub loop-s-init : goal.loop-s-init
loop-s-init c = (column_none _ _ _ _ _, omega arith)

pub byte_after-byte-requires : goal.byte_after-byte-requires
byte_after-byte-requires c = record {
  table = c.requires.table;
  tables_end_in_bounds = omega (arith, c.requires.tables_end_in_bounds, c.loop-s.invariant.0.kept.same_length);
  x_lt_n = (c.requires.x_lt_n.0, c.requires.x_lt_n.1, c.requires.x_lt_n.2, c.loop-s-test.true);
}

pub bounds-scratch-s : goal.bounds-scratch-s
bounds-scratch-s c = omega (arith, c.loop-s.invariant.0.kept.same_length)

pub loop-s-preserved : goal.loop-s-preserved
loop-s-preserved c =
    let below = c.requires.x_lt_n in (
      column_more c.requires.table.small c.loop-s-test.true below.1 below.2 (c.requires.table.products c.loop-s.s c.args.x c.loop-s-test.true below.0)
          (omega (arith, c.loop-s.invariant.0.kept.same_length)) c.loop-s.invariant.0 c.byte_after-byte.ensures,
      omega arith,
    )

pub shape_of-scratch : goal.shape_of-scratch
shape_of-scratch c = c.loop-s.invariant.0.kept.same_length

pub returns : goal.returns
returns c =
    let a = c.args in
    let q : c.loop-s.s ≡ a.n = omega arith in
    subst (λ (s : ℕ). ColumnClosed (morphism_at a.rule.now a.n a.k) a.x a.e a.f s a.scratch.now c.loop-s.scratch) q c.loop-s.invariant.0
