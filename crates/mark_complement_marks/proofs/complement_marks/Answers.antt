-- `mark_complement_marks::complement_marks` meets its contract: the pairs that begin with an element that was passed have their bytes.
-- Assumes nothing.
use Prim.Native.Nat.{ℕ}
use mathlib.Core.Path.{◌≡◌, subst}
use native.Mathlib.Omega.{arith}
use Rattle.formats.specs.Table.{morphism_at}
use Rattle.mark_complement_marks.specs.Complement.{ComplementRows}
use Rattle.mark_complement_marks.proofs.Turned.{rows_none, rows_more, rows_all}
use Rattle.mark_complement_marks.proofs.complement_marks.Goals as goal

pub loop-s-init : goal.loop-s-init
loop-s-init c = (rows_none _ _, omega arith)

pub turn_row-requires : goal.turn_row-requires
turn_row-requires c = record {
  table = c.requires.table;
  tables_end_in_bounds = omega (arith, c.requires.tables_end_in_bounds, c.loop-s.invariant.0.same_length);
  s_lt_n = c.loop-s-test.true;
}

pub loop-s-preserved : goal.loop-s-preserved
loop-s-preserved c =
    (rows_more c.requires.table.small c.loop-s.invariant.0 c.turn_row.ensures, omega arith)

pub shape_of-scratch : goal.shape_of-scratch
shape_of-scratch c = c.loop-s.invariant.0.same_length

pub returns : goal.returns
returns c =
    let a = c.args in
    let q : c.loop-s.s ≡ a.n = omega arith in
    rows_all c.requires.table.small
    (subst (λ (s : ℕ). ComplementRows (morphism_at a.rule.now a.n a.k) s a.scratch.now c.loop-s.scratch) q c.loop-s.invariant.0)
