-- `mark_complement_marks::turn_row` meets its contract: the pairs (s, e) that were passed have their bytes. Assumes nothing.
use Prim.Native.Nat.{ℕ}
use mathlib.Core.Path.{◌≡◌, subst}
use native.Mathlib.Omega.{arith}
use Rattle.formats.specs.Table.{morphism_at}
use Rattle.mark_complement_marks.specs.Complement.{ComplementRow}
use Rattle.mark_complement_marks.proofs.Turned.{row_none, row_more}
use Rattle.mark_complement_marks.proofs.turn_row.Goals as goal

pub loop-e-init : goal.loop-e-init
loop-e-init c = (row_none _ _ _, omega arith)

pub complement_byte-byte-requires : goal.complement_byte-byte-requires
complement_byte-byte-requires c = record {
  table = c.requires.table;
  tables_end_in_bounds = omega (arith, c.requires.tables_end_in_bounds, c.loop-e.invariant.0.same_length);
  s_lt_n = (c.requires.s_lt_n, c.loop-e-test.true);
}

pub bounds-scratch-s : goal.bounds-scratch-s
bounds-scratch-s c = omega (arith, c.loop-e.invariant.0.same_length)

pub loop-e-preserved : goal.loop-e-preserved
loop-e-preserved c =
    (row_more (omega arith) (omega (arith, c.loop-e.invariant.0.same_length)) c.loop-e.invariant.0 c.complement_byte-byte.ensures, omega arith)

pub shape_of-scratch : goal.shape_of-scratch
shape_of-scratch c = c.loop-e.invariant.0.same_length

pub returns : goal.returns
returns c =
    let a = c.args in
    let q : c.loop-e.e ≡ a.n = omega arith in
    subst (λ (e : ℕ). ComplementRow (morphism_at a.rule.now a.n a.k) a.s e a.scratch.now c.loop-e.scratch) q c.loop-e.invariant.0
