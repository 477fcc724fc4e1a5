-- `mark_closure::close_pairs` meets its contract: the factors x that were passed were tried with every y. Assumes nothing.
use Prim.Native.Nat.{ℕ, ◌*◌}
use mathlib.Core.Path.{◌≡◌, subst}
use native.Mathlib.Omega.{arith}
use native.Mathlib.Nat.{zero-mul}
use Rattle.formats.specs.Table.{morphism_at}
use Rattle.mark_closure.specs.Closing.{ClosureAdvanced}
use Rattle.mark_closure.proofs.Tables.{kept_none}
use Rattle.mark_closure.proofs.Passes.{closed_none, advanced_row}
use Rattle.mark_closure.proofs.close_pairs.Goals as goal

pub loop-x-init : goal.loop-x-init
loop-x-init c =
    (rw zero-mul (record { so_far = closed_none c.requires.table.small c.requires.closure_room; kept = kept_none _ _ }), omega arith)

pub close_row-requires : goal.close_row-requires
close_row-requires c = record {
  table = c.requires.table;
  lawful = c.requires.lawful;
  x_lt_n = c.loop-x-test.true;
  closed_so_far = c.loop-x.invariant.0.so_far;
}

pub loop-x-preserved : goal.loop-x-preserved
loop-x-preserved c =
    (advanced_row c.loop-x.x c.loop-x.invariant.0 c.close_row.ensures, omega arith)

pub shape_of-scratch : goal.shape_of-scratch
shape_of-scratch c = c.loop-x.invariant.0.kept.same_length

pub returns : goal.returns
returns c =
    let a = c.args in
    let q : c.loop-x.x ≡ a.n = omega arith in
    subst (λ (x : ℕ). ClosureAdvanced (morphism_at a.rule.now a.n a.k) (x * a.n) a.scratch.now c.loop-x.scratch) q c.loop-x.invariant.0
