-- `pair_table::lay_products` meets its contract: the rows that were passed are laid out. Assumes nothing.
use mathlib.Core.Path.{◌∙◌}
use native.Mathlib.Omega.{arith}
use native.Mathlib.Nat.{le_refl}
use Rattle.scratch.specs.Map.{laid_products_base}
use Rattle.scratch.proofs.Rows.{rows_none, rows_more, rows_all}
use Rattle.pair_table.proofs.Kept.{product_kept, pairs_kept}
use Rattle.pair_table.proofs.lay_products.Goals as goal

pub loop-i-init : goal.loop-i-init
loop-i-init c = (rows_none laid_products_base _ _ _, omega arith)

pub products_row-requires : goal.products_row-requires
products_row-requires c = record {
  two_tables = c.requires.two_tables;
  pairs_needs = pairs_kept c.loop-i.invariant.0.kept (omega arith) c.requires.two_tables c.requires.pairs_needs;
  i_lt_count = c.loop-i-test.true;
}

pub loop-i-preserved : goal.loop-i-preserved
loop-i-preserved c = (
  rows_more (le_refl _) c.loop-i.invariant.0 c.products_row.ensures
      (λ j byte h q. q ∙ product_kept c.loop-i.invariant.0.kept (omega arith) c.requires.two_tables c.requires.pairs_needs.halves _ j c.loop-i-test.true h),
  omega arith,
)

pub shape_of-scratch : goal.shape_of-scratch
shape_of-scratch c = c.loop-i.invariant.0.kept.same_length

pub returns : goal.returns
returns c = rows_all c.loop-i.invariant.1 c.loop-i-test.false c.loop-i.invariant.0
