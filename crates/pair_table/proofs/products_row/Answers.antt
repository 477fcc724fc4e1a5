-- `pair_table::products_row` meets its contract: the pairs (i, j) that were passed have their products. Assumes nothing.
use mathlib.Core.Path.{◌∙◌}
use native.Mathlib.Omega.{arith}
use Rattle.scratch.proofs.Rows.{pair_small, filled_none, filled_more, filled_all}
use Rattle.pair_table.proofs.Kept.{product_inside, product_kept, pairs_kept}
use Rattle.pair_table.proofs.products_row.Goals as goal

pub loop-j-init : goal.loop-j-init
loop-j-init c = (filled_none _ _, omega arith)

pub pair_product-place-requires : goal.pair_product-place-requires
pair_product-place-requires c = record {
  two_tables = c.requires.two_tables;
  pairs_needs = pairs_kept c.loop-j.invariant.0.kept (omega arith) c.requires.two_tables c.requires.pairs_needs;
  i_lt_count = (c.requires.i_lt_count, c.loop-j-test.true);
}

pub overflow_mul-scratch : goal.overflow_mul-scratch
overflow_mul-scratch c =
    omega (arith, pair_small _ _ _ c.requires.pairs_needs.halves.few c.requires.i_lt_count c.loop-j-test.true)

pub overflow_add-scratch : goal.overflow_add-scratch
overflow_add-scratch c =
    omega (arith, pair_small _ _ _ c.requires.pairs_needs.halves.few c.requires.i_lt_count c.loop-j-test.true)

pub overflow_add-scratch-in-loop-j : goal.overflow_add-scratch-in-loop-j
overflow_add-scratch-in-loop-j c =
    omega (arith, pair_small _ _ _ c.requires.pairs_needs.halves.few c.requires.i_lt_count c.loop-j-test.true)

pub bounds-scratch-i : goal.bounds-scratch-i
bounds-scratch-i c =
    omega
    (arith, pair_small _ _ _ c.requires.pairs_needs.halves.few c.requires.i_lt_count c.loop-j-test.true, c.requires.pairs_needs.halves.room, c.loop-j.invariant.0.kept.same_length)

pub loop-j-preserved : goal.loop-j-preserved
loop-j-preserved c =
    let kept = c.loop-j.invariant.0.kept in
    let inside = product_inside c.requires.pairs_needs.halves _ _ c.requires.i_lt_count c.loop-j-test.true kept in (
      filled_more (omega arith) inside c.loop-j.invariant.0
          (c.pair_product-place.ensures ∙ product_kept kept (omega arith) c.requires.two_tables c.requires.pairs_needs.halves _ _ c.requires.i_lt_count c.loop-j-test.true),
      omega arith,
    )

pub shape_of-scratch : goal.shape_of-scratch
shape_of-scratch c = c.loop-j.invariant.0.kept.same_length

pub returns : goal.returns
returns c = filled_all c.loop-j.invariant.1 c.loop-j-test.false c.loop-j.invariant.0
