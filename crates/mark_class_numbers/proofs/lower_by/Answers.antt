-- `mark_class_numbers::lower_by` meets its contract: factors whose products are not both idempotent give no conjugates, and others lower the
-- numbers of a column. Assumes nothing.
use Rattle.rule_table.proofs.Facts.{table_place, product_below}
use Rattle.theory.proofs.BestConjugates.{so_far_left, so_far_right}
use Rattle.scratch.proofs.Unchanged.{unchanged_none}
use Rattle.mark_class_numbers.proofs.Passes.{advanced_lowered}
use Rattle.mark_class_numbers.proofs.lower_by.Goals as goal

pub product-ee-requires : goal.product-ee-requires
product-ee-requires c =
    let h = product_below c.requires.table c.requires.x_lt_n.0 c.requires.x_lt_n.1 c.product-e.ensures in
    table_place c.requires.table h h

pub returns-then-ee-e : goal.returns-then-ee-e
returns-then-ee-e c =
    let old = c.requires.classed in
    let numbers = so_far_left c.requires.x_lt_n.0 c.requires.x_lt_n.1 old.numbers c.product-e.ensures c.product-f.ensures c.product-ee.ensures c.if-ee-e.true in
    record { classed = record { numbers = numbers; bytes_small = old.bytes_small }; kept = unchanged_none 0 _ _ }

pub product-ff-requires : goal.product-ff-requires
product-ff-requires c =
    let e-below = product_below c.requires.table c.requires.x_lt_n.0 c.requires.x_lt_n.1 c.product-e.ensures in
    let f-below = product_below c.requires.table c.requires.x_lt_n.1 c.requires.x_lt_n.0 c.product-f.ensures in
    let table = c.requires.table in
    search table_place

pub returns-then-ff-f : goal.returns-then-ff-f
returns-then-ff-f c =
    let old = c.requires.classed in
    let numbers = so_far_right c.requires.x_lt_n.0 c.requires.x_lt_n.1 old.numbers c.product-e.ensures c.product-f.ensures c.product-ff.ensures c.if-ff-f.true in
    record { classed = record { numbers = numbers; bytes_small = old.bytes_small }; kept = unchanged_none 0 _ _ }

pub lower-requires : goal.lower-requires
lower-requires c = record {
  table = c.requires.table;
  x_lt_n = (
    c.requires.x_lt_n.0,
    product_below c.requires.table c.requires.x_lt_n.0 c.requires.x_lt_n.1 c.product-e.ensures,
    product_below c.requires.table c.requires.x_lt_n.1 c.requires.x_lt_n.0 c.product-f.ensures,
  );
  n_in_bounds = c.requires.n_in_bounds;
}

pub returns : goal.returns
returns c =
    advanced_lowered c.requires.lawful c.requires.x_lt_n.0 c.requires.x_lt_n.1 c.requires.classed c.product-e.ensures c.product-f.ensures
    c.product-ee.ensures c.if-ee-e.false c.product-ff.ensures c.if-ff-f.false
    c.lower.ensures
