-- `mark_closure::close_by` meets its contract: factors whose products are not both idempotent take no pair to a marked pair, and others
-- add a column. Assumes nothing.
use Rattle.rule_table.proofs.Facts.{table_place, product_below}
use Rattle.theory.proofs.BestConjugates.{so_far_left, so_far_right, so_far_column}
use Rattle.mark_closure.proofs.Tables.{kept_none}
use Rattle.mark_closure.proofs.Passes.{advanced_by}
use Rattle.mark_closure.proofs.close_by.Goals as goal

pub product-ee-requires : goal.product-ee-requires
product-ee-requires c =
    let h = product_below c.requires.table c.requires.x_lt_n.0 c.requires.x_lt_n.1 c.product-e.ensures in
    table_place c.requires.table h h

pub returns-then-ee-e : goal.returns-then-ee-e
returns-then-ee-e c =
    let tried = so_far_left c.requires.x_lt_n.0 c.requires.x_lt_n.1 c.requires.closed_so_far.marks c.product-e.ensures c.product-f.ensures c.product-ee.ensures c.if-ee-e.true in
    record { so_far = record { room = c.requires.closed_so_far.room; marks = tried }; kept = kept_none _ _ }

pub product-ff-requires : goal.product-ff-requires
product-ff-requires c =
    let e-below = product_below c.requires.table c.requires.x_lt_n.0 c.requires.x_lt_n.1 c.product-e.ensures in
    let f-below = product_below c.requires.table c.requires.x_lt_n.1 c.requires.x_lt_n.0 c.product-f.ensures in
    let table = c.requires.table in
    search table_place

pub returns-then-ff-f : goal.returns-then-ff-f
returns-then-ff-f c =
    let tried = so_far_right c.requires.x_lt_n.0 c.requires.x_lt_n.1 c.requires.closed_so_far.marks c.product-e.ensures c.product-f.ensures c.product-ff.ensures c.if-ff-f.true in
    record { so_far = record { room = c.requires.closed_so_far.room; marks = tried }; kept = kept_none _ _ }

pub close_column-requires : goal.close_column-requires
close_column-requires c = record {
  table = c.requires.table;
  tables_end_in_bounds = c.requires.closed_so_far.room;
  x_lt_n = (
    c.requires.x_lt_n.0,
    product_below c.requires.table c.requires.x_lt_n.0 c.requires.x_lt_n.1 c.product-e.ensures,
    product_below c.requires.table c.requires.x_lt_n.1 c.requires.x_lt_n.0 c.product-f.ensures,
  );
}

pub returns : goal.returns
returns c =
    let l = c.close_column.ensures in
    advanced_by c.requires.table.small c.requires.lawful c.requires.closed_so_far.room l.kept
    (so_far_column c.requires.x_lt_n.0 c.requires.x_lt_n.1 c.requires.closed_so_far.marks c.product-e.ensures c.product-f.ensures c.requires.lawful
    c.product-ee.ensures c.if-ee-e.false c.product-ff.ensures c.if-ff-f.false l.column)
