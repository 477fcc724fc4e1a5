-- The three loops pass the triples in order, and every triple passed associates; they end at the first that does not, or
-- past all of them. Assumes nothing.
use native.Mathlib.Omega.{arith}
use Rattle.rule_table.proofs.Facts.{table_place, product_below}
use Rattle.rule_table.proofs.Searched.{searched_start, next_c, next_b, next_a, searched_all, searched_found}
use Rattle.rule_table.proofs.first_not_associative.Goals as goal

pub search-init : goal.search-init
search-init c = tt

pub loop-a-init : goal.loop-a-init
loop-a-init c = searched_start c.requires

pub loop-b-init : goal.loop-b-init
loop-b-init c = c.loop-a.invariant

pub product-ab-requires : goal.product-ab-requires
product-ab-requires c = table_place c.loop-b.invariant.table (omega arith) (omega arith)

pub loop-c-init : goal.loop-c-init
loop-c-init c = c.loop-b.invariant

pub product-bc-requires : goal.product-bc-requires
product-bc-requires c = table_place c.loop-c.invariant.table (omega arith) (omega arith)

pub product-left-requires : goal.product-left-requires
product-left-requires c =
    let t = c.loop-c.invariant.table in
    table_place t (product_below t (omega arith) (omega arith) c.product-ab.ensures) (omega arith)

pub product-right-requires : goal.product-right-requires
product-right-requires c =
    let t = c.loop-c.invariant.table in
    table_place t (omega arith) (product_below t (omega arith) (omega arith) c.product-bc.ensures)

pub loop-c-preserved : goal.loop-c-preserved
loop-c-preserved c =
    next_c c.loop-c.invariant c.product-ab.ensures c.product-bc.ensures
    c.product-left.ensures
    c.product-right.ensures
    c.if-left-right.false

pub loop-b-preserved : goal.loop-b-preserved
loop-b-preserved c = next_b c.loop-c.invariant c.loop-c-test.false

pub loop-a-preserved : goal.loop-a-preserved
loop-a-preserved c = next_a c.loop-b.invariant c.loop-b-test.false

pub returns-then-left-right : goal.returns-then-left-right
returns-then-left-right c =
    searched_found c.loop-c.invariant c.product-ab.ensures c.product-bc.ensures
    c.product-left.ensures
    c.product-right.ensures
    (omega arith)
    (omega arith)
    (omega arith)
    c.if-left-right.true

pub returns-after-loop-a : goal.returns-after-loop-a
returns-after-loop-a c = searched_all c.loop-a.invariant c.loop-a-test.false
