-- `mark_class_numbers::lowest` meets its contract: each way through the tests is one of its cases. Assumes nothing.
use Rattle.rule_table.proofs.Facts.{product_below}
use Rattle.rule_table.proofs.Places.{row_fits, entry_fits}
use Rattle.theory.proofs.BestConjugates.{better_moved}
use Rattle.mark_class_numbers.proofs.Factors.{lowest_less, lowest_not}
use Rattle.mark_class_numbers.proofs.lowest.Goals as goal

pub returns-then-kept-s : goal.returns-then-kept-s
returns-then-kept-s c = better_moved c.product-kept.ensures c.if-kept-s.true

pub overflow_mul-number : goal.overflow_mul-number
overflow_mul-number c =
    let below = product_below c.requires.table c.requires.x_lt_n.3 c.requires.x_lt_n.0 c.product-t.ensures in
    search row_fits

pub overflow_add-number : goal.overflow_add-number
overflow_add-number c =
    let below = product_below c.requires.table c.requires.x_lt_n.3 c.requires.x_lt_n.0 c.product-t.ensures in
    search entry_fits

pub returns-then-number-old : goal.returns-then-number-old
returns-then-number-old c =
    lowest_less _ _ _ _ _ _ c.product-kept.ensures c.product-t.ensures c.if-kept-s.false c.if-number-old.true

pub returns : goal.returns
returns c =
    lowest_not _ _ _ _ _ _ c.product-kept.ensures c.product-t.ensures c.if-number-old.false
