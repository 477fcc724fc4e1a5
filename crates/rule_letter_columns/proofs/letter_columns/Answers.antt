-- The loops hold the columns that were filled, and the part of the one that is being filled. The measures are the numbers of columns and
-- of elements left. Assumes nothing.
use mathlib.Core.Path.{refl}
use native.Mathlib.Omega.{arith}
use borrow.Author.Rules.{rules}
use mir.Facts.{Fits-8_64}
use Rattle.rule_table.proofs.Facts.{table_place, product_below}
use Rattle.rule_letter_columns.proofs.Entries.{letters_few}
use Rattle.rule_letter_columns.proofs.Passed.{columns_start, column_more, columns_next, columns_all}
use Rattle.rule_letter_columns.proofs.letter_columns.Goals as goal

pub loop-j-init : goal.loop-j-init
loop-j-init c = columns_start (search rules)

pub bounds-queue-j : goal.bounds-queue-j
bounds-queue-j c =
    omega (arith, c.requires.all_found.room, c.requires.all_found.few, c.requires.table.small, c.requires.letter_entries.few)

pub overflow_cast-h : goal.overflow_cast-h
overflow_cast-h c = Fits-8_64 (c.type_inv.queue _)

pub loop-x-init : goal.loop-x-init
loop-x-init c =
    let here = c.loop-j in
    record {
      filled = here.invariant;
      element = refl;
      inside = c.requires.all_found.inside here.j (omega (arith, c.requires.letter_entries.few));
      below = omega (arith, letters_few c.requires.all_found c.requires.letter_entries c.requires.table, c.loop-j-test.true);
    }

pub product-xh-requires : goal.product-xh-requires
product-xh-requires c =
    table_place c.requires.table (omega arith) (omega arith)

pub overflow_cast-columns : goal.overflow_cast-columns
overflow_cast-columns c =
    let t = c.requires.table in
    omega (arith, t.small, product_below t (omega arith) (omega arith) c.product-xh.ensures)

pub overflow_mul-columns : goal.overflow_mul-columns
overflow_mul-columns c = omega (arith, c.loop-x.invariant.below)

pub overflow_add-columns : goal.overflow_add-columns
overflow_add-columns c =
    omega (arith, c.loop-x.invariant.below, c.requires.table.small)

pub bounds-columns-j : goal.bounds-columns-j
bounds-columns-j c =
    omega (arith, c.loop-x.invariant.below, c.requires.table.small)

pub loop-x-preserved : goal.loop-x-preserved
loop-x-preserved c =
    column_more c.requires.table.small c.loop-x.invariant c.loop-x-test.true c.product-xh.ensures

pub loop-j-preserved : goal.loop-j-preserved
loop-j-preserved c = columns_next c.loop-x.invariant.filled c.loop-x-test.false

pub returns : goal.returns
returns c = columns_all c.loop-j.invariant c.loop-j-test.false
