-- One lemma for each way: the second factor is a letter's own matrix, or one before it and a letter. Assumes nothing.
use native.Mathlib.Omega.{arith}
use mir.Facts.{Fits-8_64}
use Rattle.word_table.proofs.Numbers.{letter_small, letter_product, before_place, before_below, longer_product}
use Rattle.word_table.proofs.product_number.Goals as goal

pub overflow_cast-parent : goal.overflow_cast-parent
overflow_cast-parent c = Fits-8_64 (c.type_inv.scratch _)

pub overflow_cast-letter : goal.overflow_cast-letter
overflow_cast-letter c = Fits-8_64 (c.type_inv.scratch _)

pub overflow_add-result-then-parent-eq0 : goal.overflow_add-result-then-parent-eq0
overflow_add-result-then-parent-eq0 c = omega (arith, letter_small c.requires.table_needs c.requires.i_lt_count.0 c.requires.i_lt_count.1, c.requires.table_needs.few, c.requires.table_needs.room)

pub overflow_add-result-then-parent-eq0-2 : goal.overflow_add-result-then-parent-eq0-2
overflow_add-result-then-parent-eq0-2 c = omega (arith, letter_small c.requires.table_needs c.requires.i_lt_count.0 c.requires.i_lt_count.1, c.requires.table_needs.few, c.requires.table_needs.room)

pub bounds-scratch-i : goal.bounds-scratch-i
bounds-scratch-i c = omega (arith, letter_small c.requires.table_needs c.requires.i_lt_count.0 c.requires.i_lt_count.1, c.requires.table_needs.few, c.requires.table_needs.room)

pub returns-then-parent-eq0 : goal.returns-then-parent-eq0
returns-then-parent-eq0 c = letter_product c.requires.table_needs c.requires.i_lt_count.0 c.requires.i_lt_count.1 c.if-parent-eq0.true

pub overflow_mul-before : goal.overflow_mul-before
overflow_mul-before c = omega (arith, before_place c.requires.table_needs c.requires.i_lt_count.0 c.requires.i_lt_count.1 c.requires.row_laid c.if-parent-eq0.false)

pub overflow_add-before : goal.overflow_add-before
overflow_add-before c = omega (arith, before_place c.requires.table_needs c.requires.i_lt_count.0 c.requires.i_lt_count.1 c.requires.row_laid c.if-parent-eq0.false)

pub overflow_add-before-2 : goal.overflow_add-before-2
overflow_add-before-2 c = omega (arith, before_place c.requires.table_needs c.requires.i_lt_count.0 c.requires.i_lt_count.1 c.requires.row_laid c.if-parent-eq0.false)

pub bounds-scratch-i-2 : goal.bounds-scratch-i-2
bounds-scratch-i-2 c = omega (arith, before_place c.requires.table_needs c.requires.i_lt_count.0 c.requires.i_lt_count.1 c.requires.row_laid c.if-parent-eq0.false, c.requires.table_needs.room)

pub overflow_cast-before : goal.overflow_cast-before
overflow_cast-before c = Fits-8_64 (c.type_inv.scratch _)

pub overflow_add-result-2 : goal.overflow_add-result-2
overflow_add-result-2 c = omega (arith, before_below c.requires.table_needs c.requires.i_lt_count.0 c.requires.i_lt_count.1 c.requires.row_laid c.if-parent-eq0.false, letter_small c.requires.table_needs c.requires.i_lt_count.0 c.requires.i_lt_count.1, c.requires.table_needs.few, c.requires.table_needs.room)

pub overflow_mul-result-2 : goal.overflow_mul-result-2
overflow_mul-result-2 c = omega (arith, before_below c.requires.table_needs c.requires.i_lt_count.0 c.requires.i_lt_count.1 c.requires.row_laid c.if-parent-eq0.false, letter_small c.requires.table_needs c.requires.i_lt_count.0 c.requires.i_lt_count.1, c.requires.table_needs.few, c.requires.table_needs.room)

pub overflow_add-result-3 : goal.overflow_add-result-3
overflow_add-result-3 c = omega (arith, before_below c.requires.table_needs c.requires.i_lt_count.0 c.requires.i_lt_count.1 c.requires.row_laid c.if-parent-eq0.false, letter_small c.requires.table_needs c.requires.i_lt_count.0 c.requires.i_lt_count.1, c.requires.table_needs.few, c.requires.table_needs.room)

pub overflow_add-result-4 : goal.overflow_add-result-4
overflow_add-result-4 c = omega (arith, before_below c.requires.table_needs c.requires.i_lt_count.0 c.requires.i_lt_count.1 c.requires.row_laid c.if-parent-eq0.false, letter_small c.requires.table_needs c.requires.i_lt_count.0 c.requires.i_lt_count.1, c.requires.table_needs.few, c.requires.table_needs.room)

pub bounds-scratch-before : goal.bounds-scratch-before
bounds-scratch-before c = omega (arith, before_below c.requires.table_needs c.requires.i_lt_count.0 c.requires.i_lt_count.1 c.requires.row_laid c.if-parent-eq0.false, letter_small c.requires.table_needs c.requires.i_lt_count.0 c.requires.i_lt_count.1, c.requires.table_needs.few, c.requires.table_needs.room)

pub returns : goal.returns
returns c = longer_product c.requires.table_needs c.requires.i_lt_count.0 c.requires.i_lt_count.1 c.requires.row_laid c.if-parent-eq0.false
