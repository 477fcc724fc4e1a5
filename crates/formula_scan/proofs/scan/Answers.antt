-- `formula_scan::scan` meets its contract: the letters, the length, and the operations. Assumes nothing.
use Rattle.formula_scan.proofs.Passing.{too_long, length_passes}
use Rattle.first_letter_call.proofs.Calling.{letters_few, letters_many, letters_pass}
use Rattle.formula_scan.proofs.scan.Goals as goal

pub returns-then-letters-lt1 : goal.returns-then-letters-lt1
returns-then-letters-lt1 c = letters_few c.if-letters-lt1.true

pub returns-then-letters-gt16 : goal.returns-then-letters-gt16
returns-then-letters-gt16 c = letters_many c.if-letters-gt16.true

pub returns-then-formula-gt-LONGEST_FORMULA : goal.returns-then-formula-gt-LONGEST_FORMULA
returns-then-formula-gt-LONGEST_FORMULA c =
    letters_pass c.if-letters-lt1.false c.if-letters-gt16.false (too_long c.if-formula-gt-LONGEST_FORMULA.true)

pub returns : goal.returns
returns c =
    letters_pass c.if-letters-lt1.false c.if-letters-gt16.false (length_passes c.if-formula-gt-LONGEST_FORMULA.false c.scan_operations.ensures)
