-- Every entry that was passed was found from the empty word's; where one was not, the entries behind it were not either. The measure is
-- the number of entries left. Assumes nothing.
use native.Mathlib.Omega.{arith}
use Rattle.rule_letter_columns.proofs.Passed.{letters_none, letters_one, letters_only}
use Rattle.rule_letter_columns.proofs.Entries.{letters_end}
use Rattle.rule_letter_columns.proofs.letter_entries.Goals as goal

pub loop-i-init : goal.loop-i-init
loop-i-init c = (letters_none, omega arith)

pub bounds-queue-i : goal.bounds-queue-i
bounds-queue-i c =
    omega (arith, c.requires.all_found.room, c.requires.all_found.few, c.requires.table.small)

pub returns-then-queue-i-gt0 : goal.returns-then-queue-i-gt0
returns-then-queue-i-gt0 c = letters_end c.requires.all_found c.loop-i-test.true c.loop-i.invariant.0.first c.if-queue-i-gt0.true

pub loop-i-preserved : goal.loop-i-preserved
loop-i-preserved c = (letters_one c.loop-i.invariant.0 c.if-queue-i-gt0.false, omega arith)

pub returns : goal.returns
returns c = letters_only c.loop-i.invariant.0 c.loop-i-test.false
