-- Each number is refused in its turn, and else the rule is written. Assumes nothing.
use Rattle.formats.proofs.Buffers.{buffer_short, buffer_long}
use Rattle.first_letter_call.proofs.Calling.{letters_few, letters_many, letters_pass, grade_high, grade_passes, set_foreign, set_passes, first_refused}
use Rattle.first_letter_call.proofs.first_letter.Goals as goal

pub returns-then-out-lt-RULE_SIZE : goal.returns-then-out-lt-RULE_SIZE
returns-then-out-lt-RULE_SIZE c = first_refused c.refused.ensures (buffer_short c.if-out-lt-RULE_SIZE.true)

pub returns-then-letters-lt1 : goal.returns-then-letters-lt1
returns-then-letters-lt1 c = first_refused c.refused-then-letters-lt1.ensures (buffer_long c.if-out-lt-RULE_SIZE.false (letters_few c.if-letters-lt1.true))

pub returns-then-letters-gt16 : goal.returns-then-letters-gt16
returns-then-letters-gt16 c = first_refused c.refused-then-letters-gt16.ensures (buffer_long c.if-out-lt-RULE_SIZE.false (letters_many c.if-letters-gt16.true))

pub returns-then-grade-gt3 : goal.returns-then-grade-gt3
returns-then-grade-gt3 c = first_refused c.refused-then-grade-gt3.ensures (buffer_long c.if-out-lt-RULE_SIZE.false (letters_pass c.if-letters-lt1.false c.if-letters-gt16.false (grade_high c.if-grade-gt3.true)))

pub returns-then-foreign-lt64 : goal.returns-then-foreign-lt64
returns-then-foreign-lt64 c =
    first_refused c.refused-then-foreign-lt64.ensures
    (buffer_long c.if-out-lt-RULE_SIZE.false (letters_pass c.if-letters-lt1.false c.if-letters-gt16.false (grade_passes c.if-grade-gt3.false (set_foreign c.first_foreign-foreign.ensures c.if-foreign-lt64.true))))

pub returns : goal.returns
returns c =
    record {
      refusal = buffer_long c.if-out-lt-RULE_SIZE.false (letters_pass c.if-letters-lt1.false c.if-letters-gt16.false (grade_passes c.if-grade-gt3.false (set_passes c.first_foreign-foreign.ensures c.ranges.set.fits c.if-foreign-lt64.false)));
      answered = c.write_first.ensures;
    }
