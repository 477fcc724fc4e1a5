-- Two rule files checked in one scratch: what is answered, and what scratch holds then. Assumes nothing.
use Rattle.std.specs.Prelude.{Result, Ok, Err}
use Rattle.answer.specs.declared.Refused.{Refused}
use Rattle.std.specs.Prelude.{ℕ, ◌+◌, ◌≡◌, List, ◌++◌, length}
use Rattle.answer.specs.Checks.{FirstFailure}
use Rattle.formats.specs.RuleFile.{elements_of, marking_of}
use Rattle.formats.specs.RuleChecks.{rule_checks}
use Rattle.formats.specs.Calls.{after_call, checked_checks}
use Rattle.scratch.specs.Bytes.{UnchangedOutside}
use Rattle.scratch.specs.Map.{mark_table_size, search_end, MarkingAt}
use Rattle.rule_layout.specs.declared.Shape.{Shape}
use Rattle.rule_layout.specs.Answers.{IsShape}
use Rattle.answer.specs.Checks.{verdict_of}

-- a rule checked in the part of scratch that begins at a byte: its counts, and its marks there; what stands outside the table of marks is as
-- it was
pub record RuleCheckedAt (base : ℕ) (bytes : List ℕ) (shape : Shape) (entry exit : List ℕ) : Type 0 where
  pub shape_is : IsShape bytes shape
  pub marks : MarkingAt (elements_of bytes) (marking_of bytes) exit base
  pub kept : UnchangedOutside base (base + mark_table_size) entry exit

-- of a refused rule only the length of scratch is said
abbrev pub SecondAfter : List ℕ → List ℕ → List ℕ → Result Shape Refused → Type 0
SecondAfter bytes entry exit (Ok shape) = RuleCheckedAt search_end bytes shape entry exit
SecondAfter bytes entry exit (Err refusal) = length exit ≡ length entry

-- the second file's own checks, in input 2; its marks stand behind the bytes that a search uses
pub record SecondVerdict (bytes entry exit : List ℕ) (answer : Result Shape Refused) : Type 0 where
  pub refusal : FirstFailure (rule_checks 2 bytes) (verdict_of answer)
  pub marks : SecondAfter bytes entry exit answer

-- two checked rules: their counts, and the marks of both in scratch
pub record BothStand (first second : List ℕ) (one two : Shape) (entry exit : List ℕ) : Type 0 where
  pub first_shape : IsShape first one
  pub second_shape : IsShape second two
  pub first_marks : MarkingAt (elements_of first) (marking_of first) exit 0
  pub second_marks : MarkingAt (elements_of second) (marking_of second) exit search_end
  pub same_length : length exit ≡ length entry

abbrev pub BothAfter : List ℕ → List ℕ → List ℕ → List ℕ → Result (Shape × Shape) Refused → Type 0
BothAfter first second entry exit (Ok (one, two)) = BothStand first second one two entry exit
BothAfter first second entry exit (Err refusal) = exit ≡ after_call entry

-- the promise of both checks: "First 13", then the checks of the first file and those of the second, as inputs 1 and 2
pub record BothPromise (first second entry exit : List ℕ) (answer : Result (Shape × Shape) Refused) : Type 0 where
  pub refusal : FirstFailure (checked_checks 1 first entry ++ rule_checks 2 second) (verdict_of answer)
  pub scratch : BothAfter first second entry exit answer
