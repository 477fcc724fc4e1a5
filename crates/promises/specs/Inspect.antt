-- What `inspect` promises. Assumes nothing.
use Rattle.std.specs.Prelude.{ℕ, ◌≡◌, List}
use Rattle.answer.specs.Checks.{Verdict, passed, refused, FirstFailure}
use Rattle.formats.specs.RuleFile.{elements_of, letters_of, marks_of}
use Rattle.promises.specs.declared.Inspected.{Inspected}
use Rattle.promises.specs.declared.Inspected.TheVariants.{Rule as Inspected-rule, Refused as Inspected-refused}
use Rattle.formats.specs.Calls.{after_call, checked_checks}

-- document 01's number, input and place of an inspection: those of its verdict
abbrev pub inspected_verdict : Inspected → Verdict
inspected_verdict (Inspected-rule elements letters marks) = passed
inspected_verdict (Inspected-refused refusal input place) = refused refusal input place

-- the counts that a rule file states
pub record RuleCounts (bytes : List ℕ) (elements letters marks : ℕ) : Type 0 where
  pub elements_are : elements ≡ elements_of bytes
  pub letters_are : letters ≡ letters_of bytes
  pub marks_are : marks ≡ marks_of bytes

-- an inspection that finds a rule says its counts
abbrev pub InspectedCounts : List ℕ → Inspected → Type 0
InspectedCounts bytes (Inspected-rule elements letters marks) = RuleCounts bytes elements letters marks
InspectedCounts bytes (Inspected-refused refusal input place) = Unit {0}

-- the promise of an inspection: which refusal and when; else the rule's counts; and scratch as every call leaves it
pub record InspectPromise (bytes entry exit : List ℕ) (answer : Inspected) : Type 0 where
  pub refusal : FirstFailure (checked_checks 1 bytes entry) (inspected_verdict answer)
  pub values : InspectedCounts bytes answer
  pub scratch : exit ≡ after_call entry
