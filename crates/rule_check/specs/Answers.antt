-- What the answers of this crate's functions say. Assumes nothing.
use Rattle.std.specs.Prelude.{ℕ, ◌+◌, ◌*◌, ◌≤◌, ◌<◌, ◌≡◌, List, [], ◌∷◌, length, get_or, Result, Ok, Err}
use Rattle.answer.specs.declared.Refusal.TheVariants.{Unreachable}
use Rattle.formats.specs.TableChecks.{UnreachedAt}
use Rattle.answer.specs.declared.Fault.{Fault}
use Rattle.answer.specs.declared.Refused.{Refused}
use Rattle.answer.specs.Checks.{Check, FirstFailure, verdict_of}
use Rattle.theory.specs.Rules.{Morphism}
use Rattle.formats.specs.RuleFile.{elements_of, marking_of}
use Rattle.formats.specs.RuleChecks.{rule_checks}
use Rattle.scratch.specs.Bytes.{UnchangedOutside}
use Rattle.scratch.specs.Map.{mark_table_size}
use Rattle.rule_layout.specs.declared.Shape.{Shape}
use Rattle.rule_layout.specs.Answers.{IsShape}
use Rattle.rule_marks.specs.Faults.{MarksLaid}
use Rattle.formats.specs.Calls.{after_call, checked_checks}

-- the check of reached elements alone
abbrev pub reach_checks : ℕ → Morphism → List Check
reach_checks input m = record { refusal = Unreachable; input = input; Fails = UnreachedAt m } ∷ []

-- room for a table of marks that marks nothing yet
pub record BlankMarks (scratch : List ℕ) : Type 0 where
  pub room : mark_table_size ≤ length scratch
  pub blank : (i : ℕ) → i < mark_table_size → get_or scratch i 0 ≡ 0

-- good contents lay out the marks of the file; else nothing is said of scratch but its length
abbrev pub ContentAnswer : List ℕ → List ℕ → List ℕ → Result (Unit {0}) Fault → Type 0
ContentAnswer bytes entry exit (Ok u) = MarksLaid (marking_of bytes) (elements_of bytes) entry exit
ContentAnswer bytes entry exit (Err f) = length exit ≡ length entry

-- a checked rule: its counts, and its marks in a table at the front of scratch, that of (s, e) at s·64 + e; what follows the table is
-- as it was
pub record RuleChecked (bytes : List ℕ) (shape : Shape) (entry exit : List ℕ) : Type 0 where
  pub shape_is : IsShape bytes shape
  pub mark : (s e : ℕ) → s < elements_of bytes → e < elements_of bytes → get_or exit (s * 64 + e) 0 ≡ marking_of bytes s e
  pub kept : UnchangedOutside 0 mark_table_size entry exit

-- of a refused rule only the length of scratch is said
abbrev pub MarksAfter : List ℕ → List ℕ → List ℕ → Result Shape Refused → Type 0
MarksAfter bytes entry exit (Ok shape) = RuleChecked bytes shape entry exit
MarksAfter bytes entry exit (Err r) = length exit ≡ length entry

-- the rule's own checks, in the input of the given number: which refusal and when; else the rule's counts, and its marks
pub record RuleVerdict (input : ℕ) (bytes entry exit : List ℕ) (answer : Result Shape Refused) : Type 0 where
  pub refusal : FirstFailure (rule_checks input bytes) (verdict_of answer)
  pub marks : MarksAfter bytes entry exit answer

abbrev pub ScratchAfter : List ℕ → List ℕ → List ℕ → Result Shape Refused → Type 0
ScratchAfter bytes entry exit (Ok shape) = RuleChecked bytes shape entry exit
ScratchAfter bytes entry exit (Err r) = exit ≡ after_call entry

-- the promise of the check: which refusal and when; else the rule's counts, and the marks in scratch
pub record CheckPromise (input : ℕ) (bytes entry exit : List ℕ) (answer : Result Shape Refused) : Type 0 where
  pub refusal : FirstFailure (checked_checks input bytes entry) (verdict_of answer)
  pub scratch : ScratchAfter bytes entry exit answer
