-- What `included` promises: yes, or a lasso written to u and v. Document 01, "Inclusion"; document 02, Jobs 4 and 12. Assumes nothing.
use Rattle.std.specs.Prelude.{ℕ, ◌≡◌, List, ◌++◌, ◌∷◌, length, cond, ltb}
use Rattle.theory.specs.Rules.{Morphism, Marking}
use Rattle.theory.specs.Inclusion.{IncludedGrades, HigherGraded}
use Rattle.promises.specs.declared.Inclusion.{Inclusion}
use Rattle.promises.specs.declared.Inclusion.TheVariants.{Included as Is-included, NotIncluded, Refused}
use Rattle.answer.specs.Checks.{Check, Verdict, passed, refused, FirstFailure}
use Rattle.formats.specs.Front.{AtFront}
use Rattle.formats.specs.RuleFile.{morphism_of, marking_of, marks_in}
use Rattle.formats.specs.RuleChecks.{buffer_check, second_marks_checks}
use Rattle.formats.specs.Calls.{checked_checks, scratch_left}

-- "Otherwise u of at most n letters and v of at most (n+1)·(n+1) − 1 letters", "a lasso graded higher by the first" (Job 12), at the
-- front of their buffers
pub record Apart (m : Morphism) (marks marks' : Marking) (u-entry u-exit v-entry v-exit : List ℕ) (u v : ℕ) : Type 0 where
  pub start : List ℕ
  pub cycle : List ℕ
  pub witness : HigherGraded m marks marks' start cycle
  pub start_written : AtFront start u-entry u-exit u
  pub cycle_written : AtFront cycle v-entry v-exit v

-- yes exactly if no lasso is graded higher by the first marking than by the second; then both buffers keep every byte
pub record Within (m : Morphism) (marks marks' : Marking) (u-entry u-exit v-entry v-exit : List ℕ) : Type 0 where
  pub included : IncludedGrades m marks marks'
  pub start_kept : u-exit ≡ u-entry
  pub cycle_kept : v-exit ≡ v-entry

-- a refusal keeps every byte of both
pub record BothKept (u-entry u-exit v-entry v-exit : List ℕ) : Type 0 where
  pub start_kept : u-exit ≡ u-entry
  pub cycle_kept : v-exit ≡ v-entry

abbrev pub InclusionAnswer : Morphism → Marking → Marking → List ℕ → List ℕ → List ℕ → List ℕ → Inclusion → Type 0
InclusionAnswer m marks marks' u-entry u-exit v-entry v-exit Is-included = Within m marks marks' u-entry u-exit v-entry v-exit
InclusionAnswer m marks marks' u-entry u-exit v-entry v-exit (NotIncluded u v) = Apart m marks marks' u-entry u-exit v-entry v-exit u v
InclusionAnswer m marks marks' u-entry u-exit v-entry v-exit (Refused refusal input place) = BothKept u-entry u-exit v-entry v-exit

-- "Buffers: .. u 64; v 4,224"
abbrev pub start_size : ℕ
start_size = 64

abbrev pub cycle_size : ℕ
cycle_size = 4224

-- the marking of a marks section of its own
abbrev pub second_marking : List ℕ → Marking
second_marking second = marks_in second 0

-- "First 13", of every buffer; then the rule's own checks; "The second input follows with its own"
abbrev pub inclusion_checks : List ℕ → List ℕ → List ℕ → List ℕ → List ℕ → List Check
inclusion_checks bytes second u v scratch =
    buffer_check start_size u ∷ buffer_check cycle_size v ∷ (checked_checks 1 bytes scratch ++ second_marks_checks 2 bytes second)

-- document 01's number, input and place of an answer
abbrev pub inclusion_verdict : Inclusion → Verdict
inclusion_verdict Is-included = passed
inclusion_verdict (NotIncluded u v) = passed
inclusion_verdict (Refused refusal input place) = refused refusal input place

-- scratch as it came where a buffer is short, and else zeros
abbrev pub inclusion_left : List ℕ → List ℕ → List ℕ → List ℕ
inclusion_left u v scratch = cond (ltb (length u) start_size) scratch (scratch_left cycle_size v scratch)

pub record InclusionPromise (bytes second u-entry u-exit v-entry v-exit entry exit : List ℕ) (answer : Inclusion) : Type 0 where
  pub refusal : FirstFailure (inclusion_checks bytes second u-entry v-entry entry) (inclusion_verdict answer)
  pub answered : InclusionAnswer (morphism_of bytes) (marking_of bytes) (second_marking second) u-entry u-exit v-entry v-exit answer
  pub scratch : exit ≡ inclusion_left u-entry v-entry entry
