-- What `until` promises. Assumes nothing.
use Rattle.std.specs.Prelude.{ℕ, ◌≡◌, cond, List, [], ◌∷◌, ◌++◌, length, replicate, ltb}
use Rattle.answer.specs.declared.Refusal.TheVariants.{TooManyClasses}
use Rattle.answer.specs.Checks.{Check, FirstFailure}
use Rattle.theory.specs.Rules.{Morphism, Marking, Lawful, Rule}
use Rattle.theory.specs.Grades.{RuleStrong}
use Rattle.theory.specs.Smallest.{MarksGrades}
use Rattle.theory.specs.Combined.{PairsOf}
use Rattle.temporal.specs.Temporal.{UntilOf}
use Rattle.temporal.specs.Clamps.{Decides, UntilClassesOf, MoreUntilClasses}
use Rattle.formats.specs.FirstWords.{ByFirstWords}
use Rattle.formats.specs.RuleFile.{morphism_of, marking_of}
use Rattle.formats.specs.RuleChecks.{rule_size, scratch_size, buffer_check, rule_checks}
use Rattle.formats.specs.Calls.{checked_checks, scratch_left}
use Rattle.promises.specs.Combine.{pair_checks}
use Rattle.promises.specs.declared.Written.{Written}
use Rattle.promises.specs.Answers.{written_verdict}
use Rattle.temporal_promises.specs.Formed.{FormedAnswer}

-- "`classes` 262,144"
abbrev pub until_classes_size : ℕ
until_classes_size = 262144

-- a table of the pairs of the values that words reach in two rules, and the grades that the values decide: those of the first rule and of the second
pub record PairGrades (m : Morphism) (marks : Marking) (m' : Morphism) (marks' : Marking) : Type 0 where
  pub table : Morphism
  pub lawful : Lawful table
  pub left : ℕ → ℕ
  pub right : ℕ → ℕ
  pub pairs : PairsOf m m' table left right
  pub first_grade : ℕ → ℕ → ℕ
  pub second_grade : ℕ → ℕ → ℕ
  pub first_decides : Decides table m marks first_grade
  pub second_decides : Decides table m' marks' second_grade

-- that of two files
abbrev pub FilesGrades : List ℕ → List ℕ → Type 0
FilesGrades first second = PairGrades (morphism_of first) (marking_of first) (morphism_of second) (marking_of second)

-- "23 (more than 64 elements; input 1, place 0)": more in such a table. Then there are more in each (`temporal`, pairs-more-classes).
pub record TooManyUntilAt (first second : List ℕ) (place : ℕ) : Type 0 where
  pub over : FilesGrades first second
  pub more : MoreUntilClasses over.table over.first_grade over.second_grade 64
  pub is_place : place ≡ 0

abbrev pub until_classes_check : List ℕ → List ℕ → Check
until_classes_check first second = record { refusal = TooManyClasses; input = 1; Fails = TooManyUntilAt first second }

-- "18, 12, 12 (input 2), 19", as `combine` has them, and 23
abbrev pub until_own_checks : List ℕ → List ℕ → List Check
until_own_checks first second = pair_checks first second ++ until_classes_check first second ∷ []

-- "13 (`out` 16,404, `classes` 262,144, scratch), the first file's, the second file's (input 2)", then its own
abbrev pub until_checks : List ℕ → List ℕ → List ℕ → List ℕ → List ℕ → List Check
until_checks first second out classes scratch =
    buffer_check rule_size out ∷ buffer_check until_classes_size classes ∷ (checked_checks 1 first scratch ++ (rule_checks 2 second ++ until_own_checks first second))

-- "the rule whose grade of a lasso is the highest, over the places i of its endless word, of the lowest of: the second's grade from i on, the first's from each
-- j < i on. Said by least grades as the design has it. Elements: the pair of values with the clamp at every context, numbered by first words; marks as above."
pub record UntilMade (first second : List ℕ) (rule : Rule) : Type 0 where
  pub over : FilesGrades first second
  pub pair : ℕ → ℕ
  pub low : ℕ → ℕ → ℕ → ℕ
  pub high : ℕ → ℕ → ℕ → ℕ
  pub classes : UntilClassesOf over.table over.first_grade over.second_grade rule.morphism pair low high
  pub numbered : ByFirstWords rule.morphism
  pub grades : UntilOf (morphism_of first) (marking_of first) (morphism_of second) (marking_of second) rule
  pub strong : RuleStrong rule
  pub marks : MarksGrades rule.morphism rule.marks

-- scratch as it came where a buffer is short, and else zeros
abbrev pub until_left : List ℕ → List ℕ → List ℕ → List ℕ
until_left out classes scratch = cond (ltb (length out) rule_size) scratch (scratch_left until_classes_size classes scratch)

-- "`classes` ends as zeros like scratch, except after 13"
abbrev pub until_classes_left : List ℕ → List ℕ → List ℕ → List ℕ
until_classes_left out classes scratch =
    cond (ltb (length out) rule_size) classes
    (cond (ltb (length classes) until_classes_size) classes (cond (ltb (length scratch) scratch_size) classes (replicate (length classes) 0)))

pub record UntilPromise (first second before after classes-entry classes_exit entry exit : List ℕ) (answer : Written) : Type 0 where
  pub refusal : FirstFailure (until_checks first second before classes-entry entry) (written_verdict answer)
  pub answered : FormedAnswer (UntilMade first second) before after answer
  pub classes : classes_exit ≡ until_classes_left before classes-entry entry
  pub scratch : exit ≡ until_left before classes-entry entry
