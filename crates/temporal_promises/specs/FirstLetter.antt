-- What `first_letter` and `constant` promise: the rules that all others are made of. Assumes nothing.
use Rattle.std.specs.Prelude.{ℕ, ◌/◌, ◌%◌, ◌^◌, ◌≤◌, ◌<◌, ◌≡◌, Bool, ◌↔◌, ◌⊎◌, List, [], ◌∷◌, T, eqb}
use Rattle.answer.specs.declared.Refusal.TheVariants.{CountOutOfRange, EntryOutOfRange, UnknownLetter}
use Rattle.answer.specs.Checks.{Check, FirstFailure}
use Rattle.theory.specs.Words.{Lasso, endless}
use Rattle.theory.specs.Rules.{Rule}
use Rattle.theory.specs.Grades.{AtLeast}
use Rattle.theory.specs.Smallest.{Smallest, MarksGrades}
use Rattle.formats.specs.FirstWords.{ByFirstWords}
use Rattle.formats.specs.RuleChecks.{rule_size, buffer_check}
use Rattle.promises.specs.declared.Written.{Written}
use Rattle.promises.specs.Answers.{written_verdict}
use Rattle.temporal_promises.specs.Formed.{FormedAnswer}

-- "bit a is set / 2^a % 2"
unfoldable pub in_set : ℕ → ℕ → Bool
in_set set a = eqb (set / 2 ^ a % 2) 1

-- ---- the checks

-- "2, letters not 1 to 16 (place 0)"
pub record LettersOutOfRangeAt (letters place : ℕ) : Type 0 where
  pub outside : (letters < 1) ⊎ (16 < letters)
  pub is_place : place ≡ 0

abbrev pub letter_count_check : ℕ → Check
letter_count_check letters = record { refusal = CountOutOfRange; input = 1; Fails = LettersOutOfRangeAt letters }

-- "3, a grade above 3 (place 0; grade 0 passes)"
pub record GradeOutOfRangeAt (grade place : ℕ) : Type 0 where
  pub above : 3 < grade
  pub is_place : place ≡ 0

abbrev pub grade_check : ℕ → Check
grade_check grade = record { refusal = EntryOutOfRange; input = 1; Fails = GradeOutOfRangeAt grade }

-- "10, the least letter of the set that is not below `letters` (its number the place)"
pub record ForeignInSetAt (letters set place : ℕ) : Type 0 where
  pub foreign : letters ≤ place
  pub is_in_set : T (in_set set place)
  pub least : (a : ℕ) → letters ≤ a → a < place → T (in_set set a) → ⊥

abbrev pub set_check : ℕ → ℕ → Check
set_check letters set = record { refusal = UnknownLetter; input = 1; Fails = ForeignInSetAt letters set }

abbrev pub first_letter_checks : ℕ → ℕ → ℕ → List ℕ → List Check
first_letter_checks letters set grade out = buffer_check rule_size out ∷ letter_count_check letters ∷ grade_check grade ∷ set_check letters set ∷ []

abbrev pub constant_checks : ℕ → ℕ → List ℕ → List Check
constant_checks letters grade out = buffer_check rule_size out ∷ letter_count_check letters ∷ grade_check grade ∷ []

-- ---- the rules

-- a rule over so many letters under which a lasso has a least grade exactly if it is said to; it is "already smallest", "in the printed order", which is that
-- of first words, and marked as every written rule is
pub record SmallestFor (letters : ℕ) (Has : ℕ → List ℕ → List ℕ → Type 0) (rule : Rule) : Type 0 where
  pub same_letters : rule.morphism.letters ≡ letters
  pub grades : (h : ℕ) → 1 ≤ h → (u v : List ℕ) → Lasso letters u v → AtLeast rule.morphism rule.marks h u v ↔ Has h u v
  pub smallest : Smallest rule
  pub numbered : ByFirstWords rule.morphism
  pub marks : MarksGrades rule.morphism rule.marks

-- "the rule that gives a lasso the grade where its first letter is in the set, else 0": so h or more exactly if the letter is in the set and h is at most
-- the grade
abbrev pub FirstLetterHas : ℕ → ℕ → ℕ → List ℕ → List ℕ → Type 0
FirstLetterHas set grade h u v = T (in_set set (endless u v 0)) × (h ≤ grade)

-- "likewise for every lasso"
abbrev pub ConstantHas : ℕ → ℕ → List ℕ → List ℕ → Type 0
ConstantHas grade h u v = h ≤ grade

pub record FirstLetterPromise (letters set grade : ℕ) (before after : List ℕ) (answer : Written) : Type 0 where
  pub refusal : FirstFailure (first_letter_checks letters set grade before) (written_verdict answer)
  pub answered : FormedAnswer (SmallestFor letters (FirstLetterHas set grade)) before after answer

pub record ConstantPromise (letters grade : ℕ) (before after : List ℕ) (answer : Written) : Type 0 where
  pub refusal : FirstFailure (constant_checks letters grade before) (written_verdict answer)
  pub answered : FormedAnswer (SmallestFor letters (ConstantHas grade)) before after answer
