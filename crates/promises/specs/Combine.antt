-- What `combine` promises: two strong rules made one. Document 02, Jobs 7 and 12. Assumes nothing.
use Rattle.std.specs.Prelude.{ℕ, ◌-◌, min, max, ◌≡◌, List, [], ◌∷◌, ◌++◌}
use Rattle.answer.specs.declared.Refusal.TheVariants.{LettersDiffer, TooManyPairs}
use Rattle.answer.specs.Checks.{Check, FirstFailure}
use Rattle.theory.specs.Words.{Lasso}
use Rattle.theory.specs.Rules.{Rule}
use Rattle.theory.specs.Grades.{Graded, RuleStrong}
use Rattle.theory.specs.Smallest.{MarksGrades}
use Rattle.theory.specs.Combined.{PairsOf, MorePairs}
use Rattle.formats.specs.FirstWords.{ByFirstWords}
use Rattle.formats.specs.RuleFile.{letters_of, morphism_of, marking_of}
use Rattle.formats.specs.RuleChecks.{rule_size, buffer_check, rule_checks}
use Rattle.formats.specs.Calls.{checked_checks, scratch_left}
use Rattle.formats.specs.ReadBack.{WrittenRule}
use Rattle.promises.specs.Weak.{weak_check}
use Rattle.promises.specs.declared.Operation.{Operation}
use Rattle.promises.specs.declared.Operation.TheVariants.{Both, Either, Without}
use Rattle.promises.specs.declared.Written.{Written}
use Rattle.promises.specs.Answers.{written_verdict, WrittenAnswer}

-- "both is the lower grade, either the higher, without the lower of the first and the second's complement", which "turns g into 3 − g" (Job 12)
unfoldable pub combined_grade : Operation → ℕ → ℕ → ℕ
combined_grade Both a b = min a b
combined_grade Either a b = max a b
combined_grade Without a b = min a (3 - b)

-- "18, letter counts differ"; place 0
pub record LettersDifferAt (first second : List ℕ) (place : ℕ) : Type 0 where
  pub differ : letters_of first ≡ letters_of second → ⊥
  pub is_place : place ≡ 0

abbrev pub letters_check : List ℕ → List ℕ → Check
letters_check first second = record { refusal = LettersDiffer; input = 1; Fails = LettersDifferAt first second }

-- "19, more than 64 reached pairs"; place 0
pub record TooManyPairsAt (first second : List ℕ) (place : ℕ) : Type 0 where
  pub more : MorePairs (morphism_of first) (morphism_of second) 64
  pub is_place : place ≡ 0

abbrev pub pairs_check : List ℕ → List ℕ → Check
pairs_check first second = record { refusal = TooManyPairs; input = 1; Fails = TooManyPairsAt first second }

-- "18, letter counts differ, tried once both files pass; then 12 for the first rule, input 1, and the second, input 2; then 19"
abbrev pub pair_checks : List ℕ → List ℕ → List Check
pair_checks first second = letters_check first second ∷ weak_check 1 first ∷ weak_check 2 second ∷ pairs_check first second ∷ []

-- "First 13", of both buffers, then the checks of both files, the second's as input 2
abbrev pub combine_checks : List ℕ → List ℕ → List ℕ → List ℕ → List Check
combine_checks first second out scratch = buffer_check rule_size out ∷ (checked_checks 1 first scratch ++ (rule_checks 2 second ++ pair_checks first second))

-- the rule of the pairs was written, whole, "numbered as in Job 3": each lasso, whatever its length, has the combined grade; "the result is strong"
-- and "marks every linked pair whose lassos it grades 1 or more, with that grade" (Job 12)
pub record CombinedTo (first second : List ℕ) (operation : Operation) (before after : List ℕ) (end : ℕ) : Type 0 where
  pub rule : Rule
  pub left : ℕ → ℕ
  pub right : ℕ → ℕ
  pub pairs : PairsOf (morphism_of first) (morphism_of second) rule.morphism left right
  pub numbered : ByFirstWords rule.morphism
  pub grades : (u v : List ℕ) → Lasso (letters_of first) u v → (a b : ℕ) → Graded (morphism_of first) (marking_of first) u v a
      → Graded (morphism_of second) (marking_of second) u v b → Graded rule.morphism rule.marks u v (combined_grade operation a b)
  pub strong : RuleStrong rule
  pub marks : MarksGrades rule.morphism rule.marks
  pub written : WrittenRule rule.morphism rule.marks before after end

-- scratch as every call leaves it
pub record CombinePromise (first second : List ℕ) (operation : Operation) (before after entry exit : List ℕ) (answer : Written) : Type 0 where
  pub refusal : FirstFailure (combine_checks first second before entry) (written_verdict answer)
  pub answered : WrittenAnswer (CombinedTo first second operation before after) before after answer
  pub scratch : exit ≡ scratch_left rule_size before entry
