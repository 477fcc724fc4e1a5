-- When the call for a whole formula is refused. Assumes nothing.
use Rattle.std.specs.Prelude.{ℕ, zero, suc, ◌+◌, ◌<◌, ◌≤◌, ◌≡◌, cond, ◌⊎◌, List, [], ◌∷◌, ◌++◌, length, ltb, T}
use Rattle.std.proofs.Common.{le_refl}
use Rattle.answer.specs.declared.Refusal.{Refusal}
use Rattle.answer.specs.declared.Refusal.TheVariants.{Truncated, EntryOutOfRange, UnknownLetter, WordLength, TooManyPairs, TooManyClasses, UnbalancedFormula}
use Rattle.answer.specs.Checks.{Check}
use Rattle.theory.specs.Rules.{Rule}
use Rattle.theory.specs.Combined.{MorePairs}
use Rattle.temporal.specs.Clamps.{MoreUntilClasses}
use Rattle.temporal.specs.Nexts.{MoreNextClasses}
use Rattle.temporal.specs.Formulas.{Formula, Means, constant, negation, until, always}
use Rattle.formats.specs.RuleChecks.{rule_size, scratch_size, buffer_check}
use Rattle.temporal_promises.specs.FirstLetter.{in_set, letter_count_check, SmallestFor}
use Rattle.temporal_promises.specs.Until.{until_classes_size, PairGrades}
use Rattle.formula_promises.specs.Operations.{One, op_not, op_next, op_eventually, op_always, Two, op_both, op_either, op_without, op_until, op_release, op_weak_until, Operation, push_set, push_constant, push_copy, on_one, on_two, operation_code_at, operation_at, behind, asks, height_after, stack_after}

-- "`stack` has 9 · 16,404 bytes"; "a stack of at most 8 rules"; "more than 65,535 bytes"
abbrev pub stack_size : ℕ
stack_size = 147636

abbrev pub highest_stack : ℕ
highest_stack = 8

abbrev pub longest_formula : ℕ
longest_formula = 65535

-- a check of the formula, "input 1"
abbrev formula_check : Refusal → (ℕ → Type 0) → Check
formula_check refusal Fails = record { refusal = refusal; input = 1; Fails = Fails }

-- "11, more than 65,535 bytes (place 0)"
pub record TooLongAt (formula : List ℕ) (place : ℕ) : Type 0 where
  pub longer : longest_formula < length formula
  pub is_place : place ≡ 0

abbrev pub length_check : List ℕ → Check
length_check formula = formula_check WordLength (TooLongAt formula)

-- ---- "then one pass over all bytes, operation by operation"

-- "the code (3, its byte)"
pub record NoSuchCodeAt (formula : List ℕ) (at place : ℕ) : Type 0 where
  pub above : 12 < operation_code_at formula at
  pub is_place : place ≡ at

-- "its operands present (1, the length)"
pub record OperandsCutAt (formula : List ℕ) (at place : ℕ) : Type 0 where
  pub cut : length formula < behind formula at
  pub is_place : place ≡ length formula

-- the grade that an operation has, else 0
unfoldable pub grade_of : Operation → ℕ
grade_of (push_set set grade) = grade
grade_of (push_constant grade) = grade
grade_of (push_copy d) = 0
grade_of (on_one operation) = 0
grade_of (on_two operation) = 0

-- "its grade (3, its byte)"
pub record GradeAboveAt (formula : List ℕ) (at place : ℕ) : Type 0 where
  pub above : 3 < grade_of (operation_at formula at)
  pub is_place : place ≡ at + 1

-- the set that an operation has, else the empty one
unfoldable pub set_of : Operation → ℕ
set_of (push_set set grade) = set
set_of (push_constant grade) = 0
set_of (push_copy d) = 0
set_of (on_one operation) = 0
set_of (on_two operation) = 0

-- "a letter of the set not below `letters` (10, the set's first byte)"
pub record ForeignLetterAt (letters : ℕ) (formula : List ℕ) (at place : ℕ) : Type 0 where
  pub letter : ℕ
  pub foreign : letters ≤ letter
  pub is_in_set : T (in_set (set_of (operation_at formula at)) letter)
  pub is_place : place ≡ at + 2

-- "too few rules for it, more than 8, or a copy from below the stack (24, the operation's byte)"
pub record UnbalancedAt (formula : List ℕ) (at height place : ℕ) : Type 0 where
  pub unbalanced : (height < asks (operation_at formula at)) ⊎ (highest_stack < height_after (operation_at formula at) height)
  pub is_place : place ≡ at

abbrev pub operation_checks : ℕ → List ℕ → ℕ → ℕ → List Check
operation_checks letters formula at height =
    formula_check EntryOutOfRange (NoSuchCodeAt formula at) ∷ formula_check Truncated (OperandsCutAt formula at) ∷ formula_check EntryOutOfRange (GradeAboveAt formula at)
    ∷ formula_check UnknownLetter (ForeignLetterAt letters formula at) ∷ formula_check UnbalancedFormula (UnbalancedAt formula at height) ∷ []

-- "at the end not exactly one rule (24, the length; the empty formula too)"
pub record NotOneAt (formula : List ℕ) (height place : ℕ) : Type 0 where
  pub not_one : height ≡ 1 → ⊥
  pub is_place : place ≡ length formula

-- from a byte on, with so many rules on the stack; one step more than there are bytes is enough
unfoldable pub program_checks : ℕ → ℕ → List ℕ → ℕ → ℕ → List Check
program_checks zero letters formula at height = []
program_checks (suc steps) letters formula at height =
    cond (ltb at (length formula))
    (operation_checks letters formula at height ++ program_checks steps letters formula (behind formula at) (height_after (operation_at formula at) height))
    (formula_check UnbalancedFormula (NotOneAt formula height) ∷ [])

-- ---- "Only then rules are made: 19 and 23 at the operation's byte"

-- what is made on the way, of formulas whose reductions are there: a table of pairs, an `until`, a `next`
pub data Making : Type 0 where
  making_pairs : Formula → Formula → Making
  making_until : Formula → Formula → Making
  making_next : Formula → Making

-- "eventually f = 3 until f; always f = not (3 until not f); f release g = not (not f until not g); f weak until g = either (f until g) (always f); every inner
-- result reduced". A `not` makes no new table.
abbrev pub proper : Formula
proper = constant 3 (le_refl 3)

unfoldable pub makings_of_one : One → Formula → List Making
makings_of_one op_not f = []
makings_of_one op_next f = making_next f ∷ []
makings_of_one op_eventually f = making_until proper f ∷ []
makings_of_one op_always f = making_until proper (negation f) ∷ []

unfoldable pub makings_of_two : Two → Formula → Formula → List Making
makings_of_two op_both f g = making_pairs f g ∷ []
makings_of_two op_either f g = making_pairs f g ∷ []
makings_of_two op_without f g = making_pairs f g ∷ []
makings_of_two op_until f g = making_until f g ∷ []
makings_of_two op_release f g = making_until (negation f) (negation g) ∷ []
makings_of_two op_weak_until f g = making_until f g ∷ making_until proper (negation f) ∷ making_pairs (until f g) (always f) ∷ []

unfoldable pub makings : Operation → List Formula → List Making
makings (push_set set grade) stack = []
makings (push_constant grade) stack = []
makings (push_copy d) stack = []
makings (on_one operation) [] = []
makings (on_one operation) (f ∷ stack) = makings_of_one operation f
makings (on_two operation) [] = []
makings (on_two operation) (g ∷ []) = []
makings (on_two operation) (g ∷ f ∷ stack) = makings_of_two operation f g

-- the smallest rule with the grades of a formula's meaning, in the printed order
abbrev pub ReductionOf : ℕ → Formula → Rule → Type 0
ReductionOf letters f = SmallestFor letters (Means letters f)

-- "19 and 23 are said by the reductions of the operands' meanings"
pub record PairsTooManyAt (letters : ℕ) (f g : Formula) (at place : ℕ) : Type 0 where
  pub first : Rule
  pub second : Rule
  pub first_reduction : ReductionOf letters f first
  pub second_reduction : ReductionOf letters g second
  pub more : MorePairs first.morphism second.morphism 64
  pub is_place : place ≡ at

pub record UntilTooManyAt (letters : ℕ) (f g : Formula) (at place : ℕ) : Type 0 where
  pub first : Rule
  pub second : Rule
  pub first_reduction : ReductionOf letters f first
  pub second_reduction : ReductionOf letters g second
  pub over : PairGrades first.morphism first.marks second.morphism second.marks
  pub more : MoreUntilClasses over.table over.first_grade over.second_grade 64
  pub is_place : place ≡ at

pub record NextTooManyAt (letters : ℕ) (f : Formula) (at place : ℕ) : Type 0 where
  pub rule : Rule
  pub reduction : ReductionOf letters f rule
  pub more : MoreNextClasses rule.morphism 64
  pub is_place : place ≡ at

unfoldable pub making_checks : ℕ → ℕ → List Making → List Check
making_checks letters at [] = []
making_checks letters at (making_pairs f g ∷ rest) = formula_check TooManyPairs (PairsTooManyAt letters f g at) ∷ making_checks letters at rest
making_checks letters at (making_until f g ∷ rest) =
    formula_check TooManyPairs (PairsTooManyAt letters f g at) ∷ formula_check TooManyClasses (UntilTooManyAt letters f g at) ∷ making_checks letters at rest
making_checks letters at (making_next f ∷ rest) = formula_check TooManyClasses (NextTooManyAt letters f at) ∷ making_checks letters at rest

unfoldable pub run_checks : ℕ → ℕ → List ℕ → ℕ → List Formula → List Check
run_checks zero letters formula at stack = []
run_checks (suc steps) letters formula at stack =
    cond (ltb at (length formula))
    (making_checks letters at (makings (operation_at formula at) stack) ++ run_checks steps letters formula (behind formula at) (stack_after (operation_at formula at) stack))
    []

-- "Refusals, input 1: 13; 2, `letters` not 1 to 16 (place 0); 11, more than 65,535 bytes (place 0); then one pass .. Only then rules are made"
abbrev pub lent_checks : List ℕ → List ℕ → List ℕ → List ℕ → List ℕ → List Check
lent_checks out stack spare classes scratch =
    buffer_check rule_size out ∷ buffer_check stack_size stack ∷ buffer_check rule_size spare ∷ buffer_check until_classes_size classes ∷ buffer_check scratch_size scratch ∷ []

abbrev pub scan_checks : ℕ → List ℕ → List Check
scan_checks letters formula = letter_count_check letters ∷ length_check formula ∷ program_checks (suc (length formula)) letters formula 0 0

abbrev pub formula_checks : ℕ → List ℕ → List Check
formula_checks letters formula = scan_checks letters formula ++ run_checks (length formula) letters formula 0 []
