-- Formulas read from their bytes, and bytes that are refused: what the definitions say of a few. Assumes nothing.
use Prim.Native.Nat.{ℕ, ◌/◌, ◌%◌, ◌^◌, ◌≤◌, ◌<◌}
use mathlib.Core.Path.{◌≡◌, refl, ap, subst}
use mathlib.Core.Logic.{inl, ⊎_elim}
use mathlib.Core.List.{List, [], ◌∷◌}
use native.Mathlib.Omega.{arith}
use native.Mathlib.Nat.{lt_of_lt_of_le, div-eq_of_lt}
use lib.Dec.{T, eqb}
use lib.Pow.{pow_mono}
use Rattle.answer.specs.declared.Refusal.TheVariants.{EntryOutOfRange, UnbalancedFormula}
use Rattle.answer.specs.Checks.{refused, FirstFailure}
use Rattle.answer.proofs.Order.{first_passes, first_fails}
use Rattle.theory.specs.Words.{Lasso, over_nil, over_cons}
use Rattle.temporal.specs.Formulas.{Formula, first_letter, constant, negation, both, either, next, until, release, Means}
use Rattle.temporal_promises.specs.FirstLetter.{in_set, LettersOutOfRangeAt}
use Rattle.formula_promises.specs.Operations.{small, operation_of, bytes_of, asks, below, made_of_one, made_of_two, stack_after, stack_from, stack_at_end}
use Rattle.formula_promises.specs.Checks.{TooLongAt, NoSuchCodeAt, OperandsCutAt, grade_of, GradeAboveAt, set_of, ForeignLetterAt, program_checks, scan_checks}
use Rattle.formula_promises.specs.FormulaRule.{FormulaOf}
use Rattle.formula_promises.specs.FormulasTheorem.{SameMeaning}

-- letter 0 first, with grade 3, and the constant 2
abbrev zero_first : Formula
zero_first = first_letter (in_set 1) 3 (small 3)

abbrev tolerable : Formula
tolerable = constant 2 (small 2)

-- the first operand stands below the second
pub until_read : stack_at_end (0 ∷ 3 ∷ 1 ∷ 0 ∷ 1 ∷ 2 ∷ 7 ∷ []) ≡ until zero_first tolerable ∷ []
unfolding stack_from operation_of bytes_of stack_after made_of_two
until_read = refl

pub release_read : stack_at_end (0 ∷ 3 ∷ 1 ∷ 0 ∷ 1 ∷ 2 ∷ 10 ∷ []) ≡ release zero_first tolerable ∷ []
unfolding stack_from operation_of bytes_of stack_after made_of_two
release_read = refl

-- a copy of the one below the top, of three
pub copy_read : stack_at_end (0 ∷ 3 ∷ 1 ∷ 0 ∷ 1 ∷ 2 ∷ 12 ∷ 1 ∷ []) ≡ zero_first ∷ tolerable ∷ zero_first ∷ []
unfolding stack_from operation_of bytes_of stack_after below
copy_read = refl

pub next_read : stack_at_end (1 ∷ 2 ∷ 6 ∷ []) ≡ next tolerable ∷ []
unfolding stack_from operation_of bytes_of stack_after made_of_one
next_read = refl

-- ---- what is refused

few : {place : ℕ} → LettersOutOfRangeAt 2 place → ⊥
few f = ⊎_elim (λ h. omega arith) (λ h. omega arith) f.outside

-- the empty formula leaves no rule
pub empty_refused : FirstFailure (scan_checks 2 []) (refused UnbalancedFormula 1 0)
unfolding program_checks
empty_refused =
    first_passes (record { nowhere = λ place f. few f })
    (first_passes (record { nowhere = λ place (f : TooLongAt [] place). omega (arith, f.longer) })
    (first_fails _ (record { not_one = λ e. omega (arith, e); is_place = refl })))

-- a grade above 3, at its byte
pub grade_refused : FirstFailure (scan_checks 2 (1 ∷ 4 ∷ [])) (refused EntryOutOfRange 1 1)
unfolding program_checks operation_of bytes_of grade_of
grade_refused =
    first_passes (record { nowhere = λ place f. few f })
    (first_passes (record { nowhere = λ place (f : TooLongAt _ place). omega (arith, f.longer) })
    (first_passes (record { nowhere = λ place (f : NoSuchCodeAt _ _ place). omega (arith, f.above) })
    (first_passes (record { nowhere = λ place (f : OperandsCutAt _ _ place). omega (arith, f.cut) })
    (first_fails _ (record { above = omega arith; is_place = refl })))))

empty_set : (letter : ℕ) → T (in_set 0 letter) → ⊥
unfolding in_set
empty_set letter t =
    let z : 0 / 2 ^ letter ≡ 0 = div-eq_of_lt (lt_of_lt_of_le (let one : 0 < 2 ^ 0 = omega arith in one) (pow_mono (let least : 0 ≤ letter = omega arith in least))) in
    subst (λ (x : ℕ). T (eqb (x % 2) 1)) z t

-- a copy where nothing stands, at the operation's byte
pub copy_refused : FirstFailure (scan_checks 2 (12 ∷ 0 ∷ [])) (refused UnbalancedFormula 1 0)
unfolding program_checks operation_of bytes_of grade_of set_of asks
copy_refused =
    first_passes (record { nowhere = λ place f. few f })
    (first_passes (record { nowhere = λ place (f : TooLongAt _ place). omega (arith, f.longer) })
    (first_passes (record { nowhere = λ place (f : NoSuchCodeAt _ _ place). omega (arith, f.above) })
    (first_passes (record { nowhere = λ place (f : OperandsCutAt _ _ place). omega (arith, f.cut) })
    (first_passes (record { nowhere = λ place (f : GradeAboveAt _ _ place). omega (arith, f.above) })
    (first_passes (record { nowhere = λ place (f : ForeignLetterAt _ _ _ place). empty_set f.letter f.is_in_set })
    (first_fails _ (record { unbalanced = inl (omega arith); is_place = refl })))))))

-- ---- what the definitions exclude

-- formulas that differ in the grade of one lasso
pub not_same_meaning : SameMeaning 1 (constant 3 (small 3)) tolerable → ⊥
unfolding Means
not_same_meaning s =
    let lasso : Lasso 1 [] (0 ∷ []) = record { start_over = over_nil; cycle_over = over_cons {a = 0} (omega arith) over_nil; cycle_some = omega arith } in
    let above : 3 ≤ 2 = (s.same 3 (omega arith) [] (0 ∷ []) lasso).0 (omega arith) in
    omega arith

top_grade : List Formula → ℕ
top_grade [] = 0
top_grade (first_letter set g s ∷ stack) = g
top_grade (constant g s ∷ stack) = g
top_grade (negation f ∷ stack) = 0
top_grade (both f g ∷ stack) = 0
top_grade (either f g ∷ stack) = 0
top_grade (next f ∷ stack) = 0
top_grade (until f g ∷ stack) = 0

-- a formula with another grade than its bytes have
pub not_other_grade : FormulaOf (1 ∷ 3 ∷ []) tolerable → ⊥
unfolding stack_from operation_of bytes_of stack_after top_grade
not_other_grade p = let grades : ◌≡◌ {A = ℕ} 3 2 = ap top_grade p.alone in omega arith
