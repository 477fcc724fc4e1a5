-- Where the refusals of a whole formula lie: at its bytes, or at its end, and it has at most 65,535 bytes. Assumes nothing.
use Prim.Native.Nat.{ℕ, zero, suc, ◌≤◌, ◌<◌}
use native.Mathlib.Omega.{arith}
use mathlib.Core.Path.{refl}
use mathlib.Core.Bool.{Bool, true, false, cond}
use mathlib.Core.List.{List, [], ◌∷◌}
use lib.Dec.{T, ltb, ltb→lt}
use lib.ListN.{length}
use Rattle.answer.specs.Checks.{Check}
use Rattle.answer.proofs.Limits.{Limited, limited_nil, limited_cons, limited_append}
use Rattle.temporal.specs.Formulas.{Formula}
use Rattle.temporal_promises.specs.FirstLetter.{LettersOutOfRangeAt}
use Rattle.formula_promises.specs.Operations.{operation_at, behind, height_after, stack_after}
use Rattle.formula_promises.specs.Checks.{longest_formula, TooLongAt, NoSuchCodeAt, OperandsCutAt, GradeAboveAt, ForeignLetterAt, UnbalancedAt, NotOneAt, operation_checks, program_checks, Making, making_pairs, making_until, making_next, makings, PairsTooManyAt, UntilTooManyAt, NextTooManyAt, making_checks, run_checks, formula_checks}
use Rattle.unpacking.proofs.Limits.{Near, near_limit, at_zero}

-- one of two lists, by a test
limited_either : (b : Bool) {x y : List Check} → (T b → Limited Near x) → Limited Near y → Limited Near (cond b x y)
limited_either true p q = p tt
limited_either false p q = q

module _ (letters : ℕ) (formula : List ℕ) (short : length formula ≤ longest_formula) where
  -- an operation that begins inside the formula
  operation_limited : (at height : ℕ) → at < length formula → Limited Near (operation_checks letters formula at height)
  operation_limited at height inside =
      limited_cons (λ place (f : NoSuchCodeAt _ _ place). near_limit (omega arith) (omega (arith, f.is_place)))
      (λ _. limited_cons (λ place (f : OperandsCutAt _ _ place). near_limit (omega arith) (omega (arith, f.is_place)))
      (λ _. limited_cons (λ place (f : GradeAboveAt _ _ place). near_limit (omega arith) (omega (arith, f.is_place)))
      (λ _. limited_cons (λ place (f : ForeignLetterAt _ _ _ place). near_limit (omega arith) (omega (arith, f.is_place)))
      (λ _. limited_cons (λ place (f : UnbalancedAt _ _ _ place). near_limit (omega arith) (omega (arith, f.is_place))) (λ _. limited_nil)))))

  program_limited : (steps at height : ℕ) → Limited Near (program_checks steps letters formula at height)
  unfolding program_checks
  program_limited zero at height = limited_nil
  program_limited (suc steps) at height =
      limited_either (ltb at (length formula))
      (λ t.
      limited_append (operation_checks letters formula at height) (operation_limited at height (ltb→lt at (length formula) t))
      (λ _. program_limited steps (behind formula at) (height_after (operation_at formula at) height)))
      (limited_cons (λ place (f : NotOneAt _ _ place). near_limit (omega arith) (omega (arith, f.is_place))) (λ _. limited_nil))

  making_limited : (at : ℕ) → at < length formula → (list : List Making) → Limited Near (making_checks letters at list)
  unfolding making_checks
  making_limited at inside [] = limited_nil
  making_limited at inside (making_pairs f g ∷ rest) =
      limited_cons (λ place (t : PairsTooManyAt _ _ _ _ place). near_limit (omega arith) (omega (arith, t.is_place))) (λ _. making_limited at inside rest)
  making_limited at inside (making_until f g ∷ rest) =
      limited_cons (λ place (t : PairsTooManyAt _ _ _ _ place). near_limit (omega arith) (omega (arith, t.is_place)))
      (λ _. limited_cons (λ place (t : UntilTooManyAt _ _ _ _ place). near_limit (omega arith) (omega (arith, t.is_place))) (λ _. making_limited at inside rest))
  making_limited at inside (making_next f ∷ rest) =
      limited_cons (λ place (t : NextTooManyAt _ _ _ place). near_limit (omega arith) (omega (arith, t.is_place))) (λ _. making_limited at inside rest)

  run_limited : (steps at : ℕ) (stack : List Formula) → Limited Near (run_checks steps letters formula at stack)
  unfolding run_checks
  run_limited zero at stack = limited_nil
  run_limited (suc steps) at stack =
      limited_either (ltb at (length formula))
      (λ t.
      limited_append (making_checks letters at (makings (operation_at formula at) stack))
      (making_limited at (ltb→lt at (length formula) t) (makings (operation_at formula at) stack))
      (λ _. run_limited steps (behind formula at) (stack_after (operation_at formula at) stack)))
      limited_nil

pub formula_limited : (letters : ℕ) (formula : List ℕ) → Limited Near (formula_checks letters formula)
formula_limited letters formula =
    limited_cons (λ place (f : LettersOutOfRangeAt _ place). at_zero f.is_place)
    (λ _. limited_cons (λ place (f : TooLongAt _ place). at_zero f.is_place)
    (λ p.
    let short : longest_formula < length formula → ⊥ = λ longer. p.nowhere 0 (record { longer = longer; is_place = refl }) in
    limited_append (program_checks (suc (length formula)) letters formula 0 0) (program_limited letters formula (omega arith) (suc (length formula)) 0 0)
    (λ _. run_limited letters formula (omega arith) (length formula) 0 [])))
