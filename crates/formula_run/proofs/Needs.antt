-- What an operation needs, from the checks that it passed. Assumes nothing.
use Prim.Native.Nat.{ℕ, ◌+◌, ◌≤◌}
use mathlib.Core.Path.{◌≡◌, refl, sym, subst}
use mathlib.Core.Logic.{inl, inr, ⊎_elim}
use mathlib.Core.List.{List, [], ◌∷◌}
use native.Mathlib.Omega.{arith}
use lib.ListN.{length}
use lib.Dec.{T}
use Rattle.finite.proofs.Numbers.{le_or_lt}
use Rattle.answer.specs.Checks.{passed, FirstFailure}
use Rattle.answer.proofs.Order.{passes_head, passes_tail}
use Rattle.temporal.specs.Formulas.{Formula}
use Rattle.temporal_promises.specs.FirstLetter.{in_set}
use Rattle.formula_promises.specs.Operations.{Operation, push_set, push_constant, push_copy, on_one, on_two, operation_at, asks, height_after, stack_after}
use Rattle.formula_promises.specs.Checks.{highest_stack, longest_formula, grade_of, set_of, operation_checks, scan_checks}
use Rattle.formula_promises.specs.Values.{meant}
use Rattle.formula_reading.specs.declared.Reading.{Reading}
use Rattle.formula_reading.specs.Readings.{ReadingAt}
use Rattle.formula_operations.specs.Applying.{ApplyNeeds}
use Rattle.formula_scan.proofs.Passing.{passed_few}

-- the letters and the length
module _ {letters : ℕ} {formula : List ℕ} (f : FirstFailure (scan_checks letters formula) passed) where
  pub scanned_some : 1 ≤ letters
  scanned_some = ⊎_elim (λ h. h) (λ l. absurd ((passes_head f).nowhere 0 (record { outside = inl l; is_place = refl }))) (le_or_lt 1 letters)

  pub scanned_letters : letters ≤ 16
  scanned_letters = ⊎_elim (λ h. h) (λ l. absurd ((passes_head f).nowhere 0 (record { outside = inr l; is_place = refl }))) (le_or_lt letters 16)

  pub scanned_length : length formula ≤ longest_formula
  scanned_length =
      ⊎_elim (λ h. h) (λ l. absurd ((passes_head (passes_tail f)).nowhere 0 (record { longer = l; is_place = refl }))) (le_or_lt (length formula) longest_formula)

module _ {letters : ℕ} {formula : List ℕ} {at height : ℕ} (f : FirstFailure (operation_checks letters formula at height) passed) where
  pub passed_enough : asks (operation_at formula at) ≤ height
  passed_enough =
      ⊎_elim (λ h. h) (λ l. absurd ((passes_head (passes_tail (passes_tail (passes_tail (passes_tail f))))).nowhere at (record { unbalanced = inl l; is_place = refl })))
      (le_or_lt (asks (operation_at formula at)) height)

  -- of the operation as it was read
  module _ {r : Reading} (read : ReadingAt formula at r) where
    pub apply_needs : 1 ≤ letters → letters ≤ 16 → height ≤ highest_stack → ApplyNeeds letters (meant r.operation) height
    apply_needs some few low =
        let is = sym read.operation in
        record {
          letters_some = some;
          letters_few = few;
          small_grade = subst (λ (o : Operation). grade_of o ≤ 3) is
              (⊎_elim (λ h. h) (λ l. absurd ((passes_head (passes_tail (passes_tail f))).nowhere (at + 1) (record { above = l; is_place = refl }))) (le_or_lt (grade_of (operation_at formula at)) 3));
          known_letters = λ a l t.
              (passes_head (passes_tail (passes_tail (passes_tail f)))).nowhere (at + 2)
              (record { letter = a; foreign = l; is_in_set = subst (λ (o : Operation). T (in_set (set_of o) a)) read.operation t; is_place = refl });
          enough = subst (λ (o : Operation). asks o ≤ height) is passed_enough;
          few = subst (λ (o : Operation). height_after o height ≤ highest_stack) is (passed_few f);
          low = low;
        }

-- an operation leaves as many formulas as it is said to
pub stack_counted : (o : Operation) (stack : List Formula) {height : ℕ} → length stack ≡ height → asks o ≤ height → length (stack_after o stack) ≡ height_after o height
unfolding asks height_after stack_after
stack_counted (push_set set grade) stack e h = omega arith
stack_counted (push_constant grade) stack e h = omega arith
stack_counted (push_copy d) stack e h = omega arith
stack_counted (on_one o) [] e h = absurd (let z : ⊥ = omega arith in z)
stack_counted (on_one o) (f ∷ rest) e h = e
stack_counted (on_two o) [] e h = absurd (let z : ⊥ = omega arith in z)
stack_counted (on_two o) (g ∷ []) e h = absurd (let z : ⊥ = omega arith in z)
stack_counted (on_two o) (g ∷ f ∷ rest) e h = omega arith
