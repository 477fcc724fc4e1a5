-- Weak until, from the steps that it is made of: the first making that is refused is told. Assumes nothing.
use Prim.Native.Nat.{ℕ, ◌<◌}
use mathlib.Core.Path.{◌≡◌, refl, sym, ap, ◌∙◌, subst}
use mathlib.Core.Bool.{Bool, true, false}
use mathlib.Core.List.{List, [], ◌∷◌, ◌++◌}
use native.Mathlib.Omega.{arith}
use Rattle.answer.specs.declared.Refusal.TheVariants.{TooManyPairs, TooManyClasses}
use Rattle.answer.specs.Checks.{Check, Verdict, FirstFailure}
use Rattle.answer.proofs.Order.{refused_before, passed_before}
use Rattle.temporal.specs.Formulas.{negation, until, always}
use Rattle.promises.specs.declared.Written.{Written}
use Rattle.promises.specs.declared.Written.TheVariants.{Rule as Is-rule, Refused}
use Rattle.formula_promises.specs.Operations.{op_either, op_until, op_always, op_weak_until, made_of_one, made_of_two}
use Rattle.formula_promises.specs.Checks.{Making, making_pairs, making_until, making_next, proper, makings_of_one, makings_of_two, PairsTooManyAt, UntilTooManyAt, NextTooManyAt, making_checks}
use Rattle.formula_slots.specs.Kept.{OthersKept}
use Rattle.formula_makings.specs.Makings.{told_at, IsWritten, Made}
use Rattle.formula_steps.specs.Steps.{is_refusal, OneStep, TwoStep}
use Rattle.formula_steps.proofs.Stepping.{refusal_unwritten}
use Rattle.formula_derived.specs.Derived.{OrAlways}
use Rattle.formula_derived.proofs.Keeping.{file_kept}

module _ (letters at : ℕ) where
  -- the checks of makings in a row
  makings_row : (xs ys : List Making) → making_checks letters at (xs ++ ys) ≡ making_checks letters at xs ++ making_checks letters at ys
  unfolding making_checks
  makings_row [] ys = refl
  makings_row (making_pairs f g ∷ xs) ys = ap (λ (l : List Check). record { refusal = TooManyPairs; input = 1; Fails = PairsTooManyAt letters f g at } ∷ l) (makings_row xs ys)
  makings_row (making_until f g ∷ xs) ys =
      ap (λ (l : List Check). record { refusal = TooManyPairs; input = 1; Fails = PairsTooManyAt letters f g at } ∷ record { refusal = TooManyClasses; input = 1; Fails = UntilTooManyAt letters f g at } ∷ l) (makings_row xs ys)
  makings_row (making_next f ∷ xs) ys = ap (λ (l : List Check). record { refusal = TooManyClasses; input = 1; Fails = NextTooManyAt letters f at } ∷ l) (makings_row xs ys)

  in_row : (xs ys : List Making) {v : Verdict} → FirstFailure (making_checks letters at xs ++ making_checks letters at ys) v → FirstFailure (making_checks letters at (xs ++ ys)) v
  in_row xs ys {v} f = subst (λ (l : List Check). FirstFailure l v) (sym (makings_row xs ys)) f

  -- a refusal of the first stays, and after the first the others decide
  told_first : (xs ys : List Making) (answer : Written) → (IsWritten answer → ⊥) → FirstFailure (making_checks letters at xs) (told_at at answer)
      → FirstFailure (making_checks letters at (xs ++ ys)) (told_at at answer)
  told_first xs ys (Is-rule end) unwritten f = absurd (unwritten tt)
  told_first xs ys (Refused refusal input place) unwritten f = in_row xs ys (refused_before (making_checks letters at xs) (making_checks letters at ys) f)

  told_later : (xs ys : List Making) (answer : Written) → IsWritten answer → FirstFailure (making_checks letters at xs) (told_at at answer) → {v : Verdict}
      → FirstFailure (making_checks letters at ys) v → FirstFailure (making_checks letters at (xs ++ ys)) v
  told_later xs ys (Is-rule end) is f g = in_row xs ys (passed_before (making_checks letters at xs) (making_checks letters at ys) f g)
  told_later xs ys (Refused _ _ _) is f {v = v} g = elim is [ ]

-- an answer that is no refusal was written
not_refused : (answer : Written) {r : Bool} → r ≡ is_refusal answer → r ≡ false → IsWritten answer
not_refused (Is-rule end) e n = tt
not_refused (Refused refusal input place) e n = let z : ◌≡◌ {A = ℕ} 0 1 = cc in omega arith

module _ {letters : ℕ} {A B : Type 0} (xs ys : List Making) where
  made_refused : (answer : Written) → (IsWritten answer → ⊥) → Made letters xs A answer → Made letters (xs ++ ys) B answer
  made_refused answer unwritten m = record { checked = λ at. told_first letters at xs ys answer unwritten (m.checked at); result = λ w. absurd (unwritten w) }

  made_later : (first answer : Written) → IsWritten first → Made letters xs A first → Made letters ys B answer → Made letters (xs ++ ys) B answer
  made_later first answer is m n = record { checked = λ at. told_later letters at xs ys first is (m.checked at) (n.checked at); result = n.result }

-- ---- or always

module _ {letters first other : ℕ} {entry mid : List ℕ} where
  pub or_always_refused : (answer : Written) {r : Bool} → r ≡ is_refusal answer → r ≡ true → OneStep letters op_always first entry mid answer → OrAlways letters first other entry mid answer
  unfolding makings_of_one
  or_always_refused answer e t step = record {
    made = λ f g r s.
        made_refused (making_until proper (negation f) ∷ []) (making_pairs g (always f) ∷ []) answer (refusal_unwritten answer (sym e ∙ t)) (step.made f r);
  }

  pub or_always_step : {free : ℕ} {exit : List ℕ} → first < free → free < other → (always-answer : Written) {b : Bool} → b ≡ is_refusal always-answer → b ≡ false → OneStep letters op_always first entry mid always-answer
      → OthersKept first free entry mid → {answer : Written} → ((k : ℕ) → TwoStep k op_either other first first mid exit answer) → OrAlways letters first other entry exit answer
  unfolding makings_of_one makings_of_two made_of_one made_of_two
  or_always_step low high before e n step kept {answer} combined = record {
    made = λ f g r s.
        let own = step.made f r in
        let is = not_refused before e n in
        made_later (making_until proper (negation f) ∷ []) (making_pairs g (always f) ∷ []) before answer is own
        ((combined letters).made g (always f) (file_kept other (λ x. omega arith) (λ x. omega arith) kept s) (own.result is));
  }

-- ---- weak until

module _ {letters first second free : ℕ} {entry mid : List ℕ} where
  pub weak_until_refused : (answer : Written) {r : Bool} → r ≡ is_refusal answer → r ≡ true → ((k : ℕ) → TwoStep k op_until first second free entry mid answer)
      → TwoStep letters op_weak_until first second first entry mid answer
  unfolding makings_of_two
  weak_until_refused answer e t step = record {
    made = λ f g r s.
        made_refused (making_until f g ∷ []) (making_until proper (negation f) ∷ making_pairs (until f g) (always f) ∷ []) answer (refusal_unwritten answer (sym e ∙ t))
        ((step letters).made f g r s);
  }

  pub weak_until_step : {exit : List ℕ} → first < second → second < free → (before : Written) {b : Bool} → b ≡ is_refusal before → b ≡ false → ((k : ℕ) → TwoStep k op_until first second free entry mid before)
      → OthersKept free free entry mid → {answer : Written} → OrAlways letters first free mid exit answer → TwoStep letters op_weak_until first second first entry exit answer
  unfolding makings_of_two made_of_two
  weak_until_step low high before e n step kept {answer} more = record {
    made = λ f g r s.
        let own = (step letters).made f g r s in
        let is = not_refused before e n in
        let apart : first ≡ free → ⊥ = λ x. omega arith in
        made_later (making_until f g ∷ []) (making_until proper (negation f) ∷ making_pairs (until f g) (always f) ∷ []) before answer is own
        (more.made f (until f g) (file_kept first apart apart kept r) (own.result is));
  }
