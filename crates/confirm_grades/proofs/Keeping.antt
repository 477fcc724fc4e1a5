-- One outcome compared, by the numbers that the code has, and all of them, column by column. Assumes nothing.
use Prim.Native.Nat.{ℕ, ◌<◌}
use mathlib.Core.Path.{◌≡◌, sym, ap, ap₂, ◌∙◌}
use mathlib.Core.Bool.{Bool}
use mathlib.Core.List.{List}
use native.Mathlib.Omega.{arith}
use lib.ListN.{get_or}
use Rattle.finite.specs.Tells.{Tells}
use Rattle.finite.proofs.Tells.{tells_same}
use Rattle.theory.specs.Rules.{Morphism}
use Rattle.theory.specs.Pairs.{LeastPower}
use Rattle.theory.proofs.IdempotentPowers.{least_power_is}
use Rattle.theory.proofs.Strength.{settled_start, settled_cycle}
use Rattle.formats.specs.Table.{product_at, morphism_at}
use Rattle.scratch.specs.Map.{search_end, marks_from}
use Rattle.reduce_first_round.specs.Map.{outcome_at}
use Rattle.finite.specs.Each.{EachBelow}
use Rattle.confirm_grades.specs.Grades.{OutcomeKept, GradesKept, GradesNeeds}

module _ {first : List ℕ} {n₁ k₁ : ℕ} {map : List ℕ} {n₂ : ℕ} {scratch : List ℕ} (needs : GradesNeeds first n₁ k₁ map n₂ scratch) where
  -- where an element goes is one of 64
  pub mapped_small : {s r : ℕ} → s < n₁ → r ≡ get_or map s 0 → r < 64
  mapped_small {s = s} h e = omega (arith, needs.inside s h, needs.few)

  module _ {z f exponent : ℕ} (hz : z < n₁) (power : LeastPower (morphism_at first n₁ k₁) z f exponent) (s : ℕ) {t y here there : ℕ}
      (eh : here ≡ marks_from scratch search_end (product_at first n₁ s f) f) (et : t ≡ get_or map s 0) (ey : y ≡ get_or map z 0) (eo : there ≡ outcome_at scratch t y) where
    first_outcome : here ≡ marks_from scratch search_end (settled_start (morphism_at first n₁ k₁) s z) (settled_cycle (morphism_at first n₁ k₁) z)
    first_outcome = eh ∙ ap (λ (e : ℕ). marks_from scratch search_end (product_at first n₁ s e) e) (least_power_is needs.law hz power).is_power

    second_outcome : there ≡ outcome_at scratch (get_or map s 0) (get_or map z 0)
    second_outcome = eo ∙ ap₂ (outcome_at scratch) et ey

    pub outcome_kept : here ≡ there → OutcomeKept (morphism_at first n₁ k₁) map scratch s z
    outcome_kept e = sym first_outcome ∙ e ∙ second_outcome

    pub outcome_differs : (here ≡ there → ⊥) → OutcomeKept (morphism_at first n₁ k₁) map scratch s z → ⊥
    outcome_differs g k = g (first_outcome ∙ k ∙ sym second_outcome)

-- all columns
pub grades_told : {m : Morphism} {map scratch : List ℕ} {answer : Bool}
    → Tells (EachBelow (λ z. EachBelow (λ s. OutcomeKept m map scratch s z) m.size) m.size) answer → Tells (GradesKept m map scratch) answer
grades_told t =
    tells_same
    (λ w. record { kept = λ s z hs hz. (w.each z hz).each s hs }, λ g. record { each = λ z hz. record { each = λ s hs. g.kept s z hs hz } })
    t
