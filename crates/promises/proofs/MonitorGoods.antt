-- A monitor whose values are elements or none has such values after a step, and after an event an element since the last mark. Assumes nothing.
use Prim.Native.Nat.{ℕ, ◌≤◌, ◌<◌}
use mathlib.Core.Path.{◌≡◌, refl, sym, subst}
use mathlib.Core.Logic.{inl, inr}
use mathlib.Core.List.{List}
use native.Mathlib.Omega.{arith}
use native.Mathlib.Decide.{ℕ_discrete}
use Rattle.theory.specs.Rules.{Value, element, join}
use Rattle.theory.proofs.Values.{Inside, inside_none, inside_element, join_inside}
use Rattle.formats.specs.RuleFile.{elements_of, letters_of, morphism_of}
use Rattle.formats.proofs.GoodRule.{GoodRule}
use Rattle.promises.specs.declared.Monitor.{Monitor}
use Rattle.promises.specs.declared.Step.{Step}
use Rattle.promises.specs.declared.Step.TheVariants.{Event, Mark, Stay}
use Rattle.promises.specs.Monitor.{no_value, value_of, number_for, ValueOutOfRange}
use Rattle.promises.specs.Moves.{after_event, after_mark}
use Rattle.promises.specs.Advance.{after_step, ForeignStep}
use Rattle.promises.proofs.MonitorOrder.{Stray}
use Rattle.promises.proofs.MonitorValues.{value_none, value_element}

module _ {bytes : List ℕ} (good : GoodRule bytes) where
  -- a number that is not stray stands for a value of the rule, and a value's number is not stray
  number_inside : (s : ℕ) → ¬ ValueOutOfRange (elements_of bytes) s → Inside (morphism_of bytes) (value_of s)
  number_inside s fits = go (ℕ_discrete s no_value)
    where
      go : Dec (s ≡ no_value) → Inside (morphism_of bytes) (value_of s)
      go (yes e) = subst (Inside (morphism_of bytes)) (sym (value_none e)) inside_none
      go (no some) =
          let f : elements_of bytes ≤ s → ⊥ = λ h. fits (record { no_element = h; not_none = some }) in
          subst (Inside (morphism_of bytes)) (sym (value_element some)) (inside_element (omega arith))

  inside_number : {x : Value} → Inside (morphism_of bytes) x → ¬ ValueOutOfRange (elements_of bytes) (number_for x)
  unfolding number_for
  inside_number inside_none v = v.not_none refl
  inside_number (inside_element h) v = omega (arith, v.no_element)

  -- a value times an element is an element
  element_below : {x : Value} {h : ℕ} → Inside (morphism_of bytes) x → h < elements_of bytes → number_for (join (morphism_of bytes) x (element h)) < elements_of bytes
  unfolding number_for join
  element_below inside_none l = l
  element_below {h = h} (inside_element {s} k) l = good.lawful.closed s h k l

  module _ (f : Monitor) (fits : ¬ Stray bytes f) where
    pub step_fits : (step : Step) → ¬ ForeignStep (letters_of bytes) step → ¬ Stray bytes (after_step (morphism_of bytes) f step)
    unfolding after_event after_mark
    step_fits (Event letter) known (inl v) = fits (inl v)
    step_fits (Event letter) known (inr v) =
        let below : letter < letters_of bytes = (let h : letters_of bytes ≤ letter → ⊥ = known in omega arith) in
        inside_number (join_inside good.lawful (number_inside f.since (λ w. fits (inr w))) (inside_element (good.lawful.images letter below))) v
    step_fits Mark known (inl v) =
        inside_number (join_inside good.lawful (number_inside f.before (λ w. fits (inl w))) (number_inside f.since (λ w. fits (inr w)))) v
    step_fits Mark known (inr v) = v.not_none refl
    step_fits Stay known v = fits v

    pub event_element : (letter : ℕ) → letter < letters_of bytes → ¬ ((after_event (morphism_of bytes) f letter).since ≡ no_value)
    unfolding after_event
    event_element letter known e =
        let below = element_below (number_inside f.since (λ w. fits (inr w))) (good.lawful.images letter known) in
        omega (arith, good.table.small)
