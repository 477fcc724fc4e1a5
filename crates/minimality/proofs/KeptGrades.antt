-- A map from the elements of a strong rule to those of another that carries products and letter images: the rules give each lasso the same grade exactly
-- if the map keeps the grade of each two values. Assumes nothing.
use Prim.Native.Nat.{ℕ, ◌<◌}
use mathlib.Core.Path.{◌≡◌, sym, ◌∙◌}
use Rattle.theory.specs.Rules.{Rule}
use Rattle.theory.specs.Smallest.{SameGrades}
use Rattle.theory.specs.Maps.{Carries}
use Rattle.theory.proofs.Values.{inside_element}
use Rattle.minimality.proofs.Contexts.{word_has, value_word}
use Rattle.minimality.proofs.Smallest.{outcome_at_lem, LassoValues, lasso_values, values_outcome, elements_lasso}
use Rattle.minimality.proofs.GradeOutcomes.{grading, same_outcomes, outcomes_same}
use Rattle.minimality.proofs.Combined.{StrongGrades, strong_outcomes, has_carried, carried_outcome}

module _ (r x : Rule) {to : ℕ → ℕ} (k : StrongGrades r.morphism r.marks) (k' : StrongGrades x.morphism x.marks)
    (letters : r.morphism.letters ≡ x.morphism.letters) (f : Carries r.morphism x.morphism to) where
  abbrev acc : ℕ → ℕ → ℕ
  acc = grading r.morphism r.marks

  abbrev acc' : ℕ → ℕ → ℕ
  acc' = grading x.morphism x.marks

  -- words of s and z are those of a lasso, and have the values that s and z go to
  pub same_kept : SameGrades r x → (s z : ℕ) → s < r.morphism.size → z < r.morphism.size
      → grading r.morphism r.marks s z ≡ grading x.morphism x.marks (to s) (to z)
  same_kept same s z hs hz =
      let p = word_has (value_word k.reached (inside_element hs)) in
      let q = word_has (value_word k.reached (inside_element hz)) in
      sym (outcome_at_lem acc p q)
      ∙ same_outcomes r x acc acc' (strong_outcomes k) (strong_outcomes k') same (elements_lasso p q)
      ∙ outcome_at_lem acc' (has_carried k.lawful letters f p) (has_carried k.lawful letters f q)

  -- a lasso's values go to its values
  pub kept_same : ((s z : ℕ) → s < r.morphism.size → z < r.morphism.size
      → grading r.morphism r.marks s z ≡ grading x.morphism x.marks (to s) (to z)) → SameGrades r x
  kept_same kept = outcomes_same r x acc acc' (strong_outcomes k) (strong_outcomes k') letters (λ u v l.
      (let values : LassoValues r.morphism u v = lasso_values k.lawful l in
      values_outcome acc values
      ∙ kept values.start values.cycle values.start_inside values.cycle_inside
      ∙ sym (carried_outcome k.lawful k'.lawful letters f acc' values)))
