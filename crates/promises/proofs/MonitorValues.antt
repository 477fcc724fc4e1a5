-- The value that a number of a monitor stands for: an element's, or none for 64. Assumes nothing.
use Prim.Native.Nat.{ℕ}
use mathlib.Core.Path.{◌≡◌, sym, ap, ◌∙◌}
use native.Mathlib.Decide.{ℕ_discrete}
use borrow.Author.Tests.{eq-eqb, ne_eqb}
use Rattle.theory.specs.Rules.{none, element}
use Rattle.promises.specs.Monitor.{no_value, value_of, number_for}

pub value_none : {s : ℕ} → s ≡ no_value → value_of s ≡ none
unfolding value_of
value_none {s} e = simp (eq-eqb s no_value e)

pub value_element : {s : ℕ} → (s ≡ no_value → ⊥) → value_of s ≡ element s
unfolding value_of
value_element {s} f = simp (ne_eqb s no_value f)

-- the number of a good number's value is that number
pub number_of_value : (s : ℕ) → number_for (value_of s) ≡ s
unfolding number_for
number_of_value s = go (ℕ_discrete s no_value)
  where
    go : Dec (s ≡ no_value) → number_for (value_of s) ≡ s
    go (yes e) = ap number_for (value_none e) ∙ sym e
    go (no f) = ap number_for (value_element f)
