-- A table that is not numbered by first words: two elements, the first letter's element numbered 1. Assumes nothing.
use Prim.Native.Nat.{ℕ, ◌-◌, ◌*◌}
use mathlib.Core.Path.{◌≡◌, refl, sym, ap, ◌∙◌}
use mathlib.Core.List.{List, [], ◌∷◌}
use native.Mathlib.Omega.{arith}
use Rattle.finite.specs.Shortlex.{here, Before, shorter, smaller, NotAfter}
use Rattle.finite.proofs.Shortlex.{before_not_after}
use Rattle.theory.specs.Words.{over_nil, over_cons}
use Rattle.theory.specs.Rules.{Morphism, join, value}
use Rattle.theory.proofs.Values.{element_apart}
use Rattle.formats.specs.FirstWords.{ByFirstWords}

-- two letters, the second of the first element
unfoldable pub turned : Morphism
turned = record { size = 2; letters = 2; product = λ s t. s * t; image = λ a. 1 - a }

-- only the empty word stands before the word of the first letter
before_first : (w : List ℕ) → Before w (0 ∷ []) → w ≡ []
before_first [] b = refl
before_first (a ∷ w) (shorter h) = absurd (omega arith)
before_first (a ∷ w) (smaller (here l e)) = absurd (omega arith)
before_first (a ∷ w) (smaller (Rattle.finite.specs.Shortlex.there _ x)) = elim x [ ]

pub turned_excluded : ByFirstWords turned → ⊥
unfolding turned value join
turned_excluded order =
    let last : NotAfter (order.word 1) (0 ∷ []) = (order.first 1 (omega arith)).least (0 ∷ []) (over_cons (omega arith) over_nil) refl in
    let empty : order.word 0 ≡ [] = before_first _ (before_not_after (order.increasing 0 1 (omega arith) (omega arith)) last) in
    element_apart (sym (order.first 0 (omega arith)).its_value ∙ ap (value turned) empty)
