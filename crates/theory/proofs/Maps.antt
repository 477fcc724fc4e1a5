-- Maps of elements that carry products and letter images: two of them agree where a word has the value, and maps that agree on elements do
-- alike. Assumes nothing.
use Prim.Native.Nat.{ℕ, ◌<◌}
use mathlib.Core.Path.{◌≡◌, sym, ap, ap₂, ◌∙◌, subst}
use Rattle.theory.specs.Rules.{Morphism, Lawful, WordOf}
use Rattle.theory.specs.Smallest.{Renumbered}
use Rattle.theory.specs.Maps.{Carries, MapsOnto}
use Rattle.theory.proofs.Values.{element_same}
use Rattle.theory.proofs.Carried.{element_carried, renumbered_carries}

-- the word of an element has one value on the other side
pub one_map : {a b : Morphism} {f g : ℕ → ℕ} {s : ℕ} → Lawful a → Carries a b f → Carries a b g → WordOf a s → f s ≡ g s
one_map law p q w = element_same (sym (element_carried law p w.over w.its_value) ∙ element_carried law q w.over w.its_value)

module _ {a b : Morphism} {f g : ℕ → ℕ} (law : Lawful a) (same : (s : ℕ) → s < a.size → g s ≡ f s) where
  carries_same : Carries a b f → Carries a b g
  carries_same p = record {
    products = λ s t hs ht. same _ (law.closed s t hs ht) ∙ p.products s t hs ht ∙ sym (ap₂ b.product (same s hs) (same t ht));
    images = λ x h. same _ (law.images x h) ∙ p.images x h;
  }

  pub maps_same : MapsOnto a b f → MapsOnto a b g
  maps_same p = record {
    inside = λ s h. rw (same s h) (p.inside s h);
    onto = λ t h. (let x = p.onto t h in (x.0, x.1, same x.0 x.1 ∙ x.2));
    carries = carries_same p.carries;
  }

-- a map and then another
pub maps_on : {a b c : Morphism} {f g : ℕ → ℕ} → a.letters ≡ b.letters → MapsOnto a b f → MapsOnto b c g → MapsOnto a c (λ s. g (f s))
maps_on {f = f} {g = g} letters p q = record {
  inside = λ s h. q.inside (f s) (p.inside s h);
  onto = λ t h.
      let y = q.onto t h in
      let x = p.onto y.0 y.1 in
      (x.0, x.1, ap g x.2 ∙ y.2);
  carries = record {
    products = λ s t hs ht. ap g (p.carries.products s t hs ht) ∙ q.carries.products (f s) (f t) (p.inside s hs) (p.inside t ht);
    images = λ x h. ap g (p.carries.images x h) ∙ q.carries.images x (subst (λ (k : ℕ). x < k) letters h);
  };
}

-- a renumbering is such a map
pub renumbered_maps : {a b : Morphism} → Lawful a → (r : Renumbered a b) → MapsOnto a b r.to
renumbered_maps law r = record { inside = r.inside; onto = r.onto; carries = renumbered_carries law r }

-- a map and then a renumbering
pub maps_renumbered : {a b c : Morphism} {f : ℕ → ℕ} → a.letters ≡ b.letters → Lawful b → MapsOnto a b f → (r : Renumbered b c) → MapsOnto a c (λ s. r.to (f s))
maps_renumbered letters law p r = maps_on letters p (renumbered_maps law r)
