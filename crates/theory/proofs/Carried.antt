-- A map of elements that takes products to products and letter images to letter images takes the value of each word to its value and
-- linked pairs to linked pairs; where it is one-to-one, words have one value exactly if they have one on the other side. Assumes nothing.
use Prim.Native.Nat.{ℕ, ◌<◌}
use mathlib.Core.Path.{◌≡◌, refl, sym, ap, ◌∙◌, subst}
use mathlib.Core.List.{List}
use Rattle.theory.specs.Words.{Over, over_nil, over_cons}
use Rattle.theory.specs.Rules.{Morphism, Lawful, Value, none, element, join, value}
use Rattle.theory.specs.Pairs.{Linked}
use Rattle.theory.specs.Smallest.{Renumbered}
use Rattle.theory.specs.Maps.{Carries}
use Rattle.theory.proofs.Values.{Inside, inside_none, inside_element, element_same, element_apart, value_inside}

-- a value with its element renamed
unfoldable pub renamed : (ℕ → ℕ) → Value → Value
renamed f none = none
renamed f (element s) = element (f s)

module _ {a b : Morphism} {to : ℕ → ℕ} (law : Lawful a) (f : Carries a b to) where
  renamed_join : {x y : Value} → Inside a x → Inside a y → renamed to (join a x y) ≡ join b (renamed to x) (renamed to y)
  unfolding renamed join
  renamed_join inside_none hy = refl
  renamed_join (inside_element h) inside_none = refl
  renamed_join (inside_element {s} h) (inside_element {s = t} h') = ap element (f.products s t h h')

  -- a word's value is renamed
  pub value_carried : {w : List ℕ} → Over a.letters w → value b w ≡ renamed to (value a w)
  unfolding value renamed
  value_carried over_nil = refl
  value_carried (over_cons {a = x} {w = tail} h o) =
      ap (join b (element (b.image x))) (value_carried o)
      ∙ ap (λ (i : ℕ). join b (element i) (renamed to (value a tail))) (sym (f.images x h))
      ∙ sym (renamed_join (inside_element (law.images x h)) (value_inside law o))

  -- so a word with an element for its value has that element's image for its value
  pub element_carried : {w : List ℕ} {s : ℕ} → Over a.letters w → value a w ≡ element s → value b w ≡ element (to s)
  unfolding renamed
  element_carried o e = value_carried o ∙ ap (renamed to) e

-- a linked pair goes to a linked pair
pub linked_carried : {a b : Morphism} {to : ℕ → ℕ} {s e : ℕ} → Carries a b to → ((t : ℕ) → t < a.size → to t < b.size) → Linked a s e → Linked b (to s) (to e)
linked_carried {to = to} {s = s} {e = e} f inside l =
    let h = l.idempotent.inside in
    record {
      inside = inside s l.inside;
      idempotent = record { inside = inside e h; square = sym (f.products e e h h) ∙ ap to l.idempotent.square };
      stays = sym (f.products s e l.inside h) ∙ ap to l.stays;
    }

-- one-to-one on elements is one-to-one on values
pub renamed_same : {a : Morphism} {to : ℕ → ℕ} → ((s t : ℕ) → s < a.size → t < a.size → to s ≡ to t → s ≡ t) → {x y : Value} → Inside a x → Inside a y
    → renamed to x ≡ renamed to y → x ≡ y
unfolding renamed
renamed_same one inside_none inside_none e = refl
renamed_same one inside_none (inside_element h) e = absurd (element_apart (sym e))
renamed_same one (inside_element h) inside_none e = absurd (element_apart e)
renamed_same one (inside_element {s} h) (inside_element {s = t} h') e = ap element (one s t h h' (element_same e))

-- a renumbering is such a map
module _ {a b : Morphism} (law : Lawful a) (f : Renumbered a b) where
  pub renumbered_carries : Carries a b f.to
  renumbered_carries = record {
    products = f.products;
    images = λ x h. f.images x (subst (λ (k : ℕ). x < k) f.same_letters h);
  }

  pub renumbered_value : {w : List ℕ} → Over a.letters w → value b w ≡ renamed f.to (value a w)
  renumbered_value = value_carried law renumbered_carries

  -- a word whose value is the renumbered s has the value s
  pub value_back : {s : ℕ} {w : List ℕ} → s < a.size → Over a.letters w → value b w ≡ element (f.to s) → value a w ≡ element s
  unfolding renamed
  value_back h o e = renamed_same f.one_to_one (value_inside law o) (inside_element h) (sym (renumbered_value o) ∙ e)

  -- words have one value exactly if they have one after renumbering
  pub values_back : {u w : List ℕ} → Over a.letters u → Over a.letters w → value b u ≡ value b w → value a u ≡ value a w
  values_back ou ow e =
      renamed_same f.one_to_one (value_inside law ou) (value_inside law ow) (sym (renumbered_value ou) ∙ e ∙ renumbered_value ow)

  pub values_on : {u w : List ℕ} → Over a.letters u → Over a.letters w → value a u ≡ value a w → value b u ≡ value b w
  values_on ou ow e = renumbered_value ou ∙ ap (renamed f.to) e ∙ sym (renumbered_value ow)
