-- The table of the pairs of values that words reach in two tables over the same letters: an element's words are those with the two values of
-- its pair, so each element is some word's value and the pair of every word that is not empty is there; linked pairs are linked in both
-- tables; there are as many pairs as elements; and two tables of the same pairs are renumberings of one another. Assumes nothing.
use Prim.Native.Nat.{ℕ, suc, ◌≤◌, ◌<◌}
use native.Mathlib.Omega.{arith}
use mathlib.Core.Path.{◌≡◌, sym, ap, ap₂, ◌∙◌, subst}
use mathlib.Core.Bool.{Bool, ◌&&◌}
use mathlib.Core.List.{List}
use lib.Dec.{T, eqb}
use mir.Facts.{eqb_yes, yes_eqb}
use Rattle.finite.proofs.Tests.{T_and, T_and_left, T_and_right}
use Rattle.finite.proofs.Search.{least_below, least_holds, least_bound}
use Rattle.finite.proofs.Pigeonhole.{Injection, injection_le}
use Rattle.theory.specs.Words.{Over}
use Rattle.theory.specs.Rules.{Morphism, Lawful, element, value, AllReached}
use Rattle.theory.specs.Pairs.{Linked}
use Rattle.theory.specs.Smallest.{Renumbered}
use Rattle.theory.specs.Maps.{Carries}
use Rattle.theory.specs.Combined.{PairWord, PairsOf, MorePairs}
use Rattle.theory.proofs.Values.{Element, element_same, value_element, value_some, inside_of}
use Rattle.theory.proofs.Carried.{element_carried, linked_carried}

-- the pair (s, t) is that of an element
pub record PairThere (m : Morphism) (left right : ℕ → ℕ) (s t : ℕ) : Type 0 where
  pub at : ℕ
  pub inside : at < m.size
  pub left_is : left at ≡ s
  pub right_is : right at ≡ t

module _ {m₁ m₂ m : Morphism} {left right : ℕ → ℕ} (p : PairsOf m₁ m₂ m left right) (law : Lawful m) where
  -- a word has the values of its element's pair
  pub left_value : {w : List ℕ} {a : ℕ} → Over m.letters w → value m w ≡ element a → value m₁ w ≡ element (left a)
  left_value = element_carried law p.first

  pub right_value : {w : List ℕ} {a : ℕ} → Over m.letters w → value m w ≡ element a → value m₂ w ≡ element (right a)
  right_value = element_carried law p.second

  -- the pair of every word that is not empty is there
  pub pair_there : {w : List ℕ} {s t : ℕ} → Over m.letters w → value m₁ w ≡ element s → value m₂ w ≡ element t → PairThere m left right s t
  pair_there {w} {s} o e₁ e₂ =
      let v : Element m (value m w) = value_element law o (value_some m₁ w s e₁) in
      record {
        at = v.the;
        inside = v.inside;
        left_is = element_same (sym (left_value o v.is) ∙ e₁);
        right_is = element_same (sym (right_value o v.is) ∙ e₂);
      }

  -- a word with the values of an element's pair has that element for its value
  pub pair_value : {w : List ℕ} {a : ℕ} → a < m.size → Over m.letters w → value m₁ w ≡ element (left a) → value m₂ w ≡ element (right a) → value m w ≡ element a
  pair_value {w} {a} h o e₁ e₂ =
      let v : Element m (value m w) = value_element law o (value_some m₁ w (left a) e₁) in
      v.is
      ∙ ap element (p.apart v.the a v.inside h (element_same (sym (left_value o v.is) ∙ e₁)) (element_same (sym (right_value o v.is) ∙ e₂)))

  over : {w : List ℕ} → Over m₁.letters w → Over m.letters w
  over {w} o = subst (λ (k : ℕ). Over k w) (sym p.first_letters) o

  -- the elements are the pairs that words have
  pub word_there : {s t : ℕ} → PairWord m₁ m₂ s t → PairThere m left right s t
  word_there w = pair_there (over w.over) w.first_value w.second_value

  -- every element is some word's value
  pub pairs_reached : AllReached m
  pairs_reached = record {
    word_of = λ a h.
        let w = p.some_word a h in
        record { word = w.word; over = over w.over; its_value = pair_value h (over w.over) w.first_value w.second_value };
  }

module _ {m₁ m₂ m : Morphism} {left right : ℕ → ℕ} (p : PairsOf m₁ m₂ m left right) where
  -- the halves of a pair are elements
  pub left_inside : Lawful m₁ → (a : ℕ) → a < m.size → left a < m₁.size
  left_inside law a h = inside_of law (p.some_word a h).over (p.some_word a h).first_value

  pub right_inside : Lawful m₂ → (a : ℕ) → a < m.size → right a < m₂.size
  right_inside law a h =
      let w = p.some_word a h in
      inside_of law (subst (λ (k : ℕ). Over k w.word) (sym p.first_letters ∙ p.second_letters) w.over) w.second_value

  -- the halves of a linked pair are linked
  pub left_linked : {s e : ℕ} → Lawful m₁ → Linked m s e → Linked m₁ (left s) (left e)
  left_linked law = linked_carried p.first (left_inside law)

  pub right_linked : {s e : ℕ} → Lawful m₂ → Linked m s e → Linked m₂ (right s) (right e)
  right_linked law = linked_carried p.second (right_inside law)

module _ (left right : ℕ → ℕ) (s t : ℕ) where
  -- b's pair is (s, t)
  pair_test : ℕ → Bool
  pair_test b = eqb (left b) s && eqb (right b) t

  -- the element below n with that pair; any number where there is none
  twin : ℕ → ℕ
  twin n = least_below n pair_test

  module _ (b : ℕ) where
    pair_intro : left b ≡ s → right b ≡ t → T (pair_test b)
    unfolding pair_test
    pair_intro e₁ e₂ = T_and (eqb (left b) s) (eqb (right b) t) (yes_eqb e₁) (yes_eqb e₂)

    pair_elim : T (pair_test b) → (left b ≡ s) × (right b ≡ t)
    unfolding pair_test
    pair_elim h = (eqb_yes (T_and_left (eqb (left b) s) (eqb (right b) t) h), eqb_yes (T_and_right (eqb (left b) s) (eqb (right b) t) h))

  module _ {m : Morphism} (k : PairThere m left right s t) where
    twin_inside : twin m.size < m.size
    unfolding twin
    twin_inside = omega (arith, k.inside, least_bound m.size pair_test k.at k.inside (pair_intro k.at k.left_is k.right_is))

    twin_pair : (left (twin m.size) ≡ s) × (right (twin m.size) ≡ t)
    unfolding twin
    twin_pair = pair_elim (twin m.size) (least_holds m.size pair_test twin_inside)

-- different pairs of words have different elements, their twins, in the table of the pairs
module _ {m₁ m₂ m : Morphism} {left right : ℕ → ℕ} (p : PairsOf m₁ m₂ m left right) (law : Lawful m) (n : ℕ) (first second : ℕ → ℕ)
    (words : (i : ℕ) → i < n → PairWord m₁ m₂ (first i) (second i)) where
  abbrev to : ℕ → ℕ
  to i = twin left right (first i) (second i) m.size

  to_inside : (i : ℕ) → i < n → to i < m.size
  to_inside i h = twin_inside left right (first i) (second i) (word_there p law (words i h))

  to_left : (i : ℕ) → i < n → left (to i) ≡ first i
  to_left i h = (twin_pair left right (first i) (second i) (word_there p law (words i h))).0

  to_right : (i : ℕ) → i < n → right (to i) ≡ second i
  to_right i h = (twin_pair left right (first i) (second i) (word_there p law (words i h))).1

  -- the only element with that pair
  to_is : (i b : ℕ) → i < n → b < m.size → first i ≡ left b → second i ≡ right b → to i ≡ b
  to_is i b hi hb e₁ e₂ = p.apart (to i) b (to_inside i hi) hb (to_left i hi ∙ e₁) (to_right i hi ∙ e₂)

  module _ (apart : (i j : ℕ) → i < n → j < n → first i ≡ first j → second i ≡ second j → i ≡ j) where
    to_apart : (i j : ℕ) → i < n → j < n → to i ≡ to j → i ≡ j
    to_apart i j hi hj e = apart i j hi hj (sym (to_left i hi) ∙ ap left e ∙ to_left j hj) (sym (to_right i hi) ∙ ap right e ∙ to_right j hj)

    pairs_at_most : n ≤ m.size
    pairs_at_most = injection_le (let f : Injection n m.size to = record { maps = to_inside; apart = to_apart } in f)

-- there are more than n pairs exactly if the table has more than n elements
module _ {m₁ m₂ m : Morphism} {left right : ℕ → ℕ} (p : PairsOf m₁ m₂ m left right) {n : ℕ} where
  pub pairs_more : n < m.size → MorePairs m₁ m₂ n
  pairs_more h = record {
    left = left;
    right = right;
    some_word = λ i hi. p.some_word i (omega arith);
    apart = λ i j hi hj. p.apart i j (omega arith) (omega arith);
  }

  pub more_pairs : Lawful m → MorePairs m₁ m₂ n → n < m.size
  more_pairs law k =
      omega (arith, pairs_at_most p law (suc n) k.left k.right (λ i h. k.some_word i (omega arith)) (λ i j hi hj. k.apart i j (omega arith) (omega arith)))

module _ {m₁ m₂ m m' : Morphism} {left right left' right' : ℕ → ℕ} (p : PairsOf m₁ m₂ m left right) (q : PairsOf m₁ m₂ m' left' right')
    (law : Lawful m) (law' : Lawful m') where
  abbrev twin_of : ℕ → ℕ
  twin_of = to q law' m.size left right p.some_word

  twin_below : (a : ℕ) → a < m.size → twin_of a < m'.size
  twin_below = to_inside q law' m.size left right p.some_word

  twin_is : (a b : ℕ) → a < m.size → b < m'.size → left a ≡ left' b → right a ≡ right' b → twin_of a ≡ b
  twin_is = to_is q law' m.size left right p.some_word

  -- one half of a product is that of the twins' product
  half : {n : Morphism} {side side' : ℕ → ℕ} → Carries m n side → Carries m' n side' → ((a : ℕ) → a < m.size → side' (twin_of a) ≡ side a)
      → (a b : ℕ) → a < m.size → b < m.size → side (m.product a b) ≡ side' (m'.product (twin_of a) (twin_of b))
  half {n} f g same a b ha hb =
      f.products a b ha hb
      ∙ sym (ap₂ n.product (same a ha) (same b hb))
      ∙ sym (g.products (twin_of a) (twin_of b) (twin_below a ha) (twin_below b hb))

  -- two tables of the same pairs are one, renumbered
  pub pairs_renumbered : Renumbered m m'
  pairs_renumbered = record {
    same_letters = p.first_letters ∙ sym q.first_letters;
    to = twin_of;
    inside = twin_below;
    one_to_one = to_apart q law' m.size left right p.some_word p.apart;
    onto = λ b h.
        let k : PairThere m left right (left' b) (right' b) = word_there p law (q.some_word b h) in
        (k.at, k.inside, twin_is k.at b k.inside h k.left_is k.right_is);
    products = λ a b ha hb.
        twin_is (m.product a b) (m'.product (twin_of a) (twin_of b)) (law.closed a b ha hb)
        (law'.closed (twin_of a) (twin_of b) (twin_below a ha) (twin_below b hb))
        (half p.first q.first (to_left q law' m.size left right p.some_word) a b ha hb)
        (half p.second q.second (to_right q law' m.size left right p.some_word) a b ha hb);
    images = λ x h.
        let h₁ : x < m.letters = subst (λ (k : ℕ). x < k) (q.first_letters ∙ sym p.first_letters) h in
        twin_is (m.image x) (m'.image x) (law.images x h₁) (law'.images x h) (p.first.images x h₁ ∙ sym (q.first.images x h))
        (p.second.images x h₁ ∙ sym (q.second.images x h));
  }

  -- and have as many elements
  pub pairs_size : m.size ≡ m'.size
  pairs_size =
      omega (
        arith,
        pairs_at_most q law' m.size left right p.some_word p.apart,
        pairs_at_most p law m'.size left' right' q.some_word q.apart,
      )
