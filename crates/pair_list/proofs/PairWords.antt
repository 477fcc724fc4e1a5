-- The search of pairs and words: a word leads to the pair of its values; the pairs of letters, and of words in a row. Assumes nothing.
use Prim.Native.Nat.{ℕ, ◌<◌}
use mathlib.Core.Path.{◌≡◌, refl, sym, ◌∙◌}
use mathlib.Core.List.{List, [], ◌∷◌, ◌++◌}
use lib.ListN.{length}
use Rattle.finite.proofs.FirstWords.{after}
use Rattle.theory.specs.Words.{Over, over_nil, over_cons}
use Rattle.theory.specs.Rules.{Morphism, Lawful, Value, none, element, join, value}
use Rattle.theory.specs.Combined.{PairWord}
use Rattle.theory.proofs.Words.{over_append}
use Rattle.theory.proofs.Values.{join_elements, value_append, value_element}
use Rattle.rule_reach.specs.Reach.{word_step}
use Rattle.rule_reach.proofs.Order.{LeadingWord}
use Rattle.rule_reach.proofs.Words.{word_value}
use Rattle.pair_list.specs.Pairs.{pair_step}
use Rattle.pair_list.proofs.Entries.{same_left, same_right}

-- a word leads in both tables at once
after_pair : (m₁ m₂ : Morphism) (x y : Value) (w : List ℕ) → after (pair_step m₁ m₂) (x, y) w ≡ (after (word_step m₁) x w, after (word_step m₂) y w)
unfolding after pair_step
after_pair m₁ m₂ x y [] = refl
after_pair m₁ m₂ x y (a ∷ w) = after_pair m₁ m₂ (word_step m₁ a x) (word_step m₂ a y) w

module _ {m₁ m₂ : Morphism} (law₁ : Lawful m₁) (law₂ : Lawful m₂) (same_letters : m₂.letters ≡ m₁.letters) where
  -- a word over the letters of both
  pub second_over : {w : List ℕ} → Over m₁.letters w → Over m₂.letters w
  second_over o = rw same_letters o

  -- from the empty word to the values of a word
  pub pair_value : {w : List ℕ} → Over m₁.letters w → after (pair_step m₁ m₂) (none, none) w ≡ (value m₁ w, value m₂ w)
  pair_value {w} o = after_pair m₁ m₂ none none w ∙ cc (word_value law₁ o, word_value law₂ (second_over o))

  -- a word that leads to a pair of elements has them for its values
  pub leading_pair : {s t : ℕ} → LeadingWord (none, none) (pair_step m₁ m₂) m₁.letters (element s, element t) → PairWord m₁ m₂ s t
  leading_pair w =
      let e = sym (pair_value w.over) ∙ w.leads in
      record { word = w.word; over = w.over; first_value = same_left e; second_value = same_right e }

  -- every word that is not empty has a pair of elements for its values
  pub values_word : {w : List ℕ} (o : Over m₁.letters w) (h : 0 < length w) → PairWord m₁ m₂ (value_element law₁ o h).the (value_element law₂ (second_over o) h).the
  values_word {w} o h = record { word = w; over = o; first_value = (value_element law₁ o h).is; second_value = (value_element law₂ (second_over o) h).is }

  -- the values of a word of one letter
  pub letter_word : {x : ℕ} → x < m₁.letters → PairWord m₁ m₂ (m₁.image x) (m₂.image x)
  unfolding value join
  letter_word {x} h = record { word = x ∷ []; over = over_cons h over_nil; first_value = refl; second_value = refl }

  -- those of one word after another
  pub product_word : {s t s' t' : ℕ} → PairWord m₁ m₂ s t → PairWord m₁ m₂ s' t' → PairWord m₁ m₂ (m₁.product s s') (m₂.product t t')
  product_word {s} {t} {s'} {t'} u v = record {
    word = u.word ++ v.word;
    over = over_append u.over v.over;
    first_value = value_append law₁ u.over v.over ∙ rw (u.first_value, v.first_value) (join_elements m₁ s s');
    second_value = value_append law₂ (second_over u.over) (second_over v.over) ∙ rw (u.second_value, v.second_value) (join_elements m₂ t t');
  }
