-- What a complete list of pairs says of words: each pair is that of a non-empty word, the pair of each such word is there, so letters and
-- products are, and there are no more pairs than the list has; the words by which the pairs were found are the first ones, and the list
-- stands in their order. Assumes nothing.
use Prim.Native.Nat.{ℕ, suc, ◌-◌, ◌<◌}
use mathlib.Core.Path.{◌≡◌, refl, sym, ap, subst, ◌∙◌}
use mathlib.Core.List.{List}
use native.Mathlib.Omega.{arith}
use Rattle.finite.specs.Shortlex.{Before, NotAfter}
use Rattle.finite.proofs.Pigeonhole.{Injection, injection_le}
use Rattle.finite.proofs.Worklist.{Entry}
use Rattle.finite.proofs.FirstWords.{after, first_word, FirstWord, first_word_lem, words_increase, word_entry}
use Rattle.theory.specs.Words.{Over}
use Rattle.theory.specs.Rules.{Morphism, none, element, value}
use Rattle.theory.specs.Combined.{PairWord, MorePairs}
use Rattle.formats.specs.Table.{product_at, image_at, morphism_at}
use Rattle.pair_list.specs.Pairs.{left_at, right_at, entry_at, parent_at, letter_at, number_at, pair_step, Numbered, TwoTables, PairList}
use Rattle.pair_list.proofs.Entries.{same_left, same_right, entry_pair, entry_number}
use Rattle.pair_list.proofs.PairWords.{pair_value, letter_word, product_word}

-- the word by which pair i was found: that of the entry before it, and a letter
abbrev pub word_at : List ℕ → ℕ → List ℕ
word_at scratch i = first_word (parent_at scratch) (letter_at scratch) (suc i)

-- the first word with the values s and t
pub record FoundPair (m₁ m₂ : Morphism) (s t : ℕ) (word : List ℕ) : Type 0 where
  pub over : Over m₁.letters word
  pub first_value : value m₁ word ≡ element s
  pub second_value : value m₂ word ≡ element t
  pub least : (v : List ℕ) → Over m₁.letters v → value m₁ v ≡ element s → value m₂ v ≡ element t → NotAfter word v

-- two pairs with one number are one
pub numbered_same : {scratch : List ℕ} {count s t s' t' : ℕ} (a : Numbered scratch count s t) (b : Numbered scratch count s' t') → a.at ≡ b.at → (s ≡ s') × (t ≡ t')
numbered_same {scratch} a b e = (sym a.left ∙ ap (left_at scratch) e ∙ b.left, sym a.right ∙ ap (right_at scratch) e ∙ b.right)

module _ {first : List ℕ} {n₁ : ℕ} {second : List ℕ} {n₂ k : ℕ} (tables : TwoTables first n₁ second n₂ k) {scratch : List ℕ} {count : ℕ}
    (list : PairList first n₁ second n₂ k scratch count) where
  -- the values of a word, where it leads
  leads_to : {v : List ℕ} {s t : ℕ} → Over k v → value (morphism_at first n₁ k) v ≡ element s → value (morphism_at second n₂ k) v ≡ element t
      → ◌≡◌ {A = _} (after (pair_step (morphism_at first n₁ k) (morphism_at second n₂ k)) (none, none) v) (element s, element t)
  leads_to o e f = pair_value tables.first_law tables.second_law refl o ∙ cc (e, f)

  -- the word by which a pair was found is the first with that pair of values
  pub found_pair : (i : ℕ) → i < count → FoundPair (morphism_at first n₁ k) (morphism_at second n₂ k) (left_at scratch i) (right_at scratch i) (word_at scratch i)
  found_pair i h =
      let f : FirstWord (none, none) (pair_step (morphism_at first n₁ k) (morphism_at second n₂ k)) k (entry_at scratch (suc i)) (word_at scratch i) = first_word_lem list.order (suc i) (omega arith) in
      let e = sym (pair_value tables.first_law tables.second_law refl f.over) ∙ f.leads ∙ entry_pair scratch i in
      record { over = f.over; first_value = same_left e; second_value = same_right e; least = λ v o p q. f.least v o (leads_to o p q ∙ sym (entry_pair scratch i)) }

  -- each pair is that of a non-empty word
  pub listed_word : (i : ℕ) → i < count → PairWord (morphism_at first n₁ k) (morphism_at second n₂ k) (left_at scratch i) (right_at scratch i)
  listed_word i h =
      let f = found_pair i h in
      record { word = word_at scratch i; over = f.over; first_value = f.first_value; second_value = f.second_value }

  -- the pair of each non-empty word is there
  pub word_listed : {s t : ℕ} → PairWord (morphism_at first n₁ k) (morphism_at second n₂ k) s t → Numbered scratch count s t
  word_listed w = entry_number list.numbers (subst (Entry (entry_at scratch) (suc count)) (leads_to w.over w.first_value w.second_value) (word_entry list.order w.word w.over))

  -- so that of each letter
  pub letter_listed : (x : ℕ) → x < k → Numbered scratch count (image_at first n₁ x) (image_at second n₂ x)
  letter_listed x h = word_listed (letter_word tables.first_law tables.second_law refl h)

  -- and the product of two pairs
  pub product_listed : (i j : ℕ) → i < count → j < count
      → Numbered scratch count (product_at first n₁ (left_at scratch i) (left_at scratch j)) (product_at second n₂ (right_at scratch i) (right_at scratch j))
  product_listed i j hi hj = word_listed (product_word tables.first_law tables.second_law refl (listed_word i hi) (listed_word j hj))

  -- no pair stands twice
  pub listed_apart : (i j : ℕ) → i < count → j < count → left_at scratch i ≡ left_at scratch j → right_at scratch i ≡ right_at scratch j → i ≡ j
  listed_apart i j hi hj l r =
      let e : number_at scratch (left_at scratch i) (right_at scratch i) ≡ number_at scratch (left_at scratch j) (right_at scratch j) = cc (l, r) in
      omega (arith, list.numbers.of_entry i hi, list.numbers.of_entry j hj)

  -- there are no more pairs than the list has
  pub no_more_pairs : MorePairs (morphism_at first n₁ k) (morphism_at second n₂ k) 64 → ⊥
  no_more_pairs more = omega (arith, list.few, injection_le placed)
    where
      place : (i : ℕ) → i < 65 → Numbered scratch count (more.left i) (more.right i)
      place i h = word_listed (more.some_word i (omega arith))

      index : ℕ → ℕ
      index i = number_at scratch (more.left i) (more.right i) - 1

      is_index : (i : ℕ) (h : i < 65) → index i ≡ (place i h).at
      is_index i h = omega (arith, (place i h).number)

      placed : Injection 65 count index
      placed = record {
        maps = λ i h. omega (arith, is_index i h, (place i h).below);
        apart = λ i j hi hj e.
            let same = numbered_same (place i hi) (place j hj) (sym (is_index i hi) ∙ e ∙ is_index j hj) in
            more.apart i j (omega arith) (omega arith) same.0 same.1;
      }

  -- the pairs stand in the order of their words
  pub words_rise : (i j : ℕ) → i < j → j < count → Before (word_at scratch i) (word_at scratch j)
  words_rise i j h l = words_increase list.order (suc i) (suc j) (omega arith) (omega arith)
