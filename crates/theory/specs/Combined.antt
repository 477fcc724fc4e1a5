-- Two rules made one: the table of the pairs of values that words reach. Document 02, Job 7. Assumes nothing.
use Rattle.std.specs.Prelude.{ℕ, ◌≤◌, ◌<◌, ◌≡◌, List}
use Rattle.theory.specs.Words.{Over}
use Rattle.theory.specs.Rules.{Morphism, element, value}
use Rattle.theory.specs.Maps.{Carries}

-- a word with the values s and t in two tables over the same letters; it is not empty, since it has elements for values
pub record PairWord (m₁ m₂ : Morphism) (s t : ℕ) : Type 0 where
  pub word : List ℕ
  pub over : Over m₁.letters word
  pub first_value : value m₁ word ≡ element s
  pub second_value : value m₂ word ≡ element t

-- "the rule whose elements are the pairs of values that non-empty words reach": element a is the pair (left a, right a). Products and
-- images go pair by pair, no pair stands twice, and each is that of a word; where m is lawful that of each word is there, since images and
-- products are
pub record PairsOf (m₁ m₂ m : Morphism) (left right : ℕ → ℕ) : Type 0 where
  pub first_letters : m.letters ≡ m₁.letters
  pub second_letters : m.letters ≡ m₂.letters
  pub first : Carries m m₁ left
  pub second : Carries m m₂ right
  pub apart : (a b : ℕ) → a < m.size → b < m.size → left a ≡ left b → right a ≡ right b → a ≡ b
  pub some_word : (a : ℕ) → a < m.size → PairWord m₁ m₂ (left a) (right a)

-- "more than 64 reached pairs", for n: n + 1 different pairs, each that of a non-empty word
pub record MorePairs (m₁ m₂ : Morphism) (n : ℕ) : Type 0 where
  pub left : ℕ → ℕ
  pub right : ℕ → ℕ
  pub some_word : (i : ℕ) → i ≤ n → PairWord m₁ m₂ (left i) (right i)
  pub apart : (i j : ℕ) → i ≤ n → j ≤ n → left i ≡ left j → right i ≡ right j → i ≡ j
