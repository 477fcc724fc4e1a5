-- The classes of words for `next` as they stand in scratch. Assumes nothing.
use Rattle.std.specs.Prelude.{ℕ, suc, ◌+◌, ◌≤◌, ◌<◌, ◌≡◌, ◌⊎◌, List, [], ◌∷◌, ◌++◌, length, get_or}
use Rattle.theory.specs.Rules.{Morphism, element, join}
use Rattle.temporal.specs.Nexts.{NextClassOf, SameNextClass}
use Rattle.promises.specs.Monitor.{no_value, value_of}
use Rattle.scratch.specs.Map.{next_tails_base, next_wholes_base}
use Rattle.formats.specs.RuleChecks.{scratch_size}
use Rattle.word_steps.specs.Records.{word_at}
use Rattle.word_steps.specs.Search.{Search}
use Rattle.next_list.specs.declared.Pair.{Pair}

-- the two values of class j
abbrev pub tail_at : List ℕ → ℕ → ℕ
tail_at scratch j = get_or scratch (next_tails_base + j) 0

abbrev pub whole_at : List ℕ → ℕ → ℕ
whole_at scratch j = get_or scratch (next_wholes_base + j) 0

-- a value, 64 for none, and an element
pub record ValueNeeds (n value element : ℕ) : Type 0 where
  pub value_known : (value ≡ no_value) ⊎ (value < n)
  pub inside : element < n

-- the value with the element behind it
pub record ValueBehind (m : Morphism) (value element' r : ℕ) : Type 0 where
  pub is : value_of r ≡ join m (value_of value) (element element')
  pub inside : r < m.size

-- the search has come to letter x of entry p, and the two values of each class are those of its word
pub record Listing (m : Morphism) (scratch : List ℕ) (count p x : ℕ) : Type 0 where
  pub search : Search (SameNextClass m) m.letters scratch count p x
  pub pairs : (j : ℕ) → j < count → NextClassOf m (word_at scratch (suc j)) (value_of (tail_at scratch j)) (whole_at scratch j)
  pub room : scratch_size ≤ length scratch

-- the two values of entry p's word with letter x behind it
pub record PairBehind (m : Morphism) (scratch : List ℕ) (p x : ℕ) (pair : Pair) : Type 0 where
  pub class : NextClassOf m (word_at scratch p ++ (x ∷ [])) (value_of pair.tail) pair.whole
  pub tail_small : pair.tail ≤ 64
  pub whole_small : pair.whole < 64
