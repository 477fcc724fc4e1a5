-- The list of pairs of values as it stands in scratch, and what the search of words in two tables leaves there. Assumes nothing.
use Rattle.std.specs.Prelude.{ℕ, zero, suc, ◌+◌, ◌*◌, ◌≤◌, ◌<◌, ◌≡◌, List, length, get_or, Option, Some, None}
use Rattle.finite.proofs.FirstWords.{FirstOrder}
use Rattle.theory.specs.Rules.{Morphism, Lawful, Value, none, element}
use Rattle.theory.specs.Combined.{MorePairs}
use Rattle.formats.specs.Table.{morphism_at}
use Rattle.formats.specs.RuleChecks.{scratch_size}
use Rattle.formats.proofs.Tables.{Table}
use Rattle.rule_reach.specs.Reach.{word_step}
use Rattle.scratch.specs.Bytes.{UnchangedOutside}
use Rattle.scratch.specs.Map.{pair_numbers_base, pair_lefts_base, pair_rights_base, pair_parents_base, pair_letters_base, pairs_end}

-- the halves of pair i of the list
abbrev pub left_at : List ℕ → ℕ → ℕ
left_at scratch i = get_or scratch (pair_lefts_base + i) 0

abbrev pub right_at : List ℕ → ℕ → ℕ
right_at scratch i = get_or scratch (pair_rights_base + i) 0

-- one half of an entry: entry 0 is the empty word, entry i + 1 has its half at byte base + i
unfoldable pub value_at : List ℕ → ℕ → ℕ → Value
value_at scratch base zero = none
value_at scratch base (suc i) = element (get_or scratch (base + i) 0)

-- the values of an entry; entry i + 1 is pair i
abbrev pub entry_at : List ℕ → ℕ → Value × Value
entry_at scratch i = (value_at scratch pair_lefts_base i, value_at scratch pair_rights_base i)

-- the entry that entry i + 1 was found from
unfoldable pub parent_at : List ℕ → ℕ → ℕ
parent_at scratch zero = 0
parent_at scratch (suc i) = get_or scratch (pair_parents_base + i) 0

-- and the letter
unfoldable pub letter_at : List ℕ → ℕ → ℕ
letter_at scratch zero = 0
letter_at scratch (suc i) = get_or scratch (pair_letters_base + i) 0

-- the number of the entry of the pair (s, t), 0 where it has none
unfoldable pub number_at : List ℕ → ℕ → ℕ → ℕ
number_at scratch s t = get_or scratch (pair_numbers_base + (s * 64 + t)) 0

-- the values of a word with one letter more
unfoldable pub pair_step : Morphism → Morphism → ℕ → Value × Value → Value × Value
pair_step m₁ m₂ a x = (word_step m₁ a x.0, word_step m₂ a x.1)

-- the number of the pair (s, t) is that of its entry
pub record Numbered (scratch : List ℕ) (count s t : ℕ) : Type 0 where
  pub at : ℕ
  pub below : at < count
  pub number : number_at scratch s t ≡ at + 1
  pub left : left_at scratch at ≡ s
  pub right : right_at scratch at ≡ t

-- the numbers of the pairs name their entries
pub record Numbers (scratch : List ℕ) (count : ℕ) : Type 0 where
  pub of_entry : (i : ℕ) → i < count → number_at scratch (left_at scratch i) (right_at scratch i) ≡ i + 1
  pub of_pair : (s t : ℕ) → s < 64 → t < 64 → 0 < number_at scratch s t → Numbered scratch count s t

-- two lawful tables over the same letters
pub record TwoTables (first : List ℕ) (n₁ : ℕ) (second : List ℕ) (n₂ k : ℕ) : Type 0 where
  pub first_is_table : Table first n₁ k
  pub second_is_table : Table second n₂ k
  pub first_law : Lawful (morphism_at first n₁ k)
  pub second_law : Lawful (morphism_at second n₂ k)

-- room for the list, and no pair has a number
pub record Empty (scratch : List ℕ) : Type 0 where
  pub room : scratch_size ≤ length scratch
  pub blank : (i : ℕ) → pair_numbers_base ≤ i → i < pair_lefts_base → get_or scratch i 0 ≡ 0

-- the pairs of values of all non-empty words, each once, in the order of their first words
pub record PairList (first : List ℕ) (n₁ : ℕ) (second : List ℕ) (n₂ k : ℕ) (scratch : List ℕ) (count : ℕ) : Type 0 where
  pub order : FirstOrder (none, none) (pair_step (morphism_at first n₁ k) (morphism_at second n₂ k)) k (entry_at scratch) (suc count) (parent_at scratch) (letter_at scratch)
  pub some : 1 ≤ count
  pub few : count ≤ 64
  pub left_inside : (i : ℕ) → i < count → left_at scratch i < n₁
  pub right_inside : (i : ℕ) → i < count → right_at scratch i < n₂
  pub numbers : Numbers scratch count

-- how many there are, or that there are more than 64
abbrev pub ListAnswer : List ℕ → ℕ → List ℕ → ℕ → ℕ → List ℕ → Option ℕ → Type 0
ListAnswer first n₁ second n₂ k exit (Some count) = PairList first n₁ second n₂ k exit count
ListAnswer first n₁ second n₂ k exit None = MorePairs (morphism_at first n₁ k) (morphism_at second n₂ k) 64

-- every byte outside the list is as it was
abbrev pub Kept : List ℕ → List ℕ → Type 0
Kept entry exit = UnchangedOutside pair_numbers_base pairs_end entry exit

-- the answer, and the bytes outside the list
pub record PairsAnswer (first : List ℕ) (n₁ : ℕ) (second : List ℕ) (n₂ k : ℕ) (entry exit : List ℕ) (answer : Option ℕ) : Type 0 where
  pub kept : Kept entry exit
  pub says : ListAnswer first n₁ second n₂ k exit answer
