-- What stands in lent bytes while a lasso is tested: the values of the beginnings and of the ends of a word; the search of a cycle's cuts
-- over them; and a bound on the marks. Assumes nothing.
use Rattle.std.specs.Prelude.{ℕ, suc, ◌+◌, ◌≤◌, ◌<◌, ◌≡◌, Bool, cond, List, length, get_or, take, drop, T, ltb}
use Rattle.finite.specs.Search.{any_below}
use Rattle.theory.specs.Rules.{Morphism, Pairs, Marking, level, element, value}
use Rattle.theory.proofs.Membership.{turn_test}
use Rattle.scratch.specs.Map.{beginnings_base, ends_base, words_end}
use Rattle.scratch.specs.Bytes.{UnchangedOutside}

-- byte base + j is the value of the word's first j + 1 letters
pub record Beginnings (m : Morphism) (w bytes : List ℕ) (base : ℕ) : Type 0 where
  pub beginning : (j : ℕ) → j < length w → value m (take (suc j) w) ≡ element (get_or bytes (base + j) 0)

-- byte base + j is the value of the word's letters from place j on
pub record Ends (m : Morphism) (w bytes : List ℕ) (base : ℕ) : Type 0 where
  pub end : (j : ℕ) → j < length w → value m (drop j w) ≡ element (get_or bytes (base + j) 0)

-- only the count bytes from base on may differ
abbrev pub KeptAround : List ℕ → List ℕ → ℕ → ℕ → Type 0
KeptAround entry exit base count = UnchangedOutside base (base + count) entry exit

-- the values of the beginnings from byte 4096 on and of the ends from byte 8320 on, of a word with len letters, are elements
pub record CutValues (bytes : List ℕ) (n len : ℕ) : Type 0 where
  pub short : len ≤ 4224
  pub long : words_end ≤ length bytes
  pub beginning_inside : (j : ℕ) → j < len → get_or bytes (beginnings_base + j) 0 < n
  pub end_inside : (j : ℕ) → j < len → get_or bytes (ends_base + j) 0 < n

-- the value of one turn from the cut after j + 1 letters on: that of the end behind the cut, then that of the beginning
-- before it; behind the last letter there is no end
unfoldable pub turn_value : Morphism → List ℕ → ℕ → ℕ → ℕ
turn_value m bytes len j =
    cond (ltb (j + 1) len) (m.product (get_or bytes (ends_base + j + 1) 0) (get_or bytes (beginnings_base + j) 0)) (get_or bytes (beginnings_base + j) 0)

-- the cut after j + 1 letters passes, after a start of value s
unfoldable pub cut_at : Morphism → Pairs → ℕ → List ℕ → ℕ → ℕ → Bool
cut_at m P s bytes len j = turn_test m P (m.product s (get_or bytes (beginnings_base + j) 0)) (turn_value m bytes len j)

-- one of the len cuts of a turn does
unfoldable pub some_cut : Morphism → Pairs → ℕ → List ℕ → ℕ → Bool
some_cut m P s bytes len = any_below len (cut_at m P s bytes len)

-- p and r are the values at the cut after j + 1 letters, after a start of value s: of what comes before it, and of the turn
pub record CutHere (m : Morphism) (s : ℕ) (bytes : List ℕ) (len j p r : ℕ) : Type 0 where
  pub before_inside : p < m.size
  pub turn_inside : r < m.size
  pub is_before : p ≡ m.product s (get_or bytes (beginnings_base + j) 0)
  pub is_turn : r ≡ turn_value m bytes len j

-- none of the first j of len cuts passes at a grade of 1 or more
pub record UnmarkedBefore (m : Morphism) (marks : Marking) (s : ℕ) (bytes : List ℕ) (len j : ℕ) : Type 0 where
  pub within : j ≤ len
  pub unmarked : (g i : ℕ) → 1 ≤ g → i < j → ¬ T (cut_at m (level g marks) s bytes len i)

-- no pair of n elements is marked above a number
pub record MarksUpTo (n : ℕ) (marks : Marking) (top : ℕ) : Type 0 where
  pub small : (s e : ℕ) → s < n → e < n → marks s e ≤ top
