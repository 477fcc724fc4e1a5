-- The split of an entry, and what it does to the worklist to try the entry. Assumes nothing.
use Rattle.std.specs.Prelude.{ℕ, ◌≤◌, ◌<◌, Bool, List, T}
use Rattle.theory.specs.Rules.{Morphism, Pairs}
use Rattle.theory.proofs.Codes.{value_coded}
use Rattle.theory.proofs.Splits.{turn_square}
use Rattle.mark_search_list.specs.Queue.{front_at, back_at}
use Rattle.mark_search_letters.specs.Steps.{FoundFrom, Takes}

-- the pair of a split with x in front and the value with number y behind is one of P
unfoldable pub split_marked : Morphism → Pairs → ℕ → ℕ → ℕ → Bool
split_marked m P s x y = P (m.product s x) (turn_square m (value_coded m.size y) x)

-- the entry `from` was tried: where its split is not marked every step from it is an entry now, and where it is none was added
pub record Visited (m : Morphism) (P : Pairs) (s : ℕ) (entry : List ℕ) (count from : ℕ) (exit : List ℕ) (total : ℕ) : Type 0 where
  pub found : FoundFrom m s entry count from exit total
  pub takes : (T (split_marked m P s (front_at entry from) (back_at entry from)) → ⊥) → (a : ℕ) → a < m.letters
      → Takes m a (front_at entry from) (back_at entry from) exit total
  pub unmarked : (j : ℕ) → count ≤ j → j < total → T (split_marked m P s (front_at entry from) (back_at entry from)) → ⊥
