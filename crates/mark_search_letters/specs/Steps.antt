-- What it does to the worklist to hand letters over. Assumes nothing.
use Rattle.std.specs.Prelude.{ℕ, ◌≤◌, ◌<◌, ◌≡◌, cond, List, ltb}
use Rattle.theory.specs.Rules.{Morphism}
use Rattle.scratch.specs.Preimages.{after_letter, Preimages}
use Rattle.mark_search_list.specs.Queue.{front_at, back_at, letter_at, parent_at, Queue, HasState, Grown}

-- the element of a letter and then the value with number y
unfoldable pub before_letter : Morphism → ℕ → ℕ → ℕ
before_letter m a y = cond (ltb y m.size) (m.product (m.image a) y) (m.image a)

-- the entries from the first count on hand a letter of the entry `from` over from its front to its back
pub record FoundFrom (m : Morphism) (s : ℕ) (entry : List ℕ) (count from : ℕ) (exit : List ℕ) (total : ℕ) : Type 0 where
  pub grown : Grown m.size s entry count exit total
  pub parent : (j : ℕ) → count ≤ j → j < total → parent_at exit j ≡ from
  pub letter : (j : ℕ) → count ≤ j → j < total → letter_at exit j < m.letters
  pub front : (j : ℕ) → count ≤ j → j < total → after_letter m (letter_at exit j) (front_at exit j) ≡ front_at entry from
  pub back : (j : ℕ) → count ≤ j → j < total → back_at exit j ≡ before_letter m (letter_at exit j) (back_at entry from)

-- every value that the letter a takes to the front x makes an entry, behind it the letter and y
pub record Takes (m : Morphism) (a x y : ℕ) (scratch : List ℕ) (count : ℕ) : Type 0 where
  pub holds : (c : ℕ) → c ≤ m.size → after_letter m a c ≡ x → HasState scratch count c (before_letter m a y)

-- the entry `from` was tried with the letter a
pub record Taken (m : Morphism) (s : ℕ) (entry : List ℕ) (count from a : ℕ) (exit : List ℕ) (total : ℕ) : Type 0 where
  pub found : FoundFrom m s entry count from exit total
  pub takes : Takes m a (front_at entry from) (back_at entry from) exit total

-- and with every letter below a number
pub record Expanded (m : Morphism) (s : ℕ) (entry : List ℕ) (count from below : ℕ) (exit : List ℕ) (total : ℕ) : Type 0 where
  pub found : FoundFrom m s entry count from exit total
  pub takes : (a : ℕ) → a < below → Takes m a (front_at entry from) (back_at entry from) exit total

-- an entry with an element in front, and the lists of the values that each letter takes to it
pub record ExpandNeeds (m : Morphism) (s : ℕ) (scratch : List ℕ) (count from : ℕ) : Type 0 where
  pub queue : Queue m.size s scratch count
  pub preimages : Preimages m scratch
  pub there : from < count
  pub has_front : front_at scratch from < m.size
