-- The lists of values while they are written: what one value more changes, and what is left of a letter. Assumes nothing.
use Rattle.std.specs.Prelude.{ℕ, ◌+◌, ◌*◌, ◌≤◌, ◌<◌, ◌≡◌, List, length, get_or}
use Rattle.theory.specs.Rules.{Morphism}
use Rattle.scratch.specs.Preimages.{first_at, next_at, LetterPreimages}
use Rattle.scratch.specs.Map.{first_preimages_base, next_preimages_base, search_end}
use Rattle.scratch.specs.Bytes.{UnchangedOutside}

-- a letter, a value and an element whose bytes stand within the lists
pub record ValueNeeds (scratch : List ℕ) (a c x : ℕ) : Type 0 where
  pub room : search_end ≤ length scratch
  pub letter : a < 16
  pub value : c < 65
  pub element : x < 65

-- the value c stands in front of the list of a and x; no other byte changed
pub record ValueListed (entry exit : List ℕ) (a c x : ℕ) : Type 0 where
  pub same_length : length exit ≡ length entry
  pub first : first_at exit a x ≡ c + 1
  pub next : next_at exit a c ≡ first_at entry a x
  pub others : (i : ℕ) → (i ≡ first_preimages_base + (a * 65 + x) → ⊥) → (i ≡ next_preimages_base + (a * 65 + c) → ⊥) → get_or exit i 0 ≡ get_or entry i 0

-- room for the lists, and no value of the letter listed yet
pub record LetterRoom (scratch : List ℕ) (a : ℕ) : Type 0 where
  pub room : search_end ≤ length scratch
  pub blank : (x : ℕ) → x < 65 → first_at scratch a x ≡ 0

-- the lists of the other letters are as they were, and so is what stands outside the lists
pub record OthersKept (a : ℕ) (entry exit : List ℕ) : Type 0 where
  pub firsts : (b x : ℕ) → (b ≡ a → ⊥) → b < 16 → x < 65 → first_at exit b x ≡ first_at entry b x
  pub nexts : (b c : ℕ) → (b ≡ a → ⊥) → b < 16 → c < 65 → next_at exit b c ≡ next_at entry b c
  pub kept : UnchangedOutside first_preimages_base search_end entry exit

-- the values below a number are in the lists of one letter, and nothing else changed
pub record LetterListed (m : Morphism) (a below : ℕ) (entry exit : List ℕ) : Type 0 where
  pub listed : LetterPreimages m a below exit
  pub others : OthersKept a entry exit

-- the lists of the letters before a are there, and no value of another letter is listed yet
pub record LettersListed (m : Morphism) (a : ℕ) (entry exit : List ℕ) : Type 0 where
  pub listed : (b : ℕ) → b < a → LetterPreimages m b (m.size + 1) exit
  pub blank : (b x : ℕ) → a ≤ b → b < m.letters → x < 65 → first_at exit b x ≡ 0
  pub kept : UnchangedOutside first_preimages_base search_end entry exit
