-- Which values a letter takes to an element, listed once for each letter: from the last one back to the first. A value is
-- known by its number: an element by its own, the empty word's by the size of the table. Assumes nothing.
use Rattle.std.specs.Prelude.{ℕ, ◌+◌, ◌*◌, ◌≤◌, ◌<◌, ◌≡◌, cond, List, length, get_or, ltb}
use Rattle.theory.specs.Rules.{Morphism}
use Rattle.scratch.specs.Map.{first_preimages_base, next_preimages_base, search_end}
use Rattle.scratch.specs.Bytes.{UnchangedOutside}

-- the element of the value with number c and then the letter a
unfoldable pub after_letter : Morphism → ℕ → ℕ → ℕ
after_letter m a c = cond (ltb c m.size) (m.product c (m.image a)) (m.image a)

-- r is one more than the last number below c with the property, and 0 where none has it
pub record LastBelow (P : ℕ → Type 0) (c r : ℕ) : Type 0 where
  pub within : r ≤ c
  pub holds : (i : ℕ) → r ≡ i + 1 → P i
  pub later : (i : ℕ) → r ≤ i → i < c → P i → ⊥

-- byte 57344 + (a·65 + x): one more than the last value that the letter a takes to x, where a list begins
unfoldable pub first_at : List ℕ → ℕ → ℕ → ℕ
first_at scratch a x = get_or scratch (first_preimages_base + (a * 65 + x)) 0

-- byte 59392 + (a·65 + c): one more than the last value below c that the letter a takes to where it takes c
unfoldable pub next_at : List ℕ → ℕ → ℕ → ℕ
next_at scratch a c = get_or scratch (next_preimages_base + (a * 65 + c)) 0

-- the lists of one letter, of the values below a number
pub record LetterPreimages (m : Morphism) (a below : ℕ) (scratch : List ℕ) : Type 0 where
  pub firsts : (x : ℕ) → x < m.size → LastBelow (λ c. after_letter m a c ≡ x) below (first_at scratch a x)
  pub nexts : (c : ℕ) → c < below → LastBelow (λ d. after_letter m a d ≡ after_letter m a c) c (next_at scratch a c)

-- the lists of every letter
pub record Preimages (m : Morphism) (scratch : List ℕ) : Type 0 where
  pub listed : (a : ℕ) → a < m.letters → LetterPreimages m a (m.size + 1) scratch

-- room for the lists, and no value listed yet
pub record PreimagesRoom (scratch : List ℕ) : Type 0 where
  pub room : search_end ≤ length scratch
  pub blank : (i : ℕ) → first_preimages_base ≤ i → i < next_preimages_base → get_or scratch i 0 ≡ 0

-- the lists of every letter, and nothing else changed
pub record PreimagesListed (m : Morphism) (entry exit : List ℕ) : Type 0 where
  pub preimages : Preimages m exit
  pub kept : UnchangedOutside first_preimages_base search_end entry exit
