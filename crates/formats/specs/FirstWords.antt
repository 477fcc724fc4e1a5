-- Elements numbered by their first words, as document 02, Job 3, has it: "the shorter word first, and among equal lengths the
-- earlier in letter order". Assumes nothing.
use Rattle.std.specs.Prelude.{ℕ, ◌<◌, ◌≡◌, List}
use Rattle.finite.specs.Shortlex.{Before, NotAfter}
use Rattle.theory.specs.Words.{Over}
use Rattle.theory.specs.Rules.{Morphism, element, value}

-- the first of all words with the element for their value
pub record FirstWordOf (m : Morphism) (s : ℕ) (word : List ℕ) : Type 0 where
  pub over : Over m.letters word
  pub its_value : value m word ≡ element s
  pub least : (v : List ℕ) → Over m.letters v → value m v ≡ element s → NotAfter word v

-- each element has a first word, and a smaller number goes with an earlier word
pub record ByFirstWords (m : Morphism) : Type 0 where
  pub word : ℕ → List ℕ
  pub first : (s : ℕ) → s < m.size → FirstWordOf m s (word s)
  pub increasing : (s t : ℕ) → s < t → t < m.size → Before (word s) (word t)
