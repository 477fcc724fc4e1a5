-- The classes of words for `until` as they stand in scratch and in a buffer of their own. Assumes nothing.
use Rattle.std.specs.Prelude.{ℕ, suc, ◌+◌, ◌*◌, max, ◌≤◌, ◌<◌, ◌≡◌, List, length}
use Rattle.theory.specs.Rules.{Morphism, Lawful}
use Rattle.temporal.specs.Clamps.{through, clamp, UntilClassOf, SameUntilClass}
use Rattle.temporal_promises.specs.Until.{until_classes_size}
use Rattle.formats.specs.RuleChecks.{scratch_size}
use Rattle.word_steps.specs.Records.{word_at}
use Rattle.word_steps.specs.Search.{Search}
use Rattle.until_clamps.specs.Clamps.{low_of, high_of}
use Rattle.until_step.specs.Bytes.{product_byte, image_byte, grades_at, step_at, pair_at, class_at}

-- a table of np pairs and k letters
abbrev pub pairs_table : ℕ → ℕ → (ℕ → ℕ → ℕ) → (ℕ → ℕ) → Morphism
pairs_table np k product image = record { size = np; letters = k; product = product; image = image }

-- it stands in scratch, and so do the grades that two rules give at each context, no grade above 3: "lo = ψ .., hi = the higher of that and φ"
pub record UntilTables (m : Morphism) (first second : ℕ → ℕ → ℕ) (scratch : List ℕ) : Type 0 where
  pub lawful : Lawful m
  pub few_pairs : m.size ≤ 64
  pub products : (s t : ℕ) → s < m.size → t < m.size → product_byte scratch m.size s t ≡ m.product s t
  pub images : (x : ℕ) → x < m.letters → image_byte scratch x ≡ m.image x
  pub grades : (t z : ℕ) → t < m.size → z < m.size → grades_at scratch t z ≡ second t z + 4 * max (second t z) (first t z)
  pub first_small : (t z : ℕ) → t < m.size → z < m.size → first t z ≤ 3
  pub second_small : (t z : ℕ) → t < m.size → z < m.size → second t z ≤ 3

-- class j is that of a word
abbrev pub ClassHeld : Morphism → (ℕ → ℕ → ℕ) → (ℕ → ℕ → ℕ) → List ℕ → List ℕ → ℕ → List ℕ → Type 0
ClassHeld m first second scratch classes j w =
    UntilClassOf m first second w (pair_at scratch j) (λ t z. low_of (class_at classes j t z)) (λ t z. high_of (class_at classes j t z))

-- the search has come to letter x of entry p, and each class is that of its word
pub record Listing (m : Morphism) (first second : ℕ → ℕ → ℕ) (scratch classes : List ℕ) (count p x : ℕ) : Type 0 where
  pub tables : UntilTables m first second scratch
  pub search : Search (SameUntilClass m first second) m.letters scratch count p x
  pub held : (j : ℕ) → j < count → ClassHeld m first second scratch classes j (word_at scratch (suc j))
  pub room : scratch_size ≤ length scratch
  pub classes_room : until_classes_size ≤ length classes

-- what entry p's word makes of the grades at each context is worked out
pub record Stepped (m : Morphism) (first second : ℕ → ℕ → ℕ) (scratch : List ℕ) (p : ℕ) : Type 0 where
  pub low : (s z : ℕ) → s < m.size → z < m.size
      → low_of (step_at scratch s z) ≡ clamp (through m first second (word_at scratch p) s z 0) (through m first second (word_at scratch p) s z 3) (second s z)
  pub high : (s z : ℕ) → s < m.size → z < m.size
      → high_of (step_at scratch s z) ≡ clamp (through m first second (word_at scratch p) s z 0) (through m first second (word_at scratch p) s z 3) (max (second s z) (first s z))
