-- The grades of pairs of classes for `until`, as bytes. Assumes nothing.
use Rattle.std.specs.Prelude.{ℕ, ◌≤◌, ◌<◌, List, length}
use Rattle.temporal.specs.Clamps.{until_outcome}
use Rattle.temporal_promises.specs.Until.{until_classes_size}
use Rattle.formats.specs.RuleChecks.{scratch_size}
use Rattle.until_clamps.specs.Clamps.{low_of, high_of}
use Rattle.until_step.specs.Bytes.{pair_at, class_at}

-- the ends of the clamps of the classes
abbrev pub low_at : List ℕ → ℕ → ℕ → ℕ → ℕ
low_at classes j t z = low_of (class_at classes j t z)

abbrev pub high_at : List ℕ → ℕ → ℕ → ℕ → ℕ
high_at classes j t z = high_of (class_at classes j t z)

-- the grade of the pair of classes (s, e)
unfoldable pub until_grade : List ℕ → List ℕ → ℕ → ℕ → ℕ
until_grade scratch classes s e = until_outcome (pair_at scratch) (low_at classes) (high_at classes) s e

-- pairs of a table, clamps in bytes where a cycle's pair stands twice, and room
pub record ClassesSmall (count : ℕ) (scratch classes : List ℕ) : Type 0 where
  pub few : count ≤ 64
  pub pairs : (j : ℕ) → j < count → pair_at scratch j < 64
  pub clamps : (j e : ℕ) → j < count → e < count → class_at classes j (pair_at scratch e) (pair_at scratch e) < 16
  pub room : scratch_size ≤ length scratch
  pub classes_room : until_classes_size ≤ length classes
