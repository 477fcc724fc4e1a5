-- The classes for `until` and what a letter makes of them, as bytes. Assumes nothing.
use Rattle.std.specs.Prelude.{ℕ, ◌+◌, ◌*◌, ◌-◌, ◌≤◌, ◌<◌, cond, List, eqb, length, get_or}
use Rattle.scratch.specs.Map.{laid_products_base, laid_images_base, until_pairs_base, until_grades_base, until_class_base, until_step_base}
use Rattle.formats.specs.RuleChecks.{scratch_size}
use Rattle.temporal_promises.specs.Until.{until_classes_size}
use Rattle.until_clamps.specs.Clamps.{over}

-- the table of the pairs that is laid out: products, letters' elements
abbrev pub product_byte : List ℕ → ℕ → ℕ → ℕ → ℕ
product_byte scratch np s t = get_or scratch (laid_products_base + (s * np + t)) 0

abbrev pub image_byte : List ℕ → ℕ → ℕ
image_byte scratch x = get_or scratch (laid_images_base + x) 0

-- the grades of both rules at a context, what an entry makes of them, and the class that is worked out
abbrev pub grades_at : List ℕ → ℕ → ℕ → ℕ
grades_at scratch t z = get_or scratch (until_grades_base + (t * 64 + z)) 0

abbrev pub step_at : List ℕ → ℕ → ℕ → ℕ
step_at scratch s z = get_or scratch (until_step_base + (s * 64 + z)) 0

abbrev pub new_at : List ℕ → ℕ → ℕ → ℕ
new_at scratch t z = get_or scratch (until_class_base + (t * 64 + z)) 0

-- class j: its pair, and its clamp at a context
abbrev pub pair_at : List ℕ → ℕ → ℕ
pair_at scratch j = get_or scratch (until_pairs_base + j) 0

abbrev pub class_at : List ℕ → ℕ → ℕ → ℕ → ℕ
class_at classes j t z = get_or classes (j * 4096 + (t * 64 + z)) 0

-- the clamp of entry p, of the empty word the ends 0 and 3
unfoldable pub entry_byte : List ℕ → ℕ → ℕ → ℕ → ℕ
entry_byte classes p s z = cond (eqb p 0) 12 (class_at classes (p - 1) s z)

-- it over the grades
unfoldable pub stepped_byte : List ℕ → List ℕ → ℕ → ℕ → ℕ → ℕ
stepped_byte classes scratch p s z = over (entry_byte classes p s z) (grades_at scratch s z)

-- that at the context to which an element leads
unfoldable pub letter_byte : List ℕ → ℕ → ℕ → ℕ → ℕ → ℕ
letter_byte scratch np element t z = step_at scratch (product_byte scratch np element t) z

-- the pair of an entry's word with a letter behind it
unfoldable pub pair_behind : List ℕ → ℕ → ℕ → ℕ → ℕ
pair_behind scratch np p element = cond (eqb p 0) element (product_byte scratch np (pair_at scratch (p - 1)) element)

-- grades and clamps that are bytes of two grades, and room
pub record StepNeeds (np p : ℕ) (scratch classes : List ℕ) : Type 0 where
  pub few_pairs : np ≤ 64
  pub entry_small : p ≤ 64
  pub grades : (s z : ℕ) → s < np → z < np → grades_at scratch s z < 16
  pub clamps : (s z : ℕ) → s < np → z < np → entry_byte classes p s z < 16
  pub room : scratch_size ≤ length scratch
  pub classes_room : until_classes_size ≤ length classes

-- a row to copy
pub record RowNeeds (np row t : ℕ) (scratch : List ℕ) : Type 0 where
  pub few_pairs : np ≤ 64
  pub row_there : row < np
  pub there : t < np
  pub room : scratch_size ≤ length scratch

-- products that are elements
pub record LetterNeeds (np element : ℕ) (scratch : List ℕ) : Type 0 where
  pub few_pairs : np ≤ 64
  pub inside : element < np
  pub products : (t : ℕ) → t < np → product_byte scratch np element t < np
  pub room : scratch_size ≤ length scratch

-- a pair of the table
pub record PairNeeds (np p element : ℕ) (scratch : List ℕ) : Type 0 where
  pub few_pairs : np ≤ 64
  pub entry_small : p ≤ 64
  pub inside : element < np
  pub pair_inside : 1 ≤ p → pair_at scratch (p - 1) < np
  pub room : scratch_size ≤ length scratch
