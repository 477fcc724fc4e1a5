-- A rule laid out in scratch, and the file that it is written as. Assumes nothing.
use Rattle.std.specs.Prelude.{ℕ, ◌+◌, ◌*◌, ◌≤◌, ◌<◌, ◌≡◌, List, length, get_or}
use Rattle.theory.specs.Rules.{Morphism, Marking}
use Rattle.formats.specs.RuleChecks.{rule_size, scratch_size}
use Rattle.formats.specs.WrittenFile.{file_of}
use Rattle.formats.specs.Front.{AtFront}
use Rattle.scratch.specs.Map.{laid_products_base, laid_marks_base}

-- the products that are laid out, of so many elements, as a table without letters
abbrev pub laid_table : List ℕ → ℕ → Morphism
laid_table scratch count = record { size = count; letters = 0; product = λ a b. get_or scratch (laid_products_base + (a * count + b)) 0; image = λ a. 0 }

-- tables of so many elements and letters within the limits of the format, the letters' elements before the marks, and room for the longest
-- file
pub record LaidNeeds (images count k : ℕ) (scratch out : List ℕ) : Type 0 where
  pub some : 1 ≤ count
  pub small : count ≤ 64
  pub letters_some : 1 ≤ k
  pub letters_small : k ≤ 16
  pub images_inside : images ≤ laid_marks_base
  pub room : scratch_size ≤ length scratch
  pub out_room : rule_size ≤ length out

-- the tables in scratch are those of a rule
pub record LaidAs (m : Morphism) (marks : Marking) (images count k : ℕ) (scratch : List ℕ) : Type 0 where
  pub size_is : m.size ≡ count
  pub letters_are : m.letters ≡ k
  pub products : (i j : ℕ) → i < count → j < count → get_or scratch (laid_products_base + (i * count + j)) 0 ≡ m.product i j
  pub elements : (a : ℕ) → a < k → get_or scratch (images + a) 0 ≡ m.image a
  pub grades : (i j : ℕ) → i < count → j < count → get_or scratch (laid_marks_base + (i * 64 + j)) 0 ≡ marks i j

-- the rule of the tables was written; "bytes past the result keep what they had"
pub record LaidWritten (images count k : ℕ) (scratch before after : List ℕ) (end : ℕ) : Type 0 where
  pub written : (m : Morphism) (marks : Marking) → LaidAs m marks images count k scratch → AtFront (file_of m marks) before after end
