-- What is put on a formula's stack: the rule of a set, of a constant, or a copy. Assumes nothing.
use Rattle.std.specs.Prelude.{ℕ, ◌≤◌, ◌≡◌, List, T}
use Rattle.temporal.specs.Formulas.{first_letter, constant}
use Rattle.formats.specs.ReadBack.{FileShape}
use Rattle.temporal_promises.specs.FirstLetter.{in_set}
use Rattle.formula_slots.specs.Slots.{ReductionFile}

-- so many letters that a rule can have, and a grade
pub record RuleNeeds (letters grade : ℕ) : Type 0 where
  pub letters_some : 1 ≤ letters
  pub letters_few : letters ≤ 16
  pub small_grade : grade ≤ 3

-- each letter of the set is one of those
pub record KnownLetters (letters set : ℕ) : Type 0 where
  pub known : (a : ℕ) → letters ≤ a → T (in_set set a) → ⊥

-- the file of the set's formula, and of the constant's, with whatever proof that the grade is one
pub record SetFile (letters set grade : ℕ) (file : List ℕ) : Type 0 where
  pub made : (g : ℕ) (small : g ≤ 3) → g ≡ grade → ReductionFile letters (first_letter (in_set set) g small) file

pub record ConstantFile (letters grade : ℕ) (file : List ℕ) : Type 0 where
  pub made : (g : ℕ) (small : g ≤ 3) → g ≡ grade → ReductionFile letters (constant g small) file

-- a file with the shape of one is copied
pub record Copied (file copy : List ℕ) : Type 0 where
  pub same : FileShape file → copy ≡ file
