-- What is asked for and what is done where a class is added to the list. Assumes nothing.
use Rattle.std.specs.Prelude.{ℕ, ◌+◌, ◌*◌, ◌≤◌, ◌<◌, ◌≡◌, List, length, get_or, Option, Some, None}
use Rattle.scratch.specs.Map.{laid_products_base, laid_end, until_grades_base}
use Rattle.scratch.specs.Rows.{RowsFilled}
use Rattle.formats.specs.RuleChecks.{scratch_size}
use Rattle.temporal_promises.specs.Until.{until_classes_size}
use Rattle.word_steps.specs.Records.{StepRecorded, RecordsKept}
use Rattle.until_step.specs.Bytes.{new_at, pair_at}
use Rattle.until_search.specs.Searching.{ClassSame, NoClass}

-- numbers that fit, and room
pub record AddNeeds (np count p x pair : ℕ) (scratch classes : List ℕ) : Type 0 where
  pub few_pairs : np ≤ 64
  pub few : count ≤ 64
  pub entry_there : p ≤ count
  pub letter_small : x < 16
  pub pair_small : pair < 64
  pub room : scratch_size ≤ length scratch
  pub classes_room : until_classes_size ≤ length classes

-- the tables behind the records, and the grades with what is worked out from them, are as they were
pub record TablesKept (entry exit : List ℕ) : Type 0 where
  pub same_length : length exit ≡ length entry
  pub between : (i : ℕ) → laid_products_base ≤ i → i < laid_end → get_or exit i 0 ≡ get_or entry i 0
  pub behind : (i : ℕ) → until_grades_base ≤ i → get_or exit i 0 ≡ get_or entry i 0

-- the step to a class that is there was recorded
pub record StepKnown (np : ℕ) (entry exit classes classes' : List ℕ) (count p x pair : ℕ) : Type 0 where
  pub number : ℕ
  pub below : number < count
  pub same : ClassSame np entry classes number pair
  pub recorded : StepRecorded entry exit p x number count
  pub classes_kept : classes' ≡ classes

-- the step to a new class was, stored behind all that were there
pub record StepNew (np : ℕ) (entry exit classes classes' : List ℕ) (count p x pair : ℕ) : Type 0 where
  pub place : count < 64
  pub new : NoClass np entry classes count pair
  pub mid : List ℕ
  pub records : RecordsKept entry mid
  pub recorded : StepRecorded mid exit p x count count
  pub pairs : (j : ℕ) → j < count → pair_at exit j ≡ pair_at entry j
  pub its_pair : pair_at exit count ≡ pair
  pub stored : RowsFilled (λ t z byte. byte ≡ new_at entry t z) (count * 4096) 64 np np classes classes'

pub data AddedTo (np : ℕ) (entry exit classes classes' : List ℕ) (count p x pair total : ℕ) : Type 0 where
  known : total ≡ count → StepKnown np entry exit classes classes' count p x pair → AddedTo np entry exit classes classes' count p x pair total
  added : total ≡ count + 1 → StepNew np entry exit classes classes' count p x pair → AddedTo np entry exit classes classes' count p x pair total

-- there is no place for it
pub record Full (np : ℕ) (entry classes : List ℕ) (count pair : ℕ) : Type 0 where
  pub full : count ≡ 64
  pub new : NoClass np entry classes count pair

abbrev pub AddAnswer : ℕ → List ℕ → List ℕ → List ℕ → List ℕ → ℕ → ℕ → ℕ → ℕ → Option ℕ → Type 0
AddAnswer np entry exit classes classes' count p x pair (Some total) = AddedTo np entry exit classes classes' count p x pair total
AddAnswer np entry exit classes classes' count p x pair None = Full np entry classes count pair

pub record Added (np : ℕ) (entry exit classes classes' : List ℕ) (count p x pair : ℕ) (answer : Option ℕ) : Type 0 where
  pub kept : TablesKept entry exit
  pub classes_length : length classes' ≡ length classes
  pub says : AddAnswer np entry exit classes classes' count p x pair answer
