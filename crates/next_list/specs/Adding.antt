-- What is asked for and what is done where a class is added to the list. Assumes nothing.
use Rattle.std.specs.Prelude.{ℕ, ◌+◌, ◌≤◌, ◌<◌, ◌≡◌, List, length, Option, Some, None}
use Rattle.scratch.specs.Bytes.{UnchangedOutside}
use Rattle.scratch.specs.Map.{steps_base, next_end}
use Rattle.formats.specs.RuleChecks.{scratch_size}
use Rattle.word_steps.specs.Records.{StepRecorded, RecordsKept}
use Rattle.next_list.specs.Pairs.{tail_at, whole_at}

-- class i has the two values
pub record HasPair (scratch : List ℕ) (i tail whole : ℕ) : Type 0 where
  pub same_tail : tail_at scratch i ≡ tail
  pub same_whole : whole_at scratch i ≡ whole

-- none of count classes has the two values
pub record NoPair (scratch : List ℕ) (count tail whole : ℕ) : Type 0 where
  pub none : (i : ℕ) → i < count → HasPair scratch i tail whole → ⊥

-- class r has the two values
pub record PairThere (scratch : List ℕ) (count tail whole r : ℕ) : Type 0 where
  pub below : r < count
  pub same : HasPair scratch r tail whole

-- or none has
abbrev pub FoundPair : List ℕ → ℕ → ℕ → ℕ → Option ℕ → Type 0
FoundPair scratch count tail whole (Some r) = PairThere scratch count tail whole r
FoundPair scratch count tail whole None = NoPair scratch count tail whole

-- numbers that fit, and room
pub record AddNeeds (scratch : List ℕ) (count p x tail whole : ℕ) : Type 0 where
  pub few : count ≤ 64
  pub entry_there : p ≤ count
  pub letter_small : x < 16
  pub tail_small : tail ≤ 64
  pub whole_small : whole < 64
  pub room : scratch_size ≤ length scratch

-- bytes before the records and behind the classes are as they were
abbrev pub ListKept : List ℕ → List ℕ → Type 0
ListKept entry exit = UnchangedOutside steps_base next_end entry exit

-- the step to a class that is there was recorded
pub record StepKnown (entry exit : List ℕ) (count p x tail whole : ℕ) : Type 0 where
  pub number : ℕ
  pub below : number < count
  pub same : HasPair entry number tail whole
  pub recorded : StepRecorded entry exit p x number count

-- the step to a new class was, behind all that were there
pub record StepNew (entry exit : List ℕ) (count p x tail whole : ℕ) : Type 0 where
  pub place : count < 64
  pub new : NoPair entry count tail whole
  pub mid : List ℕ
  pub records : RecordsKept entry mid
  pub recorded : StepRecorded mid exit p x count count
  pub tails : (j : ℕ) → j < count → tail_at exit j ≡ tail_at entry j
  pub wholes : (j : ℕ) → j < count → whole_at exit j ≡ whole_at entry j
  pub its_tail : tail_at exit count ≡ tail
  pub its_whole : whole_at exit count ≡ whole

-- either, and how many classes there are now
pub data AddedTo (entry exit : List ℕ) (count p x tail whole total : ℕ) : Type 0 where
  known : total ≡ count → StepKnown entry exit count p x tail whole → AddedTo entry exit count p x tail whole total
  added : total ≡ count + 1 → StepNew entry exit count p x tail whole → AddedTo entry exit count p x tail whole total

-- there is no place for it
pub record Full (entry : List ℕ) (count tail whole : ℕ) : Type 0 where
  pub full : count ≡ 64
  pub new : NoPair entry count tail whole

abbrev pub AddAnswer : List ℕ → List ℕ → ℕ → ℕ → ℕ → ℕ → ℕ → Option ℕ → Type 0
AddAnswer entry exit count p x tail whole (Some total) = AddedTo entry exit count p x tail whole total
AddAnswer entry exit count p x tail whole None = Full entry count tail whole

pub record Added (entry exit : List ℕ) (count p x tail whole : ℕ) (answer : Option ℕ) : Type 0 where
  pub kept : ListKept entry exit
  pub says : AddAnswer entry exit count p x tail whole answer
