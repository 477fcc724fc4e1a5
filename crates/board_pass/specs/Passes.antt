-- How far a pass over the names has come: the names before a count, each asked by one library call. Assumes nothing.
use Rattle.std.specs.Prelude.{ℕ, ◌≤◌, ◌<◌, ◌≡◌, true, ◌⊎◌, List, length, replicate}
use Rattle.answer.specs.Checks.{FirstFailure}
use Rattle.theory.specs.Grades.{LassosGraded}
use Rattle.formats.specs.RuleFile.{letters_of, morphism_of, marking_of}
use Rattle.formats.specs.RuleChecks.{scratch_size}
use Rattle.promises.specs.declared.Step.{Step}
use Rattle.promises.specs.Monitor.{no_value, value_of}
use Rattle.promises.specs.Advance.{ForeignStep, no_grade}
use Rattle.board_promises.specs.declared.Board.{Board}
use Rattle.board_promises.specs.declared.Notice.TheVariants.{Done}
use Rattle.board_promises.specs.Boards.{board_names_count, file_at, present_at, moved_below}
use Rattle.board_promises.specs.Monitors.{moved_at}
use Rattle.board_promises.specs.Checks.{names_checks}
use Rattle.board_promises.specs.Promises.{notice_verdict}
use Rattle.board_answers.specs.declared.Pass.{Pass}

-- a scratch that is long enough, and zeros
pub record Cleared (scratch : List ℕ) : Type 0 where
  pub room : scratch_size ≤ length scratch
  pub zeros : scratch ≡ replicate (length scratch) 0

-- a name counts with a grade once the step is taken and the leaver gone
pub record Counts (b : Board) (files : List ℕ) (step : Step) (leaver i grade : ℕ) : Type 0 where
  pub there : present_at b i ≡ true
  pub stays : i ≡ leaver → ⊥
  pub has_since : (moved_at b files step i).since ≡ no_value → ⊥
  pub graded : LassosGraded (morphism_of (file_at files i)) (marking_of (file_at files i)) (value_of (moved_at b files step i).before) (moved_at b files step i).since grade

pub record SomeCounts (b : Board) (files : List ℕ) (step : Step) (leaver count grade : ℕ) : Type 0 where
  pub name : ℕ
  pub named : name < count
  pub counts : Counts b files step leaver name grade

-- the lowest of those grades among the first names
pub record LowestBelow (b : Board) (files : List ℕ) (step : Step) (leaver count grade : ℕ) : Type 0 where
  pub small : grade ≤ no_grade
  pub lowest : (i h : ℕ) → i < count → Counts b files step leaver i h → grade ≤ h
  pub attained : (grade ≡ no_grade) ⊎ SomeCounts b files step leaver count grade
  pub none : grade ≡ no_grade → (i h : ℕ) → i < count → Counts b files step leaver i h → ⊥

-- the step is foreign to none of those present among the first names
pub record NoneForeign (b : Board) (files : List ℕ) (step : Step) (count : ℕ) : Type 0 where
  pub known : (i : ℕ) → i < count → present_at b i ≡ true → ForeignStep (letters_of (file_at files i)) step → ⊥

-- a name is the lowest that it is foreign to
pub record FirstForeign (b : Board) (files : List ℕ) (step : Step) (count i : ℕ) : Type 0 where
  pub named : i < count
  pub there : present_at b i ≡ true
  pub foreign : ForeignStep (letters_of (file_at files i)) step
  pub earlier : NoneForeign b files step i

-- a pass that has found the step foreign to none
pub record AllKnown (b : Board) (files : List ℕ) (step : Step) (leaver count : ℕ) (p : Pass) : Type 0 where
  pub unfound : p.foreign ≡ board_names_count
  pub known : NoneForeign b files step count
  pub moved : p.next ≡ moved_below files step b count
  pub lowest : LowestBelow b files step leaver count p.lowest

-- a pass after the first names: the first check of theirs that fails, and where none does what the step makes of them
pub record PassAt (b : Board) (files : List ℕ) (step : Step) (leaver count : ℕ) (p : Pass) : Type 0 where
  pub refusal : FirstFailure (names_checks b files 0 count) (notice_verdict p.notice)
  pub result : p.notice ≡ Done → AllKnown b files step leaver count p ⊎ FirstForeign b files step count p.foreign
