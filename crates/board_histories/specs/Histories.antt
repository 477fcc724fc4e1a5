-- Histories of a board: the calls that were not refused, what stands under each name by them, and the grade that is worked out anew from the files and
-- the words alone. Document 02, Job 14. Assumes nothing.
use Rattle.std.specs.Prelude.{ℕ, ◌≤◌, ◌<◌, ◌≡◌, true, cond, ◌⊎◌, List, [], ◌∷◌, length, eqb}
use Rattle.answer.specs.declared.Refusal.{Refusal}
use Rattle.theory.specs.Grades.{Graded}
use Rattle.formats.specs.RuleFile.{morphism_of, marking_of}
use Rattle.promises.specs.Histories.{Action, event, mark, since_word, before_word}
use Rattle.promises.specs.Advance.{no_grade}
use Rattle.board_promises.specs.declared.Board.{Board}
use Rattle.board_promises.specs.declared.Notice.TheVariants.{Done, Refused}
use Rattle.board_promises.specs.declared.Posted.{Posted}
use Rattle.board_promises.specs.Boards.{board_names_count, empty_board, file_at, present_at}
use Rattle.board_promises.specs.Promises.{EnterPromise, LeavePromise, BoardEventPromise, BoardMarkPromise}

-- a call that was not refused
pub data Deed : Type 0 where
  entered : ℕ → List ℕ → Deed
  left : ℕ → Deed
  moved : Action → Deed

-- what stands under a name: nobody, or a rule's file and "the events and marks since it entered", the latest first
pub data Standing : Type 0 where
  nobody : Standing
  stands : List ℕ → List Action → Standing

-- one event or mark more, which "goes to all present"
unfoldable pub hears : Action → Standing → Standing
hears action nobody = nobody
hears action (stands file history) = stands file (action ∷ history)

-- by the deeds, the latest first
unfoldable pub standing : List Deed → ℕ → Standing
standing [] i = nobody
standing (entered name file ∷ log) i = cond (eqb i name) (stands file []) (standing log i)
standing (left name ∷ log) i = cond (eqb i name) nobody (standing log i)
standing (moved action ∷ log) i = hears action (standing log i)

-- the name counts with a grade: a rule stands there that has heard an event since its last mark, and the lasso of its letters before and since
-- that mark has the grade by its file
pub record CountsAnew (log : List Deed) (i grade : ℕ) : Type 0 where
  pub named : i < board_names_count
  pub file : List ℕ
  pub history : List Action
  pub stands_there : standing log i ≡ stands file history
  pub some_letter : 0 < length (since_word history)
  pub graded : Graded (morphism_of file) (marking_of file) (before_word history) (since_word history) grade

pub record SomeCountsAnew (log : List Deed) (grade : ℕ) : Type 0 where
  pub name : ℕ
  pub counts : CountsAnew log name grade

-- "the grade worked out anew from each rule's file and the events and marks since it entered": the lowest of theirs, or none
pub record GradeAnew (log : List Deed) (grade : ℕ) : Type 0 where
  pub lowest : (i h : ℕ) → CountsAnew log i h → grade ≤ h
  pub attained : (grade ≡ no_grade) ⊎ SomeCountsAnew log grade
  pub none : grade ≡ no_grade → (i h : ℕ) → CountsAnew log i h → ⊥

-- "while nobody else writes those bytes": the files of those present are read as they were, and every other byte of the buffer may be any
pub record FilesKept (b : Board) (files files' : List ℕ) : Type 0 where
  pub kept : (i : ℕ) → i < board_names_count → present_at b i ≡ true → file_at files' i ≡ file_at files i

-- a board and files that calls have led to, by what the calls promise, with the deeds. "From an empty board, handed on unaltered, and while nobody else
-- writes those bytes", "refused ones left out": a refused call may have been lent any other bytes
pub data BoardRun : Board → List ℕ → List Deed → Type 0 where
  begun : {b : Board} {files : List ℕ} → b ≡ empty_board → BoardRun b files []
  entered_by : {b : Board} {name : ℕ} {file files files' entry exit : List ℕ} {log : List Deed} {answer : Posted}
      → BoardRun b files log → EnterPromise b name file files files' entry exit answer → answer.notice ≡ Done → BoardRun answer.board files' (entered name file ∷ log)
  left_by : {b : Board} {name : ℕ} {files entry exit : List ℕ} {log : List Deed} {answer : Posted}
      → BoardRun b files log → LeavePromise b name files entry exit answer → answer.notice ≡ Done → BoardRun answer.board files (left name ∷ log)
  event_by : {b : Board} {letter : ℕ} {files entry exit : List ℕ} {log : List Deed} {answer : Posted}
      → BoardRun b files log → BoardEventPromise b letter files entry exit answer → answer.notice ≡ Done → BoardRun answer.board files (moved (event letter) ∷ log)
  mark_by : {b : Board} {files entry exit : List ℕ} {log : List Deed} {answer : Posted}
      → BoardRun b files log → BoardMarkPromise b files entry exit answer → answer.notice ≡ Done → BoardRun answer.board files (moved mark ∷ log)
  enter_refused : {b : Board} {name : ℕ} {file files lent lent' entry exit : List ℕ} {log : List Deed} {answer : Posted} {refusal : Refusal} {input place : ℕ}
      → BoardRun b files log → EnterPromise b name file lent lent' entry exit answer → answer.notice ≡ Refused refusal input place → BoardRun answer.board files log
  leave_refused : {b : Board} {name : ℕ} {files lent entry exit : List ℕ} {log : List Deed} {answer : Posted} {refusal : Refusal} {input place : ℕ}
      → BoardRun b files log → LeavePromise b name lent entry exit answer → answer.notice ≡ Refused refusal input place → BoardRun answer.board files log
  event_refused : {b : Board} {letter : ℕ} {files lent entry exit : List ℕ} {log : List Deed} {answer : Posted} {refusal : Refusal} {input place : ℕ}
      → BoardRun b files log → BoardEventPromise b letter lent entry exit answer → answer.notice ≡ Refused refusal input place → BoardRun answer.board files log
  mark_refused : {b : Board} {files lent entry exit : List ℕ} {log : List Deed} {answer : Posted} {refusal : Refusal} {input place : ℕ}
      → BoardRun b files log → BoardMarkPromise b lent entry exit answer → answer.notice ≡ Refused refusal input place → BoardRun answer.board files log
  written_elsewhere : {b : Board} {files files' : List ℕ} {log : List Deed} → BoardRun b files log → FilesKept b files files' → BoardRun b files' log

-- "after every step it equals the grade worked out anew"; the file that a name entered with is the one that stands there; and the grade is none only
-- where no rule has heard an event since its last mark: each that has has a grade
pub record BoardTheorem : Type 0 where
  pub grade : (b : Board) (files : List ℕ) (log : List Deed) → BoardRun b files log → GradeAnew log b.lowest
  pub file_stands : (b : Board) (files : List ℕ) (log : List Deed) → BoardRun b files log → (i : ℕ) → i < board_names_count → (file : List ℕ) (history : List Action)
      → standing log i ≡ stands file history → file_at files i ≡ file
  pub heard : (b : Board) (files : List ℕ) (log : List Deed) → BoardRun b files log → (i : ℕ) → i < board_names_count → (file : List ℕ) (history : List Action)
      → standing log i ≡ stands file history → 0 < length (since_word history) → b.lowest < no_grade
