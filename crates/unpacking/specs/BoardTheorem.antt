-- The theorem on the harbour board for callers in other languages: what `BoardTheorem` says of boards by value, said of the lent bytes and of the numbers that
-- the exported calls answer; and that each of these calls leaves one number and one of every lent byte. Assumes nothing.
use Rattle.std.specs.Prelude.{ℕ, ◌≤◌, ◌<◌, ◌≡◌, List, [], ◌∷◌, length, get_or}
use Rattle.promises.specs.Histories.{Action, event, mark, since_word}
use Rattle.promises.specs.Advance.{no_grade}
use Rattle.promises.specs.OneAnswers.{OneAnswer}
use Rattle.board_histories.specs.Histories.{Deed, entered, left, moved, stands, standing, GradeAnew, FilesKept}
use Rattle.board_promises.specs.Boards.{board_names_count, file_at}
use Rattle.board_state.specs.State.{state_size, board_of}
use Rattle.packing.specs.Packing.{fields, unpack}
use Rattle.exports.specs.BoardExports.{ExportedBoardEmpty, ExportedBoardEnter, ExportedBoardLeave, ExportedBoardEvent, ExportedBoardMark}

-- the bytes that are lent for a board are enough, and bytes
pub record LentState (state : List ℕ) : Type 0 where
  pub room : state_size ≤ length state
  pub bytes : (i : ℕ) → get_or state i 0 < 256

-- a call's number is that of a call which was done, and tells a grade
pub record ResultTells (r grade : ℕ) : Type 0 where
  pub told : unpack r ≡ fields grade 0 0

-- or that of a refused one
pub record ResultRefuses (r : ℕ) : Type 0 where
  pub without_grade : (grade : ℕ) → ¬ ResultTells r grade

-- the bytes of a board and its files that exported calls have led to, with the deeds: "From an empty board, handed on unaltered, and while nobody else writes
-- those bytes", "refused ones left out"; a refused call may have been lent any other files
pub data ExportedRun : List ℕ → List ℕ → List Deed → Type 0 where
  begun : {state state' files : List ℕ} {r : ℕ} → LentState state → ExportedBoardEmpty state state' r → ExportedRun state' files []
  entered_by : {state state' file files files' entry exit : List ℕ} {log : List Deed} {name r grade : ℕ} → ExportedRun state files log → LentState state
      → ExportedBoardEnter state state' name file files files' entry exit r → ResultTells r grade → ExportedRun state' files' (entered name file ∷ log)
  left_by : {state state' files entry exit : List ℕ} {log : List Deed} {name r grade : ℕ} → ExportedRun state files log → LentState state
      → ExportedBoardLeave state state' name files entry exit r → ResultTells r grade → ExportedRun state' files (left name ∷ log)
  event_by : {state state' files entry exit : List ℕ} {log : List Deed} {letter r grade : ℕ} → ExportedRun state files log → LentState state
      → ExportedBoardEvent state state' letter files entry exit r → ResultTells r grade → ExportedRun state' files (moved (event letter) ∷ log)
  mark_by : {state state' files entry exit : List ℕ} {log : List Deed} {r grade : ℕ} → ExportedRun state files log → LentState state
      → ExportedBoardMark state state' files entry exit r → ResultTells r grade → ExportedRun state' files (moved mark ∷ log)
  enter_refused : {state state' file files lent lent' entry exit : List ℕ} {log : List Deed} {name r : ℕ} → ExportedRun state files log → LentState state
      → ExportedBoardEnter state state' name file lent lent' entry exit r → ResultRefuses r → ExportedRun state' files log
  leave_refused : {state state' files lent entry exit : List ℕ} {log : List Deed} {name r : ℕ} → ExportedRun state files log → LentState state
      → ExportedBoardLeave state state' name lent entry exit r → ResultRefuses r → ExportedRun state' files log
  event_refused : {state state' files lent entry exit : List ℕ} {log : List Deed} {letter r : ℕ} → ExportedRun state files log → LentState state
      → ExportedBoardEvent state state' letter lent entry exit r → ResultRefuses r → ExportedRun state' files log
  mark_refused : {state state' files lent entry exit : List ℕ} {log : List Deed} {r : ℕ} → ExportedRun state files log → LentState state
      → ExportedBoardMark state state' lent entry exit r → ResultRefuses r → ExportedRun state' files log
  written_elsewhere : {state files files' : List ℕ} {log : List Deed} → ExportedRun state files log → FilesKept (board_of state) files files' → ExportedRun state files' log

pub record ExportedBoardTheorem : Type 0 where
  -- the lowest grade in the bytes, from byte 24 of the state
  pub in_bytes : (state files : List ℕ) (log : List Deed) → ExportedRun state files log → GradeAnew log (get_or state 24 0)
  -- and the one that each call's number tells
  pub empty_tells : (state state' : List ℕ) (r grade : ℕ) → LentState state → ExportedBoardEmpty state state' r → ResultTells r grade → GradeAnew [] grade
  pub enter_tells : (state state' file files files' entry exit : List ℕ) (log : List Deed) (name r grade : ℕ) → ExportedRun state files log → LentState state
      → ExportedBoardEnter state state' name file files files' entry exit r → ResultTells r grade → GradeAnew (entered name file ∷ log) grade
  pub leave_tells : (state state' files entry exit : List ℕ) (log : List Deed) (name r grade : ℕ) → ExportedRun state files log → LentState state
      → ExportedBoardLeave state state' name files entry exit r → ResultTells r grade → GradeAnew (left name ∷ log) grade
  pub event_tells : (state state' files entry exit : List ℕ) (log : List Deed) (letter r grade : ℕ) → ExportedRun state files log → LentState state
      → ExportedBoardEvent state state' letter files entry exit r → ResultTells r grade → GradeAnew (moved (event letter) ∷ log) grade
  pub mark_tells : (state state' files entry exit : List ℕ) (log : List Deed) (r grade : ℕ) → ExportedRun state files log → LentState state
      → ExportedBoardMark state state' files entry exit r → ResultTells r grade → GradeAnew (moved mark ∷ log) grade
  -- the file that a name entered with is the one that stands there
  pub file_stands : (state files : List ℕ) (log : List Deed) → ExportedRun state files log → (i : ℕ) → i < board_names_count → (file : List ℕ) (history : List Action)
      → standing log i ≡ stands file history → file_at files i ≡ file
  -- and the grade is none only where no rule has heard an event since its last mark
  pub heard : (state files : List ℕ) (log : List Deed) → ExportedRun state files log → (i : ℕ) → i < board_names_count → (file : List ℕ) (history : List Action)
      → standing log i ≡ stands file history → 0 < length (since_word history) → get_or state 24 0 < no_grade

-- each call leaves one number and one of every lent byte: of the state, of the files where one enters, of scratch
pub record ExportedBoardOneAnswers : Type 0 where
  pub empty : (state : List ℕ) → OneAnswer (λ (state' : List ℕ) (r : ℕ). ExportedBoardEmpty state state' r)
  pub enter : (state : List ℕ) (name : ℕ) (file files entry : List ℕ)
      → OneAnswer (λ (lent : List ℕ × (List ℕ × List ℕ)) (r : ℕ). ExportedBoardEnter state lent.0 name file files lent.1.0 entry lent.1.1 r)
  pub leave : (state : List ℕ) (name : ℕ) (files entry : List ℕ)
      → OneAnswer (λ (lent : List ℕ × List ℕ) (r : ℕ). ExportedBoardLeave state lent.0 name files entry lent.1 r)
  pub event : (state : List ℕ) (letter : ℕ) (files entry : List ℕ)
      → OneAnswer (λ (lent : List ℕ × List ℕ) (r : ℕ). ExportedBoardEvent state lent.0 letter files entry lent.1 r)
  pub mark : (state files entry : List ℕ) → OneAnswer (λ (lent : List ℕ × List ℕ) (r : ℕ). ExportedBoardMark state lent.0 files entry lent.1 r)
