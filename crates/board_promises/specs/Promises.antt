-- What the board's calls promise. Document 02, Job 14. Assumes nothing.
use Rattle.std.specs.Prelude.{ℕ, ◌+◌, ◌*◌, ◌≡◌, List, ◌++◌, length, take, drop}
use Rattle.answer.specs.Checks.{Verdict, passed, refused, FirstFailure}
use Rattle.formats.specs.RuleChecks.{rule_size}
use Rattle.formats.specs.Calls.{scratch_left}
use Rattle.promises.specs.declared.Step.TheVariants.{Event, Mark}
use Rattle.board_promises.specs.declared.Board.{Board}
use Rattle.board_promises.specs.declared.Notice.{Notice}
use Rattle.board_promises.specs.declared.Notice.TheVariants.{Done, Refused}
use Rattle.board_promises.specs.declared.Posted.{Posted}
use Rattle.board_promises.specs.Boards.{board_names_count, files_size, with_entered, with_left, with_lowest, moved_below, LowestGrade}
use Rattle.board_promises.specs.Checks.{enter_checks, leave_checks, board_event_checks, board_mark_checks}

-- document 01's number, input and place of an answer
abbrev pub notice_verdict : Notice → Verdict
notice_verdict Done = passed
notice_verdict (Refused refusal input place) = refused refusal input place

-- the board that is handed back: the one that the call makes, with the lowest grade among its rules; "A refused call hands the board back
-- unchanged"
pub record BoardBecomes (next : Board) (files : List ℕ) (board : Board) : Type 0 where
  pub lowest : ℕ
  pub becomes : board ≡ with_lowest next lowest
  pub grade : LowestGrade next files lowest

abbrev pub BoardHandsBack : Board → Board → List ℕ → Board → Notice → Type 0
BoardHandsBack b next files board Done = BoardBecomes next files board
BoardHandsBack b next files board (Refused refusal input place) = board ≡ b

-- "the call copies its file, lent apart, to its place below"; a refused call leaves every file byte
abbrev pub files_after_enter : ℕ → List ℕ → List ℕ → Notice → List ℕ
files_after_enter name file files Done = take (rule_size * name) files ++ (file ++ drop (rule_size * name + length file) files)
files_after_enter name file files (Refused refusal input place) = files

pub record EnterPromise (b : Board) (name : ℕ) (file files files-exit entry exit : List ℕ) (answer : Posted) : Type 0 where
  pub refusal : FirstFailure (enter_checks b name file files entry) (notice_verdict answer.notice)
  pub board : BoardHandsBack b (with_entered b name) files-exit answer.board answer.notice
  pub files_left : files-exit ≡ files_after_enter name file files answer.notice
  pub scratch : exit ≡ scratch_left files_size files entry

-- "leaving .. writes no file byte": the files are lent to be read only, as for an event and a mark
pub record LeavePromise (b : Board) (name : ℕ) (files entry exit : List ℕ) (answer : Posted) : Type 0 where
  pub refusal : FirstFailure (leave_checks b name files entry) (notice_verdict answer.notice)
  pub board : BoardHandsBack b (with_left b name) files answer.board answer.notice
  pub scratch : exit ≡ scratch_left files_size files entry

pub record BoardEventPromise (b : Board) (letter : ℕ) (files entry exit : List ℕ) (answer : Posted) : Type 0 where
  pub refusal : FirstFailure (board_event_checks b letter files entry) (notice_verdict answer.notice)
  pub board : BoardHandsBack b (moved_below files (Event letter) b board_names_count) files answer.board answer.notice
  pub scratch : exit ≡ scratch_left files_size files entry

pub record BoardMarkPromise (b : Board) (files entry exit : List ℕ) (answer : Posted) : Type 0 where
  pub refusal : FirstFailure (board_mark_checks b files entry) (notice_verdict answer.notice)
  pub board : BoardHandsBack b (moved_below files Mark b board_names_count) files answer.board answer.notice
  pub scratch : exit ≡ scratch_left files_size files entry
