-- What an event and a mark promise alike, and a pass that goes on to the file that enters. Assumes nothing.
use Rattle.std.specs.Prelude.{ℕ, ◌≡◌, List, [], ◌∷◌, ◌++◌}
use Rattle.answer.specs.Checks.{Check, FirstFailure}
use Rattle.formats.specs.RuleChecks.{rule_checks}
use Rattle.formats.specs.Calls.{scratch_left}
use Rattle.promises.specs.declared.Step.{Step}
use Rattle.promises.specs.declared.Step.TheVariants.{Event, Mark, Stay}
use Rattle.promises.specs.Weak.{weak_check}
use Rattle.board_promises.specs.declared.Board.{Board}
use Rattle.board_promises.specs.declared.Notice.TheVariants.{Done}
use Rattle.board_promises.specs.declared.Posted.{Posted}
use Rattle.board_promises.specs.Boards.{board_names_count, files_size, moved_below}
use Rattle.board_promises.specs.Checks.{buffers_checks, all_checks, letters_checks}
use Rattle.board_promises.specs.Promises.{notice_verdict, BoardHandsBack}
use Rattle.board_answers.specs.declared.Pass.{Pass}
use Rattle.board_pass.specs.Passes.{LowestBelow}

-- the checks of a step after those of the names
abbrev pub step_checks : Board → List ℕ → Step → List Check
step_checks b files (Event letter) = letters_checks b files letter 0 board_names_count
step_checks b files Mark = []
step_checks b files Stay = []

-- what a call that writes no file promises, by its checks and the board that it makes
pub record CallPromise (checks : List Check) (b next : Board) (files entry exit : List ℕ) (answer : Posted) : Type 0 where
  pub refusal : FirstFailure checks (notice_verdict answer.notice)
  pub board : BoardHandsBack b next files answer.board answer.notice
  pub scratch : exit ≡ scratch_left files_size files entry

-- an event or a mark, which "goes to all present"
abbrev pub StepPromise : Board → Step → List ℕ → List ℕ → List ℕ → Posted → Type 0
StepPromise b step files entry exit answer =
    CallPromise (buffers_checks files entry ++ (all_checks b files ++ step_checks b files step)) b (moved_below files step b board_names_count) files entry exit answer

-- a pass over all names and the file that enters
pub record Admitted (b : Board) (name : ℕ) (file files : List ℕ) (p : Pass) : Type 0 where
  pub refusal : FirstFailure (all_checks b files ++ (rule_checks name file ++ weak_check name file ∷ [])) (notice_verdict p.notice)
  pub lowest : p.notice ≡ Done → LowestBelow b files Stay board_names_count board_names_count p.lowest
