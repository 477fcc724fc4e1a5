-- What each exported call of the harbour board promises. The board stands in lent bytes: where they are too few the call is refused and nothing
-- changes, else the call's own promise holds of the board in them, and the board that it hands back is written there. Assumes nothing.
use Rattle.std.specs.Prelude.{ℕ, ◌≤◌, ◌<◌, ◌≡◌, List, length}
use Rattle.answer.specs.declared.Refusal.TheVariants.{BufferTooShort}
use Rattle.answer.specs.Refusals.{number_of}
use Rattle.board_promises.specs.declared.Board.{Board}
use Rattle.board_promises.specs.declared.Notice.TheVariants.{Done}
use Rattle.board_promises.specs.declared.Posted.{Posted}
use Rattle.board_promises.specs.Boards.{empty_board}
use Rattle.board_promises.specs.Promises.{EnterPromise, LeavePromise, BoardEventPromise, BoardMarkPromise}
use Rattle.board_state.specs.State.{state_size, board_of, state_after}
use Rattle.packing.specs.Packing.{pack_refusal}
use Rattle.packing_monitors.specs.Monitors.{pack_notice}

-- too few bytes for a board: what is kept is every lent byte
pub record StateTooShort (Kept : Type 0) (r : ℕ) : Type 0 where
  pub kept : Kept
  pub packed : r ≡ pack_refusal (number_of BufferTooShort) 1 0

-- enough bytes
pub record StatePosted (Promise : Board → Posted → Type 0) (state state-exit : List ℕ) (r : ℕ) : Type 0 where
  pub answer : Posted
  pub promise : Promise (board_of state) answer
  pub state_left : state-exit ≡ state_after state answer.board answer.notice
  pub packed : r ≡ pack_notice answer.board answer.notice

pub record ExportedBoardCall (Promise : Board → Posted → Type 0) (Kept : Type 0) (state state-exit : List ℕ) (r : ℕ) : Type 0 where
  pub short : length state < state_size → StateTooShort Kept r
  pub long : state_size ≤ length state → StatePosted Promise state state-exit r

abbrev pub ExportedBoardEmpty : List ℕ → List ℕ → ℕ → Type 0
ExportedBoardEmpty state state-exit r =
    ExportedBoardCall (λ b answer. answer ≡ record { board = empty_board; notice = Done }) (state-exit ≡ state) state state-exit r

abbrev pub ExportedBoardEnter : List ℕ → List ℕ → ℕ → List ℕ → List ℕ → List ℕ → List ℕ → List ℕ → ℕ → Type 0
ExportedBoardEnter state state-exit name file files files-exit entry exit r =
    ExportedBoardCall (λ b. EnterPromise b name file files files-exit entry exit)
    ((state-exit ≡ state) × (files-exit ≡ files) × (exit ≡ entry)) state state-exit r

abbrev pub ExportedBoardLeave : List ℕ → List ℕ → ℕ → List ℕ → List ℕ → List ℕ → ℕ → Type 0
ExportedBoardLeave state state-exit name files entry exit r =
    ExportedBoardCall (λ b. LeavePromise b name files entry exit) ((state-exit ≡ state) × (exit ≡ entry)) state state-exit r

abbrev pub ExportedBoardEvent : List ℕ → List ℕ → ℕ → List ℕ → List ℕ → List ℕ → ℕ → Type 0
ExportedBoardEvent state state-exit letter files entry exit r =
    ExportedBoardCall (λ b. BoardEventPromise b letter files entry exit) ((state-exit ≡ state) × (exit ≡ entry)) state state-exit r

abbrev pub ExportedBoardMark : List ℕ → List ℕ → List ℕ → List ℕ → List ℕ → ℕ → Type 0
ExportedBoardMark state state-exit files entry exit r =
    ExportedBoardCall (λ b. BoardMarkPromise b files entry exit) ((state-exit ≡ state) × (exit ≡ entry)) state state-exit r
