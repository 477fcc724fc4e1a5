-- The two ways through an exported call of the harbour board. Assumes nothing.
use Prim.Native.Nat.{ℕ, ◌≤◌, ◌<◌}
use mathlib.Core.Path.{◌≡◌, subst}
use mathlib.Core.List.{List}
use native.Mathlib.Omega.{arith}
use lib.ListN.{length}
use Rattle.answer.specs.declared.Refusal.TheVariants.{BufferTooShort}
use Rattle.answer.specs.Refusals.{number_of}
use Rattle.board_promises.specs.declared.Board.{Board}
use Rattle.board_promises.specs.declared.Posted.{Posted}
use Rattle.board_state.specs.State.{state_size, board_of, state_after}
use Rattle.packing.specs.Packing.{pack_refusal}
use Rattle.packing_monitors.specs.Monitors.{pack_notice}
use Rattle.exports.specs.BoardExports.{ExportedBoardCall}

module _ {Promise : Board → Posted → Type 0} {Kept : Type 0} {state state-exit : List ℕ} {r : ℕ} where
  pub state_short : length state < state_size → Kept → r ≡ pack_refusal (number_of BufferTooShort) 1 0 → ExportedBoardCall Promise Kept state state-exit r
  state_short h kept packed = record { short = λ _. record { kept = kept; packed = packed }; long = λ l. absurd (omega arith) }

  -- with the board that was read from the bytes
  pub state_posted : {b : Board} → state_size ≤ length state → b ≡ board_of state → (answer : Posted) → Promise b answer
      → state-exit ≡ state_after state answer.board answer.notice → r ≡ pack_notice answer.board answer.notice → ExportedBoardCall Promise Kept state state-exit r
  state_posted h read answer promise left packed =
      record {
        short = λ l. absurd (omega arith);
        long = λ _. record { answer = answer; promise = subst (λ (b : Board). Promise b answer) read promise; state_left = left; packed = packed };
      }
