-- The bytes of a board hold what a call makes of it: whoever keeps them and hands them on has handed on the board. Assumes nothing.
use Prim.Native.Nat.{ℕ, zero, suc, ◌≤◌, ◌<◌}
use mathlib.Core.Path.{◌≡◌, refl, sym, ap, ◌∙◌, subst}
use mathlib.Core.Bool.{Bool, true, false}
use mathlib.Core.List.{List, [], ◌∷◌}
use native.Mathlib.Omega.{arith}
use lib.ListN.{length, get_or, set, length-set}
use Rattle.answer.specs.Checks.{passed, FirstFailure}
use Rattle.answer.proofs.Order.{passed_first, passes_tail}
use Rattle.promises.specs.declared.Monitor.{Monitor}
use Rattle.promises.specs.declared.Step.{Step}
use Rattle.promises.specs.declared.Step.TheVariants.{Event, Mark}
use Rattle.promises.specs.Monitor.{fresh_monitor}
use Rattle.board_promises.specs.declared.Board.{Board}
use Rattle.board_promises.specs.declared.Notice.{Notice}
use Rattle.board_promises.specs.declared.Notice.TheVariants.{Done, Refused}
use Rattle.board_promises.specs.declared.Posted.{Posted}
use Rattle.board_promises.specs.Boards.{board_names_count, empty_board, present_at, with_monitor, with_present, with_lowest, with_entered, with_left, moved_below}
use Rattle.board_promises.specs.Monitors.{moved_at}
use Rattle.board_promises.specs.Checks.{all_checks, board_event_checks, board_mark_checks}
use Rattle.board_promises.specs.Promises.{BoardHandsBack, EnterPromise, LeavePromise, BoardEventPromise, BoardMarkPromise}
use Rattle.board_promises.proofs.Moved.{moved_none, moved_by}
use Rattle.board_histories.proofs.Passed.{done_passed, event_letter}
use Rattle.board_state.specs.State.{state_size, board_of, state_after, ByteBoard}
use Rattle.board_state.proofs.ReadBack.{front_read, empty_read, read_bytes}
use Rattle.exports.specs.BoardExports.{ExportedBoardCall, ExportedBoardEmpty, ExportedBoardEnter, ExportedBoardLeave, ExportedBoardEvent, ExportedBoardMark}
use Rattle.unpacking.proofs.Monitors.{SmallValues, mark_small, event_small}
use Rattle.unpacking.proofs.BoardPresent.{present_rule, present_unstray}
use Rattle.unpacking.proofs.NothingLost.{posted_board}
use Rattle.unpacking.proofs.BoardGrades.{enter_lowest, leave_lowest, event_lowest, mark_lowest}

set_small : (l : List ℕ) (i j v : ℕ) → v < 256 → get_or l j 0 < 256 → get_or (set l i v) j 0 < 256
set_small [] i j v h p = p
set_small (x ∷ l) zero zero v h p = h
set_small (x ∷ l) zero (suc j) v h p = p
set_small (x ∷ l) (suc i) zero v h p = p
set_small (x ∷ l) (suc i) (suc j) v h p = set_small l i j v h p

-- what is changed on a board keeps it fit for bytes
module _ {b : Board} (p : ByteBoard b) where
  monitor_bytes : (i : ℕ) {f : Monitor} → SmallValues f → ByteBoard (with_monitor b i f)
  monitor_bytes i {f} v =
      record {
        whole = record {
          flags = p.whole.flags;
          befores = length-set b.before i f.before ∙ p.whole.befores;
          sinces = length-set b.since i f.since ∙ p.whole.sinces;
        };
        before_small = λ j h. set_small b.before i j f.before (omega (arith, v.before_small)) (p.before_small j h);
        since_small = λ j h. set_small b.since i j f.since (omega (arith, v.since_small)) (p.since_small j h);
        lowest_small = p.lowest_small;
      }

  present_bytes : (i : ℕ) (there : Bool) → ByteBoard (with_present b i there)
  present_bytes i there =
      record {
        whole = record { flags = length-set b.present i there ∙ p.whole.flags; befores = p.whole.befores; sinces = p.whole.sinces };
        before_small = p.before_small;
        since_small = p.since_small;
        lowest_small = p.lowest_small;
      }

  lowest_bytes : {grade : ℕ} → grade ≤ 4 → ByteBoard (with_lowest b grade)
  lowest_bytes l = record { whole = record { flags = p.whole.flags; befores = p.whole.befores; sinces = p.whole.sinces }; before_small = p.before_small; since_small = p.since_small; lowest_small = omega arith }

entered_bytes : {b : Board} → ByteBoard b → (name : ℕ) → ByteBoard (with_entered b name)
entered_bytes p name = present_bytes (monitor_bytes p name {f = fresh_monitor} (record { before_small = omega arith; since_small = omega arith })) name true

-- with every monitor moved whose rule is present
module _ (files : List ℕ) (step : Step) {b : Board} (p : ByteBoard b)
    (small : (i : ℕ) → i < board_names_count → present_at b i ≡ true → SmallValues (moved_at b files step i)) where
  moved_bytes : (count : ℕ) → count ≤ board_names_count → ByteBoard (moved_below files step b count)
  moved_bytes zero h = subst ByteBoard (moved_none files step b) p
  moved_bytes (suc i) h = go (present_at b i) refl (moved_bytes i (omega arith))
    where
      go : (there : Bool) → present_at b i ≡ there → ByteBoard (moved_below files step b i) → ByteBoard (moved_below files step b (suc i))
      go true e q = subst ByteBoard (sym (moved_by files step b i e)) (monitor_bytes q i (small i (omega arith) e))
      go false e q = subst ByteBoard (sym (moved_by files step b i e)) q

-- what a call hands back
posted_bytes : (b next board : Board) (files : List ℕ) (notice : Notice) → ByteBoard b → (notice ≡ Done → ByteBoard next) → (notice ≡ Done → board.lowest ≤ 4)
    → BoardHandsBack b next files board notice → ByteBoard board
posted_bytes b next board files Done p q l h =
    subst ByteBoard (sym h.becomes) (lowest_bytes (q refl) (omega (arith, l refl, ap (λ (c : Board). c.lowest) h.becomes)))
posted_bytes b next board files (Refused refusal input place) p q l h = subst ByteBoard (sym h) p

module _ {b : Board} (p : ByteBoard b) {files entry exit : List ℕ} {answer : Posted} where
  event_bytes : {letter : ℕ} → BoardEventPromise b letter files entry exit answer → ByteBoard answer.board
  event_bytes {letter} x =
      posted_bytes b (moved_below files (Event letter) b board_names_count) answer.board files answer.notice p
      (λ done. moved_bytes files (Event letter) p (small (done_passed done x.refusal)) board_names_count (omega arith)) (event_lowest x) x.board
    where
      small : FirstFailure (board_event_checks b letter files entry) passed → (i : ℕ) → i < board_names_count → present_at b i ≡ true → SmallValues (moved_at b files (Event letter) i)
      small f i h there =
          let names = passed_first (all_checks b files) _ (passes_tail (passes_tail f)) in
          event_small (present_rule b files names i h there) (present_unstray b files names i h there) (event_letter b files letter f i h there)

  mark_bytes_lem : BoardMarkPromise b files entry exit answer → ByteBoard answer.board
  mark_bytes_lem x =
      posted_bytes b (moved_below files Mark b board_names_count) answer.board files answer.notice p
      (λ done. moved_bytes files Mark p (small (done_passed done x.refusal)) board_names_count (omega arith)) (mark_lowest x) x.board
    where
      small : FirstFailure (board_mark_checks b files entry) passed → (i : ℕ) → i < board_names_count → present_at b i ≡ true → SmallValues (moved_at b files Mark i)
      small f i h there =
          let names = passes_tail (passes_tail f) in
          mark_small (present_rule b files names i h there) (present_unstray b files names i h there)

  leave_bytes : {name : ℕ} → LeavePromise b name files entry exit answer → ByteBoard answer.board
  leave_bytes {name} x = posted_bytes b (with_left b name) answer.board files answer.notice p (λ _. present_bytes p name false) (leave_lowest x) x.board

  enter_bytes : {name : ℕ} {file made : List ℕ} → EnterPromise b name file files made entry exit answer → ByteBoard answer.board
  enter_bytes {name} {made = made} x =
      posted_bytes b (with_entered b name) answer.board made answer.notice p (λ _. entered_bytes p name) (enter_lowest x) x.board

-- the bytes that an exported call leaves hold the board that the call hands back; where it was refused, they and the board are as they were
left_read : (state : List ℕ) (next : Board) (files : List ℕ) (board : Board) (notice : Notice) → ByteBoard board → BoardHandsBack (board_of state) next files board notice
    → board_of (state_after state board notice) ≡ board
left_read state next files board Done p h = front_read state board p
left_read state next files board (Refused refusal input place) p h = sym h

module _ {state state-exit : List ℕ} {r : ℕ} (h : state_size ≤ length state) (bytes : (i : ℕ) → get_or state i 0 < 256) where
  call_kept : {Promise : Board → Posted → Type 0} {Kept : Type 0} (x : ExportedBoardCall Promise Kept state state-exit r) (next : Board) (files : List ℕ)
      → ByteBoard (posted_board x h).board → BoardHandsBack (board_of state) next files (posted_board x h).board (posted_board x h).notice → board_of state-exit ≡ (posted_board x h).board
  call_kept x next files p q =
      ap board_of (x.long h).state_left ∙ left_read state next files (posted_board x h).board (posted_board x h).notice p q

  module _ {files entry exit : List ℕ} where
    pub board_enter_kept : {name : ℕ} {file files-exit : List ℕ} (x : ExportedBoardEnter state state-exit name file files files-exit entry exit r)
        → board_of state-exit ≡ (posted_board x h).board
    board_enter_kept {name} {files-exit = files-exit} x =
        call_kept x (with_entered (board_of state) name) files-exit (enter_bytes (read_bytes state bytes) (x.long h).promise) (x.long h).promise.board

    pub board_leave_kept : {name : ℕ} (x : ExportedBoardLeave state state-exit name files entry exit r) → board_of state-exit ≡ (posted_board x h).board
    board_leave_kept {name} x =
        call_kept x (with_left (board_of state) name) files (leave_bytes (read_bytes state bytes) (x.long h).promise) (x.long h).promise.board

    pub board_event_kept : {letter : ℕ} (x : ExportedBoardEvent state state-exit letter files entry exit r) → board_of state-exit ≡ (posted_board x h).board
    board_event_kept {letter} x =
        call_kept x (moved_below files (Event letter) (board_of state) board_names_count) files (event_bytes (read_bytes state bytes) (x.long h).promise) (x.long h).promise.board

    pub board_mark_kept : (x : ExportedBoardMark state state-exit files entry exit r) → board_of state-exit ≡ (posted_board x h).board
    board_mark_kept x =
        call_kept x (moved_below files Mark (board_of state) board_names_count) files (mark_bytes_lem (read_bytes state bytes) (x.long h).promise) (x.long h).promise.board

-- and those that the first call leaves hold an empty board
pub board_empty_kept : {state state-exit : List ℕ} {r : ℕ} → state_size ≤ length state → ExportedBoardEmpty state state-exit r → board_of state-exit ≡ empty_board
board_empty_kept {state} h x =
    ap board_of ((x.long h).state_left ∙ ap (λ (answer : Posted). state_after state answer.board answer.notice) (x.long h).promise) ∙ empty_read state
