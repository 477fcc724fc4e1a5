-- Runs of the exported calls on a board are runs of the board's own calls: so the grade in the bytes and in each number is the one worked out anew. Assumes
-- nothing.
use Prim.Native.Nat.{ℕ}
use mathlib.Core.Path.{◌≡◌, refl, sym, ap, ◌∙◌, subst}
use mathlib.Core.List.{List, []}
use native.Mathlib.Omega.{arith}
use lib.ListN.{get_or}
use Rattle.answer.specs.declared.Refusal.{Refusal}
use Rattle.board_promises.specs.declared.Board.{Board}
use Rattle.board_promises.specs.Boards.{empty_board}
use Rattle.board_promises.specs.declared.Notice.{Notice}
use Rattle.board_promises.specs.declared.Notice.TheVariants.{Done, Refused}
use Rattle.board_histories.specs.Histories.{Deed, GradeAnew, BoardRun, begun as run-begun, entered_by as run-entered, left_by as run-left, event_by as run-event, mark_by as run-mark, enter_refused as run-enter-refused, leave_refused as run-leave-refused, event_refused as run-event-refused, mark_refused as run-mark-refused, written_elsewhere as run-written-elsewhere}
use Rattle.board_histories.proofs.Theorem.{board_theorem}
use Rattle.board_state.specs.State.{board_of}
use Rattle.packing.specs.Packing.{fields, refusal_at, unpack}
use Rattle.packing_monitors.specs.Monitors.{notice_contents}
use Rattle.unpacking.specs.BoardTheorem.{ResultTells, ResultRefuses, ExportedRun, begun, entered_by, left_by, event_by, mark_by, enter_refused, leave_refused, event_refused, mark_refused, written_elsewhere, ExportedBoardTheorem}
use Rattle.unpacking.proofs.NothingLost.{posted_board, board_empty_read, board_enter_read, board_leave_read, board_event_read, board_mark_read}
use Rattle.unpacking.proofs.BoardBytes.{board_empty_kept, board_enter_kept, board_leave_kept, board_event_kept, board_mark_kept}

not_fields : {a b c number input place : ℕ} → fields a b c ≡ refusal_at number input place → ⊥
not_fields e = let z : ◌≡◌ {A = ℕ} 0 1 = cc in omega arith

-- a number that tells a grade is that of a call which was done, and the grade is the board's
done_tells : (board : Board) (notice : Notice) {r grade : ℕ} → unpack r ≡ notice_contents board notice → ResultTells r grade → (notice ≡ Done) × (board.lowest ≡ grade)
done_tells board Done {r} {grade} e t = (refl, let same : fields board.lowest 0 0 ≡ fields grade 0 0 = sym e ∙ t.told in cc)
done_tells board (Refused refusal input place) e t = absurd (not_fields (sym t.told ∙ e))

-- an empty board has the grade none
four : {grade : ℕ} → fields 4 0 0 ≡ fields grade 0 0 → empty_board.lowest ≡ grade
four {grade} e = let same : 4 ≡ grade = cc in same

-- one that tells none is that of a refused call
pub record WasRefused (notice : Notice) : Type 0 where
  pub refusal : Refusal
  pub input : ℕ
  pub place : ℕ
  pub is_refused : notice ≡ Refused refusal input place

refuses_refused : (board : Board) (notice : Notice) {r : ℕ} → unpack r ≡ notice_contents board notice → ResultRefuses r → WasRefused notice
refuses_refused board Done e none = absurd (none.without_grade board.lowest (record { told = e }))
refuses_refused board (Refused refusal input place) e none = record { refusal = refusal; input = input; place = place; is_refused = refl }

-- a run of boards, whose board is the one in the bytes
in_state : {b : Board} (state : List ℕ) {files : List ℕ} {log : List Deed} → board_of state ≡ b → BoardRun b files log → BoardRun (board_of state) files log
in_state state {files} {log} e r = subst (λ (b : Board). BoardRun b files log) (sym e) r

pub exported_run : {state files : List ℕ} {log : List Deed} → ExportedRun state files log → BoardRun (board_of state) files log
exported_run (begun lent x) = run-begun (board_empty_kept lent.room x)
exported_run (entered_by {state' = state'} run lent x t) =
    let h = lent.room in
    let told = done_tells (posted_board x h).board (posted_board x h).notice (board_enter_read h x) t in
    in_state state' (board_enter_kept h lent.bytes x) (run-entered (exported_run run) (x.long h).promise told.0)
exported_run (left_by {state' = state'} run lent x t) =
    let h = lent.room in
    let told = done_tells (posted_board x h).board (posted_board x h).notice (board_leave_read h x) t in
    in_state state' (board_leave_kept h lent.bytes x) (run-left (exported_run run) (x.long h).promise told.0)
exported_run (event_by {state' = state'} run lent x t) =
    let h = lent.room in
    let told = done_tells (posted_board x h).board (posted_board x h).notice (board_event_read h x) t in
    in_state state' (board_event_kept h lent.bytes x) (run-event (exported_run run) (x.long h).promise told.0)
exported_run (mark_by {state' = state'} run lent x t) =
    let h = lent.room in
    let told = done_tells (posted_board x h).board (posted_board x h).notice (board_mark_read h x) t in
    in_state state' (board_mark_kept h lent.bytes x) (run-mark (exported_run run) (x.long h).promise told.0)
exported_run (enter_refused {state' = state'} run lent x none) =
    let h = lent.room in
    let was = refuses_refused (posted_board x h).board (posted_board x h).notice (board_enter_read h x) none in
    in_state state' (board_enter_kept h lent.bytes x) (run-enter-refused (exported_run run) (x.long h).promise was.is_refused)
exported_run (leave_refused {state' = state'} run lent x none) =
    let h = lent.room in
    let was = refuses_refused (posted_board x h).board (posted_board x h).notice (board_leave_read h x) none in
    in_state state' (board_leave_kept h lent.bytes x) (run-leave-refused (exported_run run) (x.long h).promise was.is_refused)
exported_run (event_refused {state' = state'} run lent x none) =
    let h = lent.room in
    let was = refuses_refused (posted_board x h).board (posted_board x h).notice (board_event_read h x) none in
    in_state state' (board_event_kept h lent.bytes x) (run-event-refused (exported_run run) (x.long h).promise was.is_refused)
exported_run (mark_refused {state' = state'} run lent x none) =
    let h = lent.room in
    let was = refuses_refused (posted_board x h).board (posted_board x h).notice (board_mark_read h x) none in
    in_state state' (board_mark_kept h lent.bytes x) (run-mark-refused (exported_run run) (x.long h).promise was.is_refused)
exported_run (written_elsewhere run kept) = run-written-elsewhere (exported_run run) kept

in_bytes : {state files : List ℕ} {log : List Deed} → ExportedRun state files log → GradeAnew log (get_or state 24 0)
in_bytes {state} {files} {log} run = board_theorem.grade (board_of state) files log (exported_run run)

-- the grade that a number tells is the one in the bytes that are left
in_number : {b : Board} (state' : List ℕ) {files : List ℕ} {log : List Deed} {grade : ℕ} → board_of state' ≡ b → b.lowest ≡ grade → ExportedRun state' files log → GradeAnew log grade
in_number state' {log = log} kept told run = subst (GradeAnew log) (ap (λ (c : Board). c.lowest) kept ∙ told) (in_bytes run)

pub exported_board_theorem : ExportedBoardTheorem
exported_board_theorem = record {
  in_bytes = λ state files log run. in_bytes run;
  empty_tells = λ state state' r grade lent x t.
      in_number state' {files = []} (board_empty_kept lent.room x) (four (sym (board_empty_read lent.room x) ∙ t.told)) (begun lent x);
  enter_tells = λ state state' file files files' entry exit log name r grade run lent x t.
      let h = lent.room in
      in_number state' (board_enter_kept h lent.bytes x) (done_tells (posted_board x h).board (posted_board x h).notice (board_enter_read h x) t).1 (entered_by run lent x t);
  leave_tells = λ state state' files entry exit log name r grade run lent x t.
      let h = lent.room in
      in_number state' (board_leave_kept h lent.bytes x) (done_tells (posted_board x h).board (posted_board x h).notice (board_leave_read h x) t).1 (left_by run lent x t);
  event_tells = λ state state' files entry exit log letter r grade run lent x t.
      let h = lent.room in
      in_number state' (board_event_kept h lent.bytes x) (done_tells (posted_board x h).board (posted_board x h).notice (board_event_read h x) t).1 (event_by run lent x t);
  mark_tells = λ state state' files entry exit log r grade run lent x t.
      let h = lent.room in
      in_number state' (board_mark_kept h lent.bytes x) (done_tells (posted_board x h).board (posted_board x h).notice (board_mark_read h x) t).1 (mark_by run lent x t);
  file_stands = λ state files log run i h file history e. board_theorem.file_stands (board_of state) files log (exported_run run) i h file history e;
  heard = λ state files log run i h file history e some. board_theorem.heard (board_of state) files log (exported_run run) i h file history e some;
}
