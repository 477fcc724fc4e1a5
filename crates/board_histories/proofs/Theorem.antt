-- The board's theorem: after every call, however many rules entered and left, the board's grade is the one worked out anew from the files that
-- entered and the events and marks since. Assumes nothing.
use Prim.Native.Nat.{ℕ, ◌<◌}
use mathlib.Core.Path.{◌≡◌, refl, sym, ap, ◌∙◌, subst}
use mathlib.Core.List.{List, [], ◌∷◌}
use Rattle.answer.specs.declared.Refusal.{Refusal}
use Rattle.board_promises.specs.declared.Board.{Board}
use Rattle.board_promises.specs.declared.Notice.{Notice}
use Rattle.board_promises.specs.declared.Notice.TheVariants.{Done, Refused}
use Rattle.board_promises.specs.Boards.{board_names_count, with_entered}
use Rattle.board_promises.specs.Promises.{BoardHandsBack, files_after_enter}
use Rattle.board_histories.specs.Histories.{Deed, entered, FilesKept, BoardRun, begun, entered_by, left_by, event_by, mark_by, enter_refused, leave_refused, event_refused, mark_refused, written_elsewhere, BoardTheorem}
use Rattle.board_histories.proofs.Passed.{done_passed, done_board}
use Rattle.board_histories.proofs.Standing.{Holds, NamesAgree, BoardAgrees, SameName, same_holds, same_lowest, board_agrees}
use Rattle.board_histories.proofs.Steps.{empty_agrees, enter_agrees, leave_agrees, event_agrees, mark_agrees}
use Rattle.board_histories.proofs.Anew.{present_of, grade_anew, grade_heard}

-- a refused call hands the same board back
refused_agrees : {b : Board} {files : List ℕ} {log : List Deed} (next : Board) (lent : List ℕ) {board : Board} {notice : Notice} {refusal : Refusal} {input place : ℕ}
    → BoardAgrees b files log → notice ≡ Refused refusal input place → BoardHandsBack b next lent board notice → BoardAgrees board files log
refused_agrees {b} {files} {log} next lent {board} a refused h =
    subst (λ (c : Board). BoardAgrees c files log) (sym (subst (BoardHandsBack b next lent board) refused h)) a

-- other bytes were written
kept_agrees : {b : Board} {files files' : List ℕ} {log : List Deed} → FilesKept b files files' → BoardAgrees b files log → BoardAgrees b files' log
kept_agrees {b} {files} {files'} k a = record {
  names = record { whole = a.names.whole; holds = λ i h. same_holds (same i h) (a.names.holds i h) };
  lowest = same_lowest same a.lowest;
}
  where
    same : (i : ℕ) → i < board_names_count → SameName b files b files' i
    same i h = record { flags = refl; monitors = refl; same_file = k.kept i h }

-- a board that calls have led to agrees with their deeds
pub run_agrees : {b : Board} {files : List ℕ} {log : List Deed} → BoardRun b files log → BoardAgrees b files log
run_agrees {files = files} (begun e) = subst (λ (c : Board). BoardAgrees c files []) (sym e) (empty_agrees files)
run_agrees (entered_by {b} {name} {file} {files} {files'} {entry} {log = log} r p done) =
    let left : files' ≡ files_after_enter name file files Done = p.files_left ∙ ap (files_after_enter name file files) done in
    board_agrees
    (subst (λ (l : List ℕ). NamesAgree (with_entered b name) l (entered name file ∷ log)) (sym left)
    (enter_agrees (run_agrees r).names name file entry (done_passed done p.refusal)))
    (done_board _ _ _ _ done p.board)
run_agrees (left_by {name = name} r p done) = board_agrees (leave_agrees (run_agrees r).names name) (done_board _ _ _ _ done p.board)
run_agrees (event_by {letter = letter} {entry = entry} r p done) =
    board_agrees (event_agrees (run_agrees r).names letter entry (done_passed done p.refusal)) (done_board _ _ _ _ done p.board)
run_agrees (mark_by r p done) = board_agrees (mark_agrees (run_agrees r).names) (done_board _ _ _ _ done p.board)
run_agrees (enter_refused r p refused) = refused_agrees _ _ (run_agrees r) refused p.board
run_agrees (leave_refused r p refused) = refused_agrees _ _ (run_agrees r) refused p.board
run_agrees (event_refused r p refused) = refused_agrees _ _ (run_agrees r) refused p.board
run_agrees (mark_refused r p refused) = refused_agrees _ _ (run_agrees r) refused p.board
run_agrees (written_elsewhere r k) = kept_agrees k (run_agrees r)

pub board_theorem : BoardTheorem
board_theorem = record {
  grade = λ b files log r. grade_anew (run_agrees r);
  file_stands = λ b files log r i h file history e. (present_of (subst (Holds b files i) e ((run_agrees r).names.holds i h))).its_file;
  heard = λ b files log r i h file history e some. grade_heard (run_agrees r) h e some;
}
