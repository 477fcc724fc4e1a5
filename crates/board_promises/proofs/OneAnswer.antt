-- Two answers of one of the board's calls to the same board, files and scratch are one, and leave the files and scratch alike. Assumes nothing.
use Prim.Native.Nat.{ℕ, zero, suc}
use mathlib.Core.Path.{◌≡◌, refl, sym, ap, ap₂, ◌∙◌, subst}
use mathlib.Core.Bool.{Bool, true, false, cond}
use mathlib.Core.Logic.{⊎_elim}
use mathlib.Core.List.{List, [], ◌∷◌, ◌++◌}
use native.Mathlib.Omega.{arith}
use Rattle.answer.proofs.Order.{AllSingle, single_nil, single_at, single_cons, single_append, one_verdict}
use Rattle.answer.proofs.Verdicts.{same_refusal, not_passed}
use Rattle.formats.proofs.Buffers.{buffer_single}
use Rattle.formats.proofs.OneVerdict.{rule_single}
use Rattle.formats.specs.RuleFile.{letters_of}
use Rattle.formats.specs.RuleChecks.{rule_checks}
use Rattle.promises.specs.declared.Step.TheVariants.{Event, Mark}
use Rattle.promises.specs.Monitor.{MonitorValueOutOfRangeAt}
use Rattle.promises.specs.Weak.{WeakAt}
use Rattle.promises.specs.Moves.{LoneUnknownLetterAt, lone_letter_check}
use Rattle.promises.specs.Advance.{no_grade, standing_checks}
use Rattle.board_promises.specs.declared.Board.{Board}
use Rattle.board_promises.specs.declared.Notice.{Notice}
use Rattle.board_promises.specs.declared.Notice.TheVariants.{Done, Refused}
use Rattle.board_promises.specs.declared.Posted.{Posted}
use Rattle.board_promises.specs.Boards.{board_names_count, file_at, present_at, monitor_at, with_lowest, with_entered, with_left, moved_below, LowestGrade}
use Rattle.board_promises.specs.Checks.{NotFreeAt, NotPresentAt, name_checks, names_checks, letter_checks, letters_checks, enter_checks, leave_checks, board_event_checks, board_mark_checks}
use Rattle.board_promises.specs.OneAnswers.{BoardOneAnswers}
use Rattle.board_promises.specs.Promises.{notice_verdict, BoardHandsBack, files_after_enter, EnterPromise, LeavePromise, BoardEventPromise, BoardMarkPromise}

-- each check of the calls fails at one place at most
module _ (b : Board) (files : List ℕ) where
  name_single : (i : ℕ) → AllSingle (name_checks b files i)
  name_single i = go (present_at b i)
    where
      go : (there : Bool) → AllSingle (cond there (rule_checks i (file_at files i) ++ standing_checks i (file_at files i) (monitor_at b i)) [])
      go true =
          single_append (rule_single i (file_at files i))
          (single_cons (single_at (λ place (a : MonitorValueOutOfRangeAt _ _ place). a.is_place)) (single_cons (single_at (λ place (a : WeakAt _ place). a.is_place)) single_nil))
      go false = single_nil

  names_single : (i count : ℕ) → AllSingle (names_checks b files i count)
  unfolding names_checks
  names_single i zero = single_nil
  names_single i (suc count) = single_append (name_single i) (names_single (suc i) count)

  module _ (letter : ℕ) where
    letter_single : (i : ℕ) → AllSingle (letter_checks b files letter i)
    letter_single i = go (present_at b i)
      where
        go : (there : Bool)
            → AllSingle (cond there (lone_letter_check i (letters_of (file_at files i)) letter ∷ []) [])
        go true = single_cons (single_at (λ place (a : LoneUnknownLetterAt _ _ place). a.is_place)) single_nil
        go false = single_nil

    letters_single : (i count : ℕ) → AllSingle (letters_checks b files letter i count)
    unfolding letters_checks
    letters_single i zero = single_nil
    letters_single i (suc count) = single_append (letter_single i) (letters_single (suc i) count)

  module _ (scratch : List ℕ) where
    enter_single : (name : ℕ) (file : List ℕ) → AllSingle (enter_checks b name file files scratch)
    enter_single name file =
        buffer_single (buffer_single (single_cons (single_at (λ place (a : NotFreeAt b name place). a.is_place))
        (single_append (names_single 0 board_names_count)
        (single_append (rule_single name file) (single_cons (single_at (λ place (a : WeakAt _ place). a.is_place)) single_nil)))))

    leave_single : (name : ℕ) → AllSingle (leave_checks b name files scratch)
    leave_single name =
        buffer_single (buffer_single (single_cons (single_at (λ place (a : NotPresentAt b name place). a.is_place)) (names_single 0 board_names_count)))

    event_single : (letter : ℕ) → AllSingle (board_event_checks b letter files scratch)
    event_single letter = buffer_single (buffer_single (single_append (names_single 0 board_names_count) (letters_single letter 0 board_names_count)))

    mark_single : AllSingle (board_mark_checks b files scratch)
    mark_single = buffer_single (buffer_single (names_single 0 board_names_count))

-- a board has one lowest grade
one_lowest : {b : Board} {files : List ℕ} {g h : ℕ} → LowestGrade b files g → LowestGrade b files h → g ≡ h
one_lowest {b} {files} {g} {h} p q =
    ⊎_elim (λ (e : g ≡ no_grade). ⊎_elim (λ (f : h ≡ no_grade). e ∙ sym f) (λ s. absurd (p.none e s.name h s.counts)) q.attained)
    (λ s. ⊎_elim (λ (f : h ≡ no_grade). absurd (q.none f s.name g s.counts))
    (λ t. omega (arith, p.lowest t.name h t.counts, q.lowest s.name g s.counts)) q.attained) p.attained

-- notices with one verdict are one
same_notice : (n n' : Notice) → notice_verdict n ≡ notice_verdict n' → n ≡ n'
same_notice Done Done e = refl
same_notice Done (Refused refusal input place) e = absurd (not_passed (sym e))
same_notice (Refused refusal input place) Done e = absurd (not_passed e)
same_notice (Refused r i place) (Refused r' i' place') e = same_refusal Refused r r' i i' place place' e

posted : Board → Notice → Posted
posted b n = record { board = b; notice = n }

-- and hand back one board
module _ (b next : Board) (files : List ℕ) where
  same_board : (board board' : Board) (n : Notice) → BoardHandsBack b next files board n → BoardHandsBack b next files board' n → board ≡ board'
  same_board board board' Done p q = p.becomes ∙ ap (with_lowest next) (one_lowest p.grade q.grade) ∙ sym q.becomes
  same_board board board' (Refused refusal input place) p q = p ∙ sym q

  same_answer : (r r' : Posted) → r.notice ≡ r'.notice → BoardHandsBack b next files r.board r.notice → BoardHandsBack b next files r'.board r'.notice → r ≡ r'
  unfolding posted
  same_answer r r' e p q =
      ap₂ posted (same_board r.board r'.board r.notice p (subst (BoardHandsBack b next files r'.board) (sym e) q)) e

module _ {b : Board} {files entry exit exit' : List ℕ} {r r' : Posted} where
  module _ {name : ℕ} (p : LeavePromise b name files entry exit r) (q : LeavePromise b name files entry exit' r') where
    pub one_leave : r ≡ r'
    one_leave = same_answer b (with_left b name) files r r' (same_notice r.notice r'.notice (one_verdict (leave_single b files entry name) p.refusal q.refusal)) p.board q.board

    pub one_leave_scratch : exit ≡ exit'
    one_leave_scratch = p.scratch ∙ sym q.scratch

  module _ {letter : ℕ} (p : BoardEventPromise b letter files entry exit r) (q : BoardEventPromise b letter files entry exit' r') where
    pub one_event : r ≡ r'
    one_event = same_answer b (moved_below files (Event letter) b board_names_count) files r r' (same_notice r.notice r'.notice (one_verdict (event_single b files entry letter) p.refusal q.refusal)) p.board q.board

    pub one_event_scratch : exit ≡ exit'
    one_event_scratch = p.scratch ∙ sym q.scratch

  module _ (p : BoardMarkPromise b files entry exit r) (q : BoardMarkPromise b files entry exit' r') where
    pub one_mark : r ≡ r'
    one_mark = same_answer b (moved_below files Mark b board_names_count) files r r' (same_notice r.notice r'.notice (one_verdict (mark_single b files entry) p.refusal q.refusal)) p.board q.board

    pub one_mark_scratch : exit ≡ exit'
    one_mark_scratch = p.scratch ∙ sym q.scratch

  module _ {name : ℕ} {file files-exit files-exit' : List ℕ} (p : EnterPromise b name file files files-exit entry exit r) (q : EnterPromise b name file files files-exit' entry exit' r') where
    enter_notice : r.notice ≡ r'.notice
    enter_notice = same_notice r.notice r'.notice (one_verdict (enter_single b files entry name file) p.refusal q.refusal)

    pub one_enter_files : files-exit ≡ files-exit'
    one_enter_files = p.files_left ∙ ap (files_after_enter name file files) enter_notice ∙ sym q.files_left

    pub one_enter : r ≡ r'
    one_enter =
        same_answer b (with_entered b name) files-exit r r' enter_notice p.board
        (subst (λ (made : List ℕ). BoardHandsBack b (with_entered b name) made r'.board r'.notice) (sym one_enter_files) q.board)

    pub one_enter_scratch : exit ≡ exit'
    one_enter_scratch = p.scratch ∙ sym q.scratch

pub board_one_answers : BoardOneAnswers
board_one_answers = record {
  enter = λ b name file files entry. record { one = λ x y r r' p q. (one_enter p q, λ i. (one_enter_files p q i, one_enter_scratch p q i)) };
  leave = λ b name files entry. record { one = λ x y r r' p q. (one_leave p q, one_leave_scratch p q) };
  event = λ b letter files entry. record { one = λ x y r r' p q. (one_event p q, one_event_scratch p q) };
  mark = λ b files entry. record { one = λ x y r r' p q. (one_mark p q, one_mark_scratch p q) };
}
