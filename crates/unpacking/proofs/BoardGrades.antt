-- The lowest grade that a call of the harbour board hands back is at most 4: each that counts is of a file whose checks passed. Assumes nothing.
use Prim.Native.Nat.{ℕ, zero, suc, ◌+◌, ◌*◌, ◌≤◌, ◌<◌}
use mathlib.Core.Path.{◌≡◌, refl, sym, ap, ◌∙◌, subst}
use mathlib.Core.Bool.{Bool, true, false}
use mathlib.Core.Logic.{by_cases, ⊎_elim}
use mathlib.Core.List.{List, [], ◌∷◌}
use native.Mathlib.Omega.{arith}
use native.Mathlib.Decide.{ℕ_discrete}
use lib.ListN.{length, get_or, set}
use lib.Seq.{paste, get_or-set_other}
use Rattle.answer.specs.Checks.{Check, passed, FirstFailure}
use Rattle.answer.proofs.Order.{passed_first, passes_tail}
use Rattle.answer.proofs.Limits.{Limited}
use Rattle.theory.specs.Rules.{Value}
use Rattle.theory.specs.Grades.{LassosGraded}
use Rattle.formats.specs.RuleFile.{morphism_of, marking_of}
use Rattle.formats.specs.RuleChecks.{rule_size, rule_checks}
use Rattle.promises.specs.declared.Step.{Step}
use Rattle.promises.specs.declared.Step.TheVariants.{Event, Mark}
use Rattle.board_promises.specs.declared.Board.{Board}
use Rattle.board_promises.specs.declared.Notice.{Notice}
use Rattle.board_promises.specs.declared.Notice.TheVariants.{Done, Refused}
use Rattle.board_promises.specs.declared.Posted.{Posted}
use Rattle.board_promises.specs.Boards.{board_names_count, files_size, file_at, present_at, with_left, with_entered, moved_below, Counting, LowestGrade}
use Rattle.board_promises.specs.Checks.{all_checks, enter_checks}
use Rattle.board_promises.specs.Promises.{notice_verdict, BoardHandsBack, files_after_enter, EnterPromise, LeavePromise, BoardEventPromise, BoardMarkPromise}
use Rattle.board_promises.proofs.SmallFiles.{short_file, grade_small}
use Rattle.board_promises.proofs.Moved.{moved_flags}
use Rattle.board_promises.proofs.Places.{pasted_file, others_kept}
use Rattle.board_promises.proofs.OwnPlace.{own_file}
use Rattle.board_histories.proofs.Passed.{done_passed, done_board, enter_room, enter_named, enter_checked}
use Rattle.packing_monitors.specs.Monitors.{notice_contents}
use Rattle.packing.proofs.ReadBack.{Fits}
use Rattle.unpacking.proofs.Limits.{Near, refused_fits}
use Rattle.unpacking.proofs.BoardPresent.{present_checks}
use Rattle.unpacking.proofs.BoardLimits.{enter_limited, leave_limited, event_limited, mark_limited}

-- every grade that counts is small
abbrev AllSmall : Board → List ℕ → Type 0
AllSmall next files = (i h : ℕ) → Counting next files i h → h ≤ 3

same_file : {file file' : List ℕ} {x : Value} {e g : ℕ} → file ≡ file' → LassosGraded (morphism_of file) (marking_of file) x e g
    → LassosGraded (morphism_of file') (marking_of file') x e g
same_file {x = x} {e} {g} same k = subst (λ (l : List ℕ). LassosGraded (morphism_of l) (marking_of l) x e g) same k

module _ (b : Board) (files : List ℕ) where
  module _ (all : FirstFailure (all_checks b files) passed) where
    -- of a name that was present
    there_small : {x : Value} {e : ℕ} (i g : ℕ) → i < board_names_count → present_at b i ≡ true → LassosGraded (morphism_of (file_at files i)) (marking_of (file_at files i)) x e g → g ≤ 3
    there_small i g h there k = grade_small i (file_at files i) (passed_first (rule_checks i (file_at files i)) _ (present_checks b files all i h there)) k

    moved_small : (step : Step) → AllSmall (moved_below files step b board_names_count) files
    moved_small step i h c =
        there_small i h c.named (subst (λ (flags : List Bool). get_or flags i false ≡ true) (moved_flags files step b board_names_count) c.there) c.graded

    left_small : (name : ℕ) → AllSmall (with_left b name) files
    left_small name i h c = there_small i h c.named (stayed b.present name i c.there) c.graded
      where
        gone : (flags : List Bool) (j : ℕ) → get_or (set flags j false) j false ≡ false
        gone [] j = refl
        gone (flag ∷ flags) zero = refl
        gone (flag ∷ flags) (suc j) = gone flags j

        stayed : (flags : List Bool) (name j : ℕ) → get_or (set flags name false) j false ≡ true → get_or flags j false ≡ true
        stayed flags name j there =
            by_cases (ℕ_discrete j name)
            (λ e. let absent : false ≡ true = sym (gone flags name) ∙ ap (λ (k : ℕ). get_or (set flags name false) k false) (sym e) ∙ there in
            let z : ◌≡◌ {A = ℕ} 0 1 = cc in absurd (omega arith))
            (λ other. sym (get_or-set_other flags name j false false other) ∙ there)

    -- a file that entered is read at its place, and the others at theirs
    module _ (name : ℕ) (file made : List ℕ) (named : name < board_names_count) (room : files_size ≤ length files) (own : FirstFailure (rule_checks name file) passed)
        (copied : made ≡ paste files (rule_size * name) file (length file)) where
      fits : rule_size * name + length file ≤ length files
      fits = omega (arith, short_file name file own)

      entered_small : AllSmall (with_entered b name) made
      entered_small i h c =
          by_cases (ℕ_discrete i name)
          (λ e. grade_small name file own
          (same_file
          (ap (λ (k : ℕ). file_at made k) e ∙ ap (λ (l : List ℕ). file_at l name) copied ∙ own_file name file own files name fits) c.graded))
          (λ other. there_small i h c.named (sym (get_or-set_other b.present name i true false other) ∙ c.there)
          (same_file
          (ap (λ (l : List ℕ). file_at l i) copied ∙ others_kept files file name fits (short_file name file own) i other) c.graded))

-- what a call hands back keeps to the limits of packing
lowest_small : {next : Board} {files : List ℕ} {g : ℕ} → AllSmall next files → LowestGrade next files g → g ≤ 4
lowest_small {g = g} small l = ⊎_elim (λ e. omega arith) (λ s. omega (arith, small s.name g s.counts)) l.attained

handed_lowest : {checks : List Check} (b next : Board) (files : List ℕ) (board : Board) (notice : Notice) → (FirstFailure checks passed → AllSmall next files)
    → FirstFailure checks (notice_verdict notice) → BoardHandsBack b next files board notice → notice ≡ Done → board.lowest ≤ 4
handed_lowest b next files board notice small f p done =
    let made = done_board b next files board done p in
    omega (arith, ap (λ (c : Board). c.lowest) made.becomes, lowest_small (small (done_passed done f)) made.grade)

posted_fits : {checks : List Check} (board : Board) (notice : Notice) → Limited Near checks → (notice ≡ Done → board.lowest ≤ 4)
    → FirstFailure checks (notice_verdict notice) → Fits (notice_contents board notice)
posted_fits board Done l small f = record { first = omega (arith, small refl); second = omega arith; third = omega arith }
posted_fits board (Refused r i place) l small f = refused_fits r l f

module _ {b : Board} {files entry exit : List ℕ} {answer : Posted} where
  module _ {letter : ℕ} (p : BoardEventPromise b letter files entry exit answer) where
    pub event_lowest : answer.notice ≡ Done → answer.board.lowest ≤ 4
    event_lowest =
        handed_lowest b (moved_below files (Event letter) b board_names_count) files answer.board answer.notice
        (λ f. moved_small b files (passed_first (all_checks b files) _ (passes_tail (passes_tail f))) (Event letter)) p.refusal p.board

    pub board_event_fits : Fits (notice_contents answer.board answer.notice)
    board_event_fits = posted_fits answer.board answer.notice (event_limited b files entry letter) event_lowest p.refusal

  module _ (p : BoardMarkPromise b files entry exit answer) where
    pub mark_lowest : answer.notice ≡ Done → answer.board.lowest ≤ 4
    mark_lowest =
        handed_lowest b (moved_below files Mark b board_names_count) files answer.board answer.notice (λ f. moved_small b files (passes_tail (passes_tail f)) Mark)
        p.refusal p.board

    pub board_mark_fits : Fits (notice_contents answer.board answer.notice)
    board_mark_fits = posted_fits answer.board answer.notice (mark_limited b files entry) mark_lowest p.refusal

  module _ {name : ℕ} (p : LeavePromise b name files entry exit answer) where
    pub leave_lowest : answer.notice ≡ Done → answer.board.lowest ≤ 4
    leave_lowest =
        handed_lowest b (with_left b name) files answer.board answer.notice
        (λ f. left_small b files (passes_tail (passes_tail (passes_tail f))) name) p.refusal p.board

    pub board_leave_fits : Fits (notice_contents answer.board answer.notice)
    board_leave_fits = posted_fits answer.board answer.notice (leave_limited b files entry name) leave_lowest p.refusal

  module _ {name : ℕ} {file made : List ℕ} (p : EnterPromise b name file files made entry exit answer) where
    pub enter_lowest : answer.notice ≡ Done → answer.board.lowest ≤ 4
    enter_lowest done = handed_lowest b (with_entered b name) made answer.board answer.notice small p.refusal p.board done
      where
        small : FirstFailure (enter_checks b name file files entry) passed → AllSmall (with_entered b name) made
        small f =
            entered_small b files (passed_first (all_checks b files) _ (passes_tail (passes_tail (passes_tail f)))) name file made (enter_named b name file files entry f)
            (enter_room b name file files entry f) (enter_checked b name file files entry f)
            (p.files_left ∙ ap (files_after_enter name file files) done ∙ sym (pasted_file files file (rule_size * name)))

    pub board_enter_fits : Fits (notice_contents answer.board answer.notice)
    board_enter_fits = posted_fits answer.board answer.notice (enter_limited b files entry name file) enter_lowest p.refusal
