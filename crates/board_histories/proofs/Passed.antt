-- What a call of the board that was not refused knows, by its checks: the file that enters is that of a strong rule, and an event's letter is one of
-- every rule present. Assumes nothing.
use Prim.Native.Nat.{ℕ, zero, suc, ◌+◌, ◌≤◌, ◌<◌}
use mathlib.Core.Path.{◌≡◌, refl, subst}
use mathlib.Core.Bool.{Bool, true, cond}
use mathlib.Core.Logic.{inl, by_cases}
use mathlib.Core.List.{List, [], ◌∷◌, ◌++◌}
use native.Mathlib.Omega.{arith}
use native.Mathlib.Decide.{ℕ_discrete}
use lib.ListN.{length}
use Rattle.answer.specs.Checks.{Check, passed, FirstFailure}
use Rattle.answer.proofs.Order.{passed_first, passed_last, passes_head, passes_tail}
use Rattle.theory.specs.Grades.{StrongMarking}
use Rattle.formats.specs.RuleFile.{letters_of, morphism_of, marking_of}
use Rattle.formats.specs.RuleChecks.{rule_checks}
use Rattle.formats.proofs.GoodRule.{good_rule, strong_of, GoodRule}
use Rattle.promises.specs.Weak.{weak_check}
use Rattle.promises.specs.Moves.{lone_letter_check}
use Rattle.board_promises.specs.declared.Board.{Board}
use Rattle.board_promises.specs.declared.Notice.{Notice}
use Rattle.board_promises.specs.declared.Notice.TheVariants.{Done}
use Rattle.board_promises.specs.Boards.{board_names_count, files_size, file_at, present_at}
use Rattle.board_promises.specs.Checks.{buffers_checks, free_check, all_checks, letter_checks, letters_checks, enter_checks, board_event_checks}
use Rattle.board_promises.specs.Promises.{notice_verdict, BoardBecomes, BoardHandsBack}

-- the answer of a call that was not refused
pub done_passed : {checks : List Check} {notice : Notice} → notice ≡ Done → FirstFailure checks (notice_verdict notice) → FirstFailure checks passed
done_passed {checks} done f = subst (λ (n : Notice). FirstFailure checks (notice_verdict n)) done f

pub done_board : (b next : Board) (files : List ℕ) (board : Board) {notice : Notice} → notice ≡ Done → BoardHandsBack b next files board notice → BoardBecomes next files board
done_board b next files board done h = subst (BoardHandsBack b next files board) done h

-- a rule that enters
module _ (b : Board) (name : ℕ) (file files entry : List ℕ) (all : FirstFailure (enter_checks b name file files entry) passed) where
  behind_buffers : FirstFailure (free_check b name ∷ (all_checks b files ++ (rule_checks name file ++ weak_check name file ∷ []))) passed
  behind_buffers = passed_last (buffers_checks files entry) _ all

  own_checks : FirstFailure (rule_checks name file ++ weak_check name file ∷ []) passed
  own_checks = passed_last (all_checks b files) _ (passes_tail behind_buffers)

  pub enter_room : files_size ≤ length files
  enter_room = let not : length files < files_size → ⊥ = λ h. (passes_head all).nowhere 0 (record { short = h; is_place = refl }) in omega arith

  pub enter_named : name < board_names_count
  enter_named = let not : board_names_count ≤ name → ⊥ = λ h. (passes_head behind_buffers).nowhere 0 (record { not_free = inl h; is_place = refl }) in omega arith

  pub enter_checked : FirstFailure (rule_checks name file) passed
  enter_checked = passed_first (rule_checks name file) _ own_checks

  pub enter_good : GoodRule file
  enter_good = good_rule name file enter_checked

  pub enter_strong : StrongMarking (morphism_of file) (marking_of file)
  enter_strong =
      strong_of enter_good (λ weak. (passes_head (passed_last (rule_checks name file) _ own_checks)).nowhere 0 (record { weak = weak; is_place = refl }))

-- the letter of an event
module _ (b : Board) (files : List ℕ) (letter : ℕ) where
  abbrev unknown : ℕ → Check
  unknown i = lone_letter_check i (letters_of (file_at files i)) letter

  name_letter : (i : ℕ) → FirstFailure (letter_checks b files letter i) passed → present_at b i ≡ true → letter < letters_of (file_at files i)
  name_letter i f there =
      let own : FirstFailure (unknown i ∷ []) passed = subst (λ (flag : Bool). FirstFailure (cond flag (unknown i ∷ []) []) passed) there f in
      let not : letters_of (file_at files i) ≤ letter → ⊥ = λ h. (passes_head own).nowhere 0 (record { foreign = h; is_place = refl }) in
      omega arith

  -- of a row of names
  row_letter : (i count : ℕ) → FirstFailure (letters_checks b files letter i count) passed
      → (j : ℕ) → i ≤ j → j < i + count → present_at b j ≡ true → letter < letters_of (file_at files j)
  unfolding letters_checks
  row_letter i zero f j low high there = absurd (let z : ⊥ = omega arith in z)
  row_letter i (suc count) f j low high there =
      by_cases (ℕ_discrete i j)
      (λ (e : i ≡ j). name_letter j (subst (λ (k : ℕ). FirstFailure (letter_checks b files letter k) passed) e (passed_first (letter_checks b files letter i) _ f)) there)
      (λ other. row_letter (suc i) count (passed_last (letter_checks b files letter i) _ f) j (omega arith) (omega arith) there)

  pub event_letter : {entry : List ℕ} → FirstFailure (board_event_checks b letter files entry) passed
      → (i : ℕ) → i < board_names_count → present_at b i ≡ true → letter < letters_of (file_at files i)
  event_letter {entry} all i named there =
      row_letter 0 board_names_count (passed_last (all_checks b files) _ (passed_last (buffers_checks files entry) _ all)) i (omega arith) (omega arith) there
