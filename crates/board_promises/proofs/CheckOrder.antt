-- The order of the checks of the board's calls: 13; then the name, by 21 or 22; then those present; and only then the file that enters, or an
-- event's letter. Document 02, Job 14. Assumes nothing.
use Prim.Native.Nat.{ℕ, ◌≤◌}
use mathlib.Core.Path.{◌≡◌, refl}
use mathlib.Core.Bool.{true, false}
use mathlib.Core.Logic.{◌⊎◌}
use mathlib.Core.List.{List}
use Rattle.answer.specs.declared.Refusal.{Refusal}
use Rattle.answer.specs.declared.Refusal.TheVariants.{NameNotFree, NameNotPresent}
use Rattle.answer.specs.Checks.{Passes, passed, refused, FirstFailure}
use Rattle.answer.proofs.Order.{first_passes, first_fails, passed_before, refused_before}
use Rattle.board_promises.specs.declared.Board.{Board}
use Rattle.board_promises.specs.Boards.{board_names_count, present_at}
use Rattle.board_promises.specs.Checks.{buffers_checks, free_check, present_check, all_checks, enter_checks, leave_checks, board_event_checks, board_mark_checks}

module _ (b : Board) (files scratch : List ℕ) (room : FirstFailure (buffers_checks files scratch) passed) where
  -- a name that is taken or above 7, whatever the files are
  pub name_before_files : (name : ℕ) (file : List ℕ) → (board_names_count ≤ name) ⊎ (present_at b name ≡ true)
      → FirstFailure (enter_checks b name file files scratch) (refused NameNotFree 1 0)
  name_before_files name file h =
      passed_before (buffers_checks files scratch) _ room (first_fails (free_check b name) (record { not_free = h; is_place = refl }))

  -- one that nobody has
  pub leaver_before_files : (name : ℕ) → (board_names_count ≤ name) ⊎ (present_at b name ≡ false) → FirstFailure (leave_checks b name files scratch) (refused NameNotPresent 1 0)
  leaver_before_files name h =
      passed_before (buffers_checks files scratch) _ room (first_fails (present_check b name) (record { not_there = h; is_place = refl }))

  -- a refusal of one present, whatever enters, whoever leaves and whatever the letter is
  module _ (r : Refusal) (input place : ℕ) (p : FirstFailure (all_checks b files) (refused r input place)) where
    pub present_before_entering : (name : ℕ) (file : List ℕ) → Passes (free_check b name) → FirstFailure (enter_checks b name file files scratch) (refused r input place)
    present_before_entering name file free = passed_before (buffers_checks files scratch) _ room (first_passes free (refused_before (all_checks b files) _ p))

    pub present_at_leaving : (name : ℕ) → Passes (present_check b name) → FirstFailure (leave_checks b name files scratch) (refused r input place)
    present_at_leaving name there = passed_before (buffers_checks files scratch) _ room (first_passes there p)

    pub present_before_letter : (letter : ℕ) → FirstFailure (board_event_checks b letter files scratch) (refused r input place)
    present_before_letter letter = passed_before (buffers_checks files scratch) _ room (refused_before (all_checks b files) _ p)

    pub present_at_mark : FirstFailure (board_mark_checks b files scratch) (refused r input place)
    present_at_mark = passed_before (buffers_checks files scratch) _ room p
