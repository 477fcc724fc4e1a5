-- Where the refusals of the board's calls lie: under one of eight names, and no further in than those of a file. Assumes nothing.
use Prim.Native.Nat.{ℕ, zero, suc, ◌+◌, ◌≤◌, ◌<◌}
use mathlib.Core.Path.{refl}
use mathlib.Core.Bool.{Bool, true, false, cond}
use mathlib.Core.Logic.{inl, ⊎_elim}
use mathlib.Core.List.{List, [], ◌∷◌, ◌++◌}
use native.Mathlib.Omega.{arith}
use Rattle.answer.specs.Checks.{Passes}
use Rattle.answer.proofs.Limits.{Limited, limited_nil, limited_cons, limited_append}
use Rattle.finite.proofs.Numbers.{le_or_lt}
use Rattle.formats.specs.RuleFile.{letters_of}
use Rattle.formats.specs.RuleChecks.{rule_checks}
use Rattle.promises.specs.Weak.{WeakAt}
use Rattle.promises.specs.Monitor.{MonitorValueOutOfRangeAt}
use Rattle.promises.specs.Moves.{LoneUnknownLetterAt, lone_letter_check}
use Rattle.promises.specs.Advance.{standing_checks}
use Rattle.board_promises.specs.declared.Board.{Board}
use Rattle.board_promises.specs.Boards.{board_names_count, file_at, present_at, monitor_at}
use Rattle.board_promises.specs.Checks.{NotFreeAt, NotPresentAt, free_check, name_checks, names_checks, all_checks, letter_checks, letters_checks, enter_checks, leave_checks, board_event_checks, board_mark_checks}
use Rattle.unpacking.proofs.Limits.{Near, near_limit, at_zero, buffer_limited, rule_limited}

-- a name that passed its check is one of the eight
pub free_named : (b : Board) (name : ℕ) → Passes (free_check b name) → name ≤ 7
free_named b name free = ⊎_elim (λ (h : name ≤ 7). h) (λ h. absurd (free.nowhere 0 (record { not_free = inl h; is_place = refl }))) (le_or_lt name 7)

module _ (b : Board) (files : List ℕ) where
  name_limited : (i : ℕ) → i < board_names_count → Limited Near (name_checks b files i)
  name_limited i h = go (present_at b i)
    where
      go : (there : Bool) → Limited Near (cond there (rule_checks i (file_at files i) ++ standing_checks i (file_at files i) (monitor_at b i)) [])
      go true =
          limited_append (rule_checks i (file_at files i)) (rule_limited i (file_at files i) (omega arith))
          (λ _. limited_cons (λ place (a : MonitorValueOutOfRangeAt _ _ place). near_limit (omega arith) (omega (arith, a.is_place)))
          (λ _. limited_cons (λ place (a : WeakAt _ place). near_limit (omega arith) (omega (arith, a.is_place))) (λ _. limited_nil)))
      go false = limited_nil

  names_limited : (i count : ℕ) → i + count ≤ board_names_count → Limited Near (names_checks b files i count)
  unfolding names_checks
  names_limited i zero h = limited_nil
  names_limited i (suc count) h = limited_append (name_checks b files i) (name_limited i (omega arith)) (λ _. names_limited (suc i) count (omega arith))

  all_limited : Limited Near (all_checks b files)
  all_limited = names_limited 0 board_names_count (omega arith)

  module _ (letter : ℕ) where
    letter_limited : (i : ℕ) → i < board_names_count → Limited Near (letter_checks b files letter i)
    letter_limited i h = go (present_at b i)
      where
        go : (there : Bool)
            → Limited Near (cond there (lone_letter_check i (letters_of (file_at files i)) letter ∷ []) [])
        go true = limited_cons (λ place (a : LoneUnknownLetterAt _ _ place). near_limit (omega arith) (omega (arith, a.is_place))) (λ _. limited_nil)
        go false = limited_nil

    letters_limited : (i count : ℕ) → i + count ≤ board_names_count → Limited Near (letters_checks b files letter i count)
    unfolding letters_checks
    letters_limited i zero h = limited_nil
    letters_limited i (suc count) h =
        limited_append (letter_checks b files letter i) (letter_limited i (omega arith)) (λ _. letters_limited (suc i) count (omega arith))

  module _ (scratch : List ℕ) where
    pub enter_limited : (name : ℕ) (file : List ℕ) → Limited Near (enter_checks b name file files scratch)
    enter_limited name file =
        buffer_limited (buffer_limited (limited_cons (λ place (a : NotFreeAt b name place). at_zero a.is_place)
        (λ free. limited_append (all_checks b files) all_limited
        (λ _. limited_append (rule_checks name file) (rule_limited name file (free_named b name free))
        (λ _. limited_cons (λ place (a : WeakAt _ place). near_limit (free_named b name free) (omega (arith, a.is_place))) (λ _. limited_nil))))))

    pub leave_limited : (name : ℕ) → Limited Near (leave_checks b name files scratch)
    leave_limited name = buffer_limited (buffer_limited (limited_cons (λ place (a : NotPresentAt b name place). at_zero a.is_place) (λ _. all_limited)))

    pub event_limited : (letter : ℕ) → Limited Near (board_event_checks b letter files scratch)
    event_limited letter =
        buffer_limited (buffer_limited (limited_append (all_checks b files) all_limited (λ _. letters_limited letter 0 board_names_count (omega arith))))

    pub mark_limited : Limited Near (board_mark_checks b files scratch)
    mark_limited = buffer_limited (buffer_limited all_limited)
