-- What the checks of the harbour board say of a name that is present: its file is a rule's, and its monitor's values are that rule's. Assumes
-- nothing.
use Prim.Native.Nat.{ℕ, zero, suc, ◌+◌, ◌≤◌, ◌<◌}
use mathlib.Core.Path.{◌≡◌, refl, subst}
use mathlib.Core.Bool.{Bool, true, cond}
use mathlib.Core.Logic.{⊎_elim}
use mathlib.Core.List.{List, [], ◌++◌}
use native.Mathlib.Omega.{arith}
use native.Mathlib.Nat.{eq-or-lt_of_le}
use Rattle.answer.specs.Checks.{passed, FirstFailure}
use Rattle.answer.proofs.Order.{passed_first, passed_last, passes_head}
use Rattle.formats.specs.RuleFile.{elements_of}
use Rattle.formats.specs.RuleChecks.{rule_checks}
use Rattle.formats.proofs.GoodRule.{good_rule, GoodRule}
use Rattle.promises.specs.Advance.{standing_checks}
use Rattle.board_promises.specs.declared.Board.{Board}
use Rattle.board_promises.specs.Boards.{board_names_count, file_at, present_at, monitor_at}
use Rattle.board_promises.specs.Checks.{name_checks, names_checks, all_checks}
use Rattle.unpacking.proofs.Monitors.{Unstray}

module _ (b : Board) (files : List ℕ) where
  name_passed : (i count j : ℕ) → FirstFailure (names_checks b files i count) passed → i ≤ j → j < i + count → FirstFailure (name_checks b files j) passed
  unfolding names_checks
  name_passed i zero j all l h = absurd (omega arith)
  name_passed i (suc count) j all l h =
      ⊎_elim (λ (e : i ≡ j). subst (λ (k : ℕ). FirstFailure (name_checks b files k) passed) e (passed_first (name_checks b files i) _ all))
      (λ (m : i < j). name_passed (suc i) count j (passed_last (name_checks b files i) _ all) m (omega arith))
      (eq-or-lt_of_le l)

  module _ (all : FirstFailure (all_checks b files) passed) (i : ℕ) (h : i < board_names_count) (there : present_at b i ≡ true) where
    pub present_checks : FirstFailure (rule_checks i (file_at files i) ++ standing_checks i (file_at files i) (monitor_at b i)) passed
    present_checks =
        subst (λ (t : Bool). FirstFailure (cond t (rule_checks i (file_at files i) ++ standing_checks i (file_at files i) (monitor_at b i)) []) passed) there
        (name_passed 0 board_names_count i all (omega arith) (omega arith))

    pub present_rule : GoodRule (file_at files i)
    present_rule = good_rule i (file_at files i) (passed_first (rule_checks i (file_at files i)) _ present_checks)

    pub present_unstray : Unstray (elements_of (file_at files i)) (monitor_at b i)
    present_unstray s = (passes_head (passed_last (rule_checks i (file_at files i)) _ present_checks)).nowhere 0 (record { stray = s; is_place = refl })
