-- The verdict of a monitor that calls have led to, keeps and returns among them, is the grade of the lasso of its history: the letters
-- before the last mark, then those since for ever. Where no mark was made it is that of the letters for ever. Assumes nothing.
use Prim.Native.Nat.{ℕ}
use mathlib.Core.Path.{◌≡◌, refl, sym, ◌∙◌, subst}
use mathlib.Core.List.{List, [], ◌∷◌, map}
use Rattle.answer.specs.Checks.{passed, FirstFailure}
use Rattle.answer.proofs.Order.{passed_last, passes_head}
use Rattle.theory.specs.Words.{Lasso}
use Rattle.theory.specs.Rules.{element, value}
use Rattle.theory.specs.Grades.{Graded}
use Rattle.theory.specs.Pairs.{TurnsOf}
use Rattle.theory.proofs.Values.{value_some}
use Rattle.formats.specs.RuleFile.{letters_of, morphism_of, marking_of}
use Rattle.promises.specs.declared.Monitor.{Monitor}
use Rattle.promises.specs.Monitor.{value_of, monitor_checks}
use Rattle.promises.specs.Histories.{Action, event, since_word, before_word, MonitorRun}
use Rattle.promises.specs.Logs.{Stored, Log}
use Rattle.promises.proofs.Logs.{log_run}
use Rattle.promises.proofs.MonitorValues.{value_element}
use Rattle.promises.proofs.Histories.{run_follows}
use Rattle.promises.specs.declared.LassoVerdict.TheVariants.{Decided}
use Rattle.promises.specs.Verdict.{verdict_checks, VerdictPromise}

module _ {bytes : List ℕ} {f : Monitor} {history : List Action} (run : MonitorRun bytes f history) where
  -- the monitor has the values of the history's words, and letters came since the last mark
  history_start : value (morphism_of bytes) (before_word history) ≡ value_of f.before
  history_start = sym (run_follows bytes run).before_value

  history_cycle : {entry : List ℕ} → FirstFailure (verdict_checks bytes f entry) passed → value (morphism_of bytes) (since_word history) ≡ element f.since
  history_cycle {entry} all =
      sym (run_follows bytes run).since_value
      ∙ value_element (λ e. (passes_head (passed_last (monitor_checks bytes f entry) _ all)).nowhere 0 (record { none = e; is_place = refl }))

  history_lasso : value (morphism_of bytes) (since_word history) ≡ element f.since → Lasso (letters_of bytes) (before_word history) (since_word history)
  history_lasso e = record {
    start_over = (run_follows bytes run).before_over;
    cycle_over = (run_follows bytes run).since_over;
    cycle_some = value_some (morphism_of bytes) (since_word history) f.since e;
  }

  module _ {entry exit : List ℕ} where
    pub history_graded : {grade turns : ℕ} → VerdictPromise bytes f entry exit (Decided grade turns) → Graded (morphism_of bytes) (marking_of bytes) (before_word history) (since_word history) grade
    history_graded p =
        let e = history_cycle p.refusal in
        p.answered.0.graded (before_word history) (since_word history) (history_lasso e) history_start e

    -- and the turns are those of its cycle
    pub history_turns : {grade turns : ℕ} → VerdictPromise bytes f entry exit (Decided grade turns) → TurnsOf (morphism_of bytes) (since_word history) turns
    history_turns p = record { cycle = f.since; cycle_value = history_cycle p.refusal; turns_are = p.answered.1 }

-- a history of events alone
abbrev pub events : List ℕ → List Action
events letters = map event letters

events_before : (letters : List ℕ) → before_word (events letters) ≡ []
unfolding before_word
events_before [] = refl
events_before (a ∷ letters) = events_before letters

-- where no mark was made, the verdict is that of the letters for ever
module _ {bytes : List ℕ} {f : Monitor} (letters : List ℕ) (run : MonitorRun bytes f (events letters)) {entry exit : List ℕ} where
  pub events_graded : {grade turns : ℕ} → VerdictPromise bytes f entry exit (Decided grade turns) → Graded (morphism_of bytes) (marking_of bytes) [] (since_word (events letters)) grade
  events_graded {grade} p =
      subst (λ (u : List ℕ). Graded (morphism_of bytes) (marking_of bytes) u (since_word (events letters)) grade) (events_before letters) (history_graded run p)

-- so it is for a monitor with points: the lasso is that of the history, which a return has made the stored one again
module _ {bytes : List ℕ} {f : Monitor} {points : List ℕ} {history : List Action} {names : ℕ → Stored} (log : Log bytes f points history names) {entry exit : List ℕ} where
  pub log_graded : {grade turns : ℕ} → VerdictPromise bytes f entry exit (Decided grade turns) → Graded (morphism_of bytes) (marking_of bytes) (before_word history) (since_word history) grade
  log_graded p = history_graded (log_run bytes log) p

  pub log_turns : {grade turns : ℕ} → VerdictPromise bytes f entry exit (Decided grade turns) → TurnsOf (morphism_of bytes) (since_word history) turns
  log_turns p = history_turns (log_run bytes log) p
