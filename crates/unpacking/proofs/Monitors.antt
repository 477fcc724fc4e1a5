-- The values of a moved monitor, and of one that is kept or returned to, are elements or 64. Assumes nothing.
use Prim.Native.Nat.{ℕ, ◌≤◌, ◌<◌}
use mathlib.Core.Path.{refl}
use mathlib.Core.Logic.{◌⊎◌, inl, inr, ⊎_elim}
use mathlib.Core.List.{List, ◌∷◌}
use native.Mathlib.Omega.{arith}
use Rattle.answer.specs.Checks.{passed, FirstFailure}
use Rattle.answer.proofs.Order.{passed_first, passed_last, passes_head, passes_tail}
use Rattle.theory.specs.Words.{Over, over_nil, over_cons}
use Rattle.formats.specs.RuleFile.{elements_of, letters_of, morphism_of}
use Rattle.formats.proofs.GoodRule.{GoodRule, called_good}
use Rattle.formats.specs.RuleChecks.{buffer_check}
use Rattle.formats.specs.Calls.{checked_checks}
use Rattle.promises.specs.declared.Monitor.{Monitor}
use Rattle.promises.specs.declared.Step.{Step}
use Rattle.promises.specs.declared.Step.TheVariants.{Event, Mark}
use Rattle.promises.specs.Monitor.{ValueOutOfRange, monitor_checks}
use Rattle.monitor_state.specs.Ready.{GoodNumber}
use Rattle.monitor_state.proofs.Numbers.{not_stray}
use Rattle.promises.specs.Moves.{after_event, after_mark, event_checks}
use Rattle.promises.specs.EventWords.{after_word}
use Rattle.promises.specs.Feed.{feed_checks}
use Rattle.promises.proofs.EventWords.{log_over}
use Rattle.promises.specs.Advance.{after_step, ForeignStep}
use Rattle.promises.proofs.MonitorGoods.{step_fits}
use Rattle.promises.specs.Points.{points_size, point_at, keep_checks, return_checks}
use Rattle.promises.proofs.Points.{return_named, return_kept}
use Rattle.packing_monitors.specs.Monitors.{monitor_contents}
use Rattle.packing.proofs.ReadBack.{Fits}

good_small : {n s : ℕ} → n ≤ 64 → GoodNumber n s → s ≤ 64
good_small small g = ⊎_elim (λ h. omega arith) (λ e. omega arith) g

-- both values are elements or 64
pub record SmallValues (f : Monitor) : Type 0 where
  pub before_small : f.before ≤ 64
  pub since_small : f.since ≤ 64

values_fit : {f : Monitor} → SmallValues f → Fits (monitor_contents f)
values_fit p = record { first = omega (arith, p.before_small); second = omega (arith, p.since_small); third = omega arith }

-- a monitor whose two values are good
abbrev pub Unstray : ℕ → Monitor → Type 0
Unstray n f = ValueOutOfRange n f.before ⊎ ValueOutOfRange n f.since → ⊥

both_small : {n : ℕ} {f : Monitor} → n ≤ 64 → Unstray n f → SmallValues f
both_small small h =
    record { before_small = good_small small (not_stray _ _ (λ i. h (inl i))); since_small = good_small small (not_stray _ _ (λ i. h (inr i))) }

-- and stay so
module _ {bytes : List ℕ} {f : Monitor} (rule : GoodRule bytes) (unstray : Unstray (elements_of bytes) f) where
  pub step_small : (step : Step) → (ForeignStep (letters_of bytes) step → ⊥) → SmallValues (after_step (morphism_of bytes) f step)
  step_small step known = both_small rule.table.small (step_fits rule f unstray step known)

  pub event_small : {letter : ℕ} → letter < letters_of bytes → SmallValues (after_event (morphism_of bytes) f letter)
  event_small {letter} known = step_small (Event letter) (λ foreign. omega arith)

  pub mark_small : SmallValues (after_mark (morphism_of bytes) f)
  mark_small = step_small Mark (λ foreign. foreign)

-- after a word of events
word_unstray : {bytes w : List ℕ} → GoodRule bytes → Over (letters_of bytes) w → (f : Monitor) → Unstray (elements_of bytes) f → Unstray (elements_of bytes) (after_word (morphism_of bytes) f w)
unfolding after_word
word_unstray rule over_nil f unstray = unstray
word_unstray {bytes} rule (over_cons {a} known over) f unstray =
    word_unstray rule over (after_event (morphism_of bytes) f a) (step_fits rule f unstray (Event a) (λ foreign. omega arith))

pub word_small : {bytes w : List ℕ} {f : Monitor} → GoodRule bytes → Unstray (elements_of bytes) f → Over (letters_of bytes) w → SmallValues (after_word (morphism_of bytes) f w)
word_small {f = f} rule unstray over = both_small rule.table.small (word_unstray rule over f unstray)

module _ (bytes : List ℕ) (f : Monitor) (entry : List ℕ) where
  module _ (all : FirstFailure (monitor_checks bytes f entry) passed) where
    monitor_rule : GoodRule bytes
    monitor_rule = called_good 1 bytes entry (passed_first (checked_checks 1 bytes entry) _ all)

    monitor_unstray : Unstray (elements_of bytes) f
    monitor_unstray s = (passes_head (passed_last (checked_checks 1 bytes entry) _ all)).nowhere 0 (record { stray = s; is_place = refl })

    pub mark_fits : Fits (monitor_contents (after_mark (morphism_of bytes) f))
    mark_fits = values_fit (mark_small monitor_rule monitor_unstray)

  pub event_fits : (letter : ℕ) → FirstFailure (event_checks bytes f letter entry) passed → Fits (monitor_contents (after_event (morphism_of bytes) f letter))
  event_fits letter all =
      let ready = passed_first (monitor_checks bytes f entry) _ all in
      let known : letters_of bytes ≤ letter → ⊥ = λ h. (passes_head (passed_last (monitor_checks bytes f entry) _ all)).nowhere 0 (record { foreign = h; is_place = refl }) in
      values_fit (event_small (monitor_rule ready) (monitor_unstray ready) (omega arith))

  pub feed_fits : (w : List ℕ) → FirstFailure (feed_checks bytes f w entry) passed → Fits (monitor_contents (after_word (morphism_of bytes) f w))
  feed_fits w all =
      let ready = passed_first (monitor_checks bytes f entry) _ all in
      values_fit (word_small (monitor_rule ready) (monitor_unstray ready) (log_over 1 (letters_of bytes) w (passed_last (monitor_checks bytes f entry) _ all)))

module _ (bytes : List ℕ) (f : Monitor) (name : ℕ) (points entry : List ℕ) where
  pub keep_fits : FirstFailure (keep_checks bytes f name points entry) passed → Fits (monitor_contents f)
  keep_fits all =
      let checked = passed_first (checked_checks 1 bytes entry) _ (passes_tail all) in
      let later = passes_tail (passed_last (buffer_check points_size points ∷ checked_checks 1 bytes entry) _ all) in
      values_fit (both_small (called_good 1 bytes entry checked).table.small (λ s. (passes_head later).nowhere 0 (record { stray = inl s; is_place = refl })))

  pub return_fits : FirstFailure (return_checks bytes f name points entry) passed → Fits (monitor_contents (point_at points name))
  return_fits all =
      let checked = passed_first (checked_checks 1 bytes entry) _ (passes_tail all) in
      let later = passes_tail (passes_tail (passed_last (buffer_check points_size points ∷ checked_checks 1 bytes entry) _ all)) in
      values_fit (both_small (called_good 1 bytes entry checked).table.small
      (λ s. (passes_head later).nowhere 0
      (record {
        stray = inr (record { name = name; named = return_named bytes f name points entry all; kept = return_kept bytes f name points entry all; stray = s });
        is_place = refl;
      })))
