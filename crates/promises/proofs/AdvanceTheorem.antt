-- The theorem on `advance` and `advance_word`: where a first part of the checks passes the same part passes of the other call, and one verdict is left.
-- Assumes nothing.
use Prim.Native.Nat.{ℕ, ◌≤◌, ◌<◌}
use mathlib.Core.Path.{◌≡◌, refl, sym, ap, ◌∙◌, subst}
use mathlib.Core.List.{List, [], ◌∷◌}
use native.Mathlib.Omega.{arith}
use lib.ListN.{length}
use Rattle.answer.specs.declared.Refusal.{Refusal}
use Rattle.answer.specs.Checks.{passed, FirstFailure}
use Rattle.answer.proofs.Order.{first_passes, none_left, passed_before, passed_first, passed_last, passes_head, passes_tail, one_verdict}
use Rattle.answer.proofs.Verdicts.{not_passed}
use Rattle.theory.specs.Words.{over_nil}
use Rattle.formats.specs.RuleFile.{letters_of, morphism_of}
use Rattle.formats.specs.RuleChecks.{scratch_size}
use Rattle.formats.specs.Calls.{checked_checks}
use Rattle.formats.proofs.Buffers.{buffer_long}
use Rattle.formats.proofs.GoodRule.{GoodRule, called_good}
use Rattle.promises.specs.declared.Monitor.{Monitor}
use Rattle.promises.specs.declared.LassoVerdict.{LassoVerdict}
use Rattle.promises.specs.declared.LassoVerdict.TheVariants.{Decided}
use Rattle.promises.specs.declared.Step.{Step}
use Rattle.promises.specs.declared.Step.TheVariants.{Event, Stay}
use Rattle.promises.specs.declared.Advanced.{Advanced}
use Rattle.promises.specs.declared.Advanced.TheVariants.{To, Refused}
use Rattle.promises.specs.Monitor.{no_value, monitor_checks}
use Rattle.promises.specs.Moves.{event_checks}
use Rattle.promises.specs.Verdict.{verdict_checks, VerdictPromise}
use Rattle.promises.specs.EventWords.{longest_log, log_checks, after_word}
use Rattle.promises.specs.Advance.{ForeignStep, standing_checks, strong_monitor_checks, advanced_verdict, AdvanceAnswer, AdvancePromise, AdvanceWordPromise}
use Rattle.promises.specs.AdvanceTheorem.{behind_letter, AdvanceTheorem}
use Rattle.promises.proofs.CheckParts.{behind_same, behind_passed, rule_as}
use Rattle.promises.proofs.EventWords.{log_single, known_step, log_passes, behind_verdict, letter_refused, letter_passes}
use Rattle.promises.proofs.MonitorOrder.{Stray}
use Rattle.promises.proofs.MonitorGoods.{step_fits, event_element}
use Rattle.promises.proofs.OneAdvance.{one_answer, one_word_answer}
use Rattle.promises.proofs.OneMove.{one_event, one_mark}
use Rattle.promises.proofs.OneVerdict.{one_answer as one-judgement}

-- what a rule and a monitor that passed with one scratch are known to be, and that they pass with another that is long enough
module _ (input : ℕ) (bytes : List ℕ) (f : Monitor) (entry : List ℕ) (all : FirstFailure (strong_monitor_checks input bytes f entry) passed) where
  rule_good : GoodRule bytes
  rule_good = called_good input bytes entry (passed_first (checked_checks input bytes entry) _ all)

  behind_rule : FirstFailure (standing_checks input bytes f) passed
  behind_rule = passed_last (checked_checks input bytes entry) _ all

  values_fit : ¬ Stray bytes f
  values_fit stray = (passes_head behind_rule).nowhere 0 (record { stray = stray; is_place = refl })

  module _ (other : ℕ) (entry' : List ℕ) (long : scratch_size ≤ length entry') where
    rule_passes : FirstFailure (checked_checks other bytes entry') passed
    rule_passes = buffer_long long (rule_as input other bytes (passes_tail (passed_first (checked_checks input bytes entry) _ all)))

    module _ (g : Monitor) (fits : ¬ Stray bytes g) where
      -- another monitor whose values fit
      monitor_passes : FirstFailure (strong_monitor_checks other bytes g entry') passed
      monitor_passes =
          passed_before (checked_checks other bytes entry') _ rule_passes
          (first_passes (record { nowhere = λ place a. fits a.stray }) (first_passes (record { nowhere = (passes_head (passes_tail behind_rule)).nowhere }) none_left))

-- as the first input, which `event`, `mark` and `verdict` have a rule as
module _ (input : ℕ) (bytes : List ℕ) (f : Monitor) (entry : List ℕ) (all : FirstFailure (strong_monitor_checks input bytes f entry) passed)
    (entry' : List ℕ) (long : scratch_size ≤ length entry') (g : Monitor) (fits : ¬ Stray bytes g) where
  moves_pass : FirstFailure (monitor_checks bytes g entry') passed
  moves_pass = passed_before (checked_checks 1 bytes entry') _ (rule_passes input bytes f entry all 1 entry' long) (first_passes (record { nowhere = λ place a. fits a.stray }) none_left)

  event_passes : (letter : ℕ) → letter < letters_of bytes → FirstFailure (event_checks bytes g letter entry') passed
  event_passes letter known = passed_before (monitor_checks bytes g entry') _ moves_pass (first_passes (record { nowhere = λ place a. omega (arith, a.foreign) }) none_left)

  verdict_passes : ¬ (g.since ≡ no_value) → FirstFailure (verdict_checks bytes g entry') passed
  verdict_passes some =
      passed_before (monitor_checks bytes g entry') _ moves_pass
      (first_passes (record { nowhere = λ place a. some a.none })
      (first_passes (record { nowhere = (passes_head (passes_tail (behind_rule input bytes f entry all))).nowhere }) none_left))

-- a step that passed
module _ {input : ℕ} {bytes : List ℕ} {f g : Monitor} {step : Step} {entry exit : List ℕ} {grade turns : ℕ} (p : AdvancePromise input bytes f step entry exit (To g grade turns)) where
  step_standing : FirstFailure (strong_monitor_checks input bytes f entry) passed
  step_standing = passed_first (strong_monitor_checks input bytes f entry) _ p.refusal

  step_is_known : ForeignStep (letters_of bytes) step → ⊥
  step_is_known = known_step input (letters_of bytes) step (passed_last (strong_monitor_checks input bytes f entry) _ p.refusal)

  moved_fits : ¬ Stray bytes g
  moved_fits = subst (λ (x : Monitor). ¬ Stray bytes x) (sym p.answered.moved) (step_fits (rule_good input bytes f entry step_standing) f (values_fit input bytes f entry step_standing) step step_is_known)

  then_verdict : {entry' exit' : List ℕ} → scratch_size ≤ length entry' → ¬ (g.since ≡ no_value) → {answer : LassoVerdict} → VerdictPromise bytes g entry' exit' answer → answer ≡ Decided grade turns
  then_verdict {entry'} long some {answer} q =
      one-judgement answer (Decided grade turns) q (record {
        refusal = verdict_passes input bytes f entry step_standing entry' long g moved_fits some;
        answered = (p.answered.graded.has_since some, p.answered.settled.has_since some);
        scratch = refl;
      })

-- the empty word
no_letters : {input : ℕ} {bytes : List ℕ} {f : Monitor} {entry exit : List ℕ} {answer : Advanced} → AdvanceWordPromise input bytes f [] entry exit answer
    → AdvancePromise input bytes f Stay entry exit answer
unfolding after_word
no_letters {input} {bytes} {f} {entry} p = record {
  refusal =
      behind_same (strong_monitor_checks input bytes f entry) (log_checks input (letters_of bytes) []) []
      (λ g. subst (FirstFailure []) (sym (one_verdict (log_single input (letters_of bytes) []) g (log_passes input (letters_of bytes) [] (omega arith) over_nil))) none_left) p.refusal;
  answered = p.answered;
  scratch = p.scratch;
}

-- a first letter that is refused
module _ (input : ℕ) (bytes : List ℕ) (f : Monitor) (letter : ℕ) (w entry : List ℕ) (short : length (letter ∷ w) ≤ longest_log) where
  first_refused : {g : Monitor} {exit exit' : List ℕ} {r : Refusal} {i place : ℕ} {answer : Advanced} → AdvancePromise input bytes f (Event letter) entry exit (Refused g r i place)
      → AdvanceWordPromise input bytes f (letter ∷ w) entry exit' answer → answer ≡ Refused f r i place
  first_refused {r = r} {i = i} {place = place} {answer = answer} p q =
      one_word_answer answer (Refused f r i place) q (record {
        refusal = behind_same (strong_monitor_checks input bytes f entry) _ _ (letter_refused input (letters_of bytes) letter w short not_passed) p.refusal;
        answered = refl;
        scratch = refl;
      })

-- a first letter that passes
same_verdict : (f : Monitor) (rest : Advanced) → behind_verdict (advanced_verdict rest) ≡ advanced_verdict (behind_letter f rest)
same_verdict f (To g grade turns) = refl
same_verdict f (Refused g r i place) = refl

module _ {input : ℕ} {bytes : List ℕ} {f h : Monitor} {letter : ℕ} {entry exit : List ℕ} {grade turns : ℕ} (w : List ℕ) (short : length (letter ∷ w) ≤ longest_log)
    (p : AdvancePromise input bytes f (Event letter) entry exit (To h grade turns)) where
  letter_known : letter < letters_of bytes
  letter_known = let g : letters_of bytes ≤ letter → ⊥ = step_is_known p in omega arith

  behind_answer : (rest : Advanced) → AdvanceAnswer bytes h (after_word (morphism_of bytes) h w) rest → AdvanceAnswer bytes f (after_word (morphism_of bytes) f (letter ∷ w)) (behind_letter f rest)
  unfolding after_word
  behind_answer (To g grade turns) a = record { moved = a.moved ∙ ap (λ (x : Monitor). after_word (morphism_of bytes) x w) p.answered.moved; graded = a.graded; settled = a.settled }
  behind_answer (Refused g r i place) a = refl

  first_passed : {entry' entry'' exit' exit'' : List ℕ} {answer rest : Advanced} → scratch_size ≤ length entry' → scratch_size ≤ length entry''
      → AdvanceWordPromise input bytes h w entry' exit' rest → AdvanceWordPromise input bytes f (letter ∷ w) entry'' exit'' answer → answer ≡ behind_letter f rest
  first_passed {entry'} {entry''} {answer = answer} {rest = rest} long' long'' q whole =
      one_word_answer answer (behind_letter f rest) whole (record {
        refusal =
            passed_before (strong_monitor_checks input bytes f entry'') _
            (monitor_passes input bytes f entry (step_standing p) input entry'' long'' f (values_fit input bytes f entry (step_standing p)))
            (subst (FirstFailure (log_checks input (letters_of bytes) (letter ∷ w))) (same_verdict f rest)
            (letter_passes input (letters_of bytes) letter w short letter_known (advanced_verdict rest)
            (behind_passed (strong_monitor_checks input bytes h entry') _ (monitor_passes input bytes f entry (step_standing p) input entry' long' h (moved_fits p)) q.refusal)));
        answered = behind_answer rest q.answered;
        scratch = refl;
      })

pub advance_theorem : AdvanceTheorem
advance_theorem = record {
  no_letters = λ input bytes f entry exit exit' answer answer' p q. one_answer answer answer' (no_letters p) q;
  first_refused = λ input bytes f g letter w entry exit exit' refusal i place answer short p q. first_refused input bytes f letter w entry short p q;
  first_passed = λ input bytes f h letter w entry entry' entry'' exit exit' exit'' grade turns answer rest short long' long'' p q whole. first_passed w short p long' long'' q whole;
  event_alone = λ input bytes f g letter entry entry' exit exit' grade turns answer long p q.
      one_event q (record {
        refusal = event_passes input bytes f entry (step_standing p) entry' long f (values_fit input bytes f entry (step_standing p)) letter (let h : letters_of bytes ≤ letter → ⊥ = step_is_known p in omega arith);
        monitor = p.answered.moved;
        scratch = refl;
      });
  mark_alone = λ input bytes f g entry entry' exit exit' grade turns answer long p q.
      one_mark q (record {
        refusal = moves_pass input bytes f entry (step_standing p) entry' long f (values_fit input bytes f entry (step_standing p));
        monitor = p.answered.moved;
        scratch = refl;
      });
  then_verdict = λ input bytes f g step entry entry' exit exit' grade turns answer long p some q. then_verdict p long some q;
  event_some = λ input bytes f g letter entry exit grade turns p.
      subst (λ (x : Monitor). ¬ (x.since ≡ no_value)) (sym p.answered.moved)
      (event_element (rule_good input bytes f entry (step_standing p)) f (values_fit input bytes f entry (step_standing p)) letter
      (let h : letters_of bytes ≤ letter → ⊥ = step_is_known p in omega arith));
}
