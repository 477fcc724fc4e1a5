-- The theorem on `feed`: where the rule and the monitor pass for one call they pass for the other, and the letters decide what is left. Assumes nothing.
use Prim.Native.Nat.{ℕ, ◌≤◌, ◌<◌}
use mathlib.Core.Path.{◌≡◌, refl, sym, ap, ◌∙◌, subst}
use mathlib.Core.List.{List, [], ◌∷◌}
use native.Mathlib.Omega.{arith}
use lib.ListN.{length}
use Rattle.answer.specs.declared.Refusal.{Refusal}
use Rattle.answer.specs.Checks.{passed, FirstFailure}
use Rattle.answer.proofs.Order.{first_passes, none_left, passed_before, passed_first, passed_last, passes_head, passes_tail}
use Rattle.answer.proofs.Verdicts.{not_passed}
use Rattle.theory.specs.Words.{over_nil}
use Rattle.formats.specs.RuleFile.{letters_of, morphism_of}
use Rattle.formats.specs.RuleChecks.{scratch_size}
use Rattle.formats.specs.Calls.{checked_checks}
use Rattle.formats.proofs.Buffers.{buffer_long}
use Rattle.formats.proofs.GoodRule.{GoodRule, called_good}
use Rattle.promises.specs.declared.Monitor.{Monitor}
use Rattle.promises.specs.declared.Moved.{Moved}
use Rattle.promises.specs.declared.Moved.TheVariants.{To, Refused}
use Rattle.promises.specs.declared.Step.TheVariants.{Event}
use Rattle.promises.specs.declared.Advanced.TheVariants.{To as Advanced-to}
use Rattle.promises.specs.Monitor.{monitor_checks}
use Rattle.promises.specs.Moves.{moved_verdict, HandsBack, EventPromise, MarkPromise}
use Rattle.promises.specs.EventWords.{longest_log, log_checks, after_word}
use Rattle.promises.specs.Advance.{strong_monitor_checks, AdvanceWordPromise}
use Rattle.promises.specs.Feed.{FeedPromise}
use Rattle.promises.specs.FeedTheorem.{fed_behind, FeedTheorem}
use Rattle.promises.proofs.CheckParts.{behind_same, behind_passed, rule_as}
use Rattle.promises.proofs.EventWords.{log_passes, log_as, behind_verdict, letter_refused, letter_passes}
use Rattle.promises.proofs.MonitorOrder.{Stray}
use Rattle.promises.proofs.MonitorGoods.{step_fits}
use Rattle.promises.proofs.OneFeed.{one_feed}

-- what a rule and a monitor that passed with one scratch are known to be, and that they pass with another that is long enough
module _ (bytes : List ℕ) (f : Monitor) (entry : List ℕ) (all : FirstFailure (monitor_checks bytes f entry) passed) where
  rule_good : GoodRule bytes
  rule_good = called_good 1 bytes entry (passed_first (checked_checks 1 bytes entry) _ all)

  values_fit : ¬ Stray bytes f
  values_fit stray = (passes_head (passed_last (checked_checks 1 bytes entry) _ all)).nowhere 0 (record { stray = stray; is_place = refl })

  monitor_passes : (entry' : List ℕ) → scratch_size ≤ length entry' → (g : Monitor) → ¬ Stray bytes g → FirstFailure (monitor_checks bytes g entry') passed
  monitor_passes entry' long g fits =
      passed_before (checked_checks 1 bytes entry') _ (buffer_long long (passes_tail (passed_first (checked_checks 1 bytes entry) _ all)))
      (first_passes (record { nowhere = λ place a. fits a.stray }) none_left)

-- the empty word
no_letters : {bytes : List ℕ} {f g : Monitor} {entry exit exit' : List ℕ} {answer : Moved} → MarkPromise bytes f entry exit (To g) → FeedPromise bytes f [] entry exit' answer
    → answer ≡ To f
unfolding after_word
no_letters {bytes} {f} {entry = entry} p q =
    one_feed q (record {
      refusal = passed_before (monitor_checks bytes f entry) _ p.refusal (log_passes 1 (letters_of bytes) [] (omega arith) over_nil);
      monitor = refl;
      scratch = refl;
    })

-- a first letter that is refused
module _ (bytes : List ℕ) (f : Monitor) (letter : ℕ) (w entry : List ℕ) (short : length (letter ∷ w) ≤ longest_log) where
  first_refused : {g : Monitor} {exit exit' : List ℕ} {r : Refusal} {i place : ℕ} {answer : Moved} → EventPromise bytes f letter entry exit (Refused g r i place)
      → FeedPromise bytes f (letter ∷ w) entry exit' answer → answer ≡ Refused f r i place
  first_refused {r = r} {i = i} {place = place} p q =
      one_feed {answer' = Refused f r i place} q (record {
        refusal = behind_same (monitor_checks bytes f entry) _ _ (letter_refused 1 (letters_of bytes) letter w short not_passed) p.refusal;
        monitor = refl;
        scratch = refl;
      })

-- a first letter that passes
same_verdict : (f : Monitor) (rest : Moved) → behind_verdict (moved_verdict rest) ≡ moved_verdict (fed_behind f rest)
same_verdict f (To g) = refl
same_verdict f (Refused g r i place) = refl

module _ {bytes : List ℕ} {f h : Monitor} {letter : ℕ} {entry exit : List ℕ} (w : List ℕ) (short : length (letter ∷ w) ≤ longest_log) (p : EventPromise bytes f letter entry exit (To h)) where
  event_monitor : FirstFailure (monitor_checks bytes f entry) passed
  event_monitor = passed_first (monitor_checks bytes f entry) _ p.refusal

  letter_known : letter < letters_of bytes
  letter_known =
      let not : letters_of bytes ≤ letter → ⊥ = λ foreign. (passes_head (passed_last (monitor_checks bytes f entry) _ p.refusal)).nowhere 0 (record { foreign = foreign; is_place = refl }) in
      omega arith

  moved_fits : ¬ Stray bytes h
  moved_fits =
      subst (λ (x : Monitor). ¬ Stray bytes x) (sym p.monitor)
      (step_fits (rule_good bytes f entry event_monitor) f (values_fit bytes f entry event_monitor) (Event letter) (λ foreign. let known = letter_known in omega (arith, foreign)))

  behind_monitor : (rest : Moved) → HandsBack h (after_word (morphism_of bytes) h w) rest → HandsBack f (after_word (morphism_of bytes) f (letter ∷ w)) (fed_behind f rest)
  unfolding after_word
  behind_monitor (To g) a = a ∙ ap (λ (x : Monitor). after_word (morphism_of bytes) x w) p.monitor
  behind_monitor (Refused g r i place) a = refl

  first_passed : {entry' entry'' exit' exit'' : List ℕ} {answer rest : Moved} → scratch_size ≤ length entry' → scratch_size ≤ length entry'' → FeedPromise bytes h w entry' exit' rest
      → FeedPromise bytes f (letter ∷ w) entry'' exit'' answer → answer ≡ fed_behind f rest
  first_passed {entry'} {entry''} {answer = answer} {rest = rest} long' long'' q whole =
      one_feed {answer' = fed_behind f rest} whole (record {
        refusal =
            passed_before (monitor_checks bytes f entry'') _
            (monitor_passes bytes f entry event_monitor entry'' long'' f (values_fit bytes f entry event_monitor))
            (subst (FirstFailure (log_checks 1 (letters_of bytes) (letter ∷ w))) (same_verdict f rest)
            (letter_passes 1 (letters_of bytes) letter w short letter_known (moved_verdict rest)
            (behind_passed (monitor_checks bytes h entry') _ (monitor_passes bytes f entry event_monitor entry' long' h moved_fits) q.refusal)));
        monitor = behind_monitor rest q.monitor;
        scratch = refl;
      })

-- a word that was taken with a grade
without_grade : {input : ℕ} {bytes : List ℕ} {f g : Monitor} {w entry entry' exit exit' : List ℕ} {grade turns : ℕ} {answer : Moved} → scratch_size ≤ length entry'
    → AdvanceWordPromise input bytes f w entry exit (Advanced-to g grade turns) → FeedPromise bytes f w entry' exit' answer → answer ≡ To g
without_grade {input} {bytes} {f} {g} {w} {entry} {entry'} long p q =
    let standing = passed_first (strong_monitor_checks input bytes f entry) _ p.refusal in
    let rule = passed_first (checked_checks input bytes entry) _ standing in
    let value = passes_head (passed_last (checked_checks input bytes entry) _ standing) in
    one_feed {answer' = To g} q (record {
      refusal =
          passed_before (monitor_checks bytes f entry') _
          (passed_before (checked_checks 1 bytes entry') _ (buffer_long long (rule_as input 1 bytes (passes_tail rule)))
          (first_passes (record { nowhere = value.nowhere }) none_left))
          (log_as input (letters_of bytes) w 1 (passed_last (strong_monitor_checks input bytes f entry) _ p.refusal));
      monitor = p.answered.moved;
      scratch = refl;
    })

pub feed_theorem : FeedTheorem
feed_theorem = record {
  no_letters = λ bytes f g entry exit exit' answer p q. no_letters p q;
  first_refused = λ bytes f g letter w entry exit exit' refusal i place answer short p q. first_refused bytes f letter w entry short p q;
  first_passed = λ bytes f h letter w entry entry' entry'' exit exit' exit'' answer rest short long' long'' p q whole. first_passed w short p long' long'' q whole;
  without_grade = λ input bytes f g w entry entry' exit exit' grade turns answer long p q. without_grade long p q;
}
