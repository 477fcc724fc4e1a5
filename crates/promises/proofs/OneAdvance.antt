-- Two answers of a call for the same rule, monitor, step or word, and scratch are one, and leave scratch alike. Assumes nothing.
use Prim.Native.Nat.{ℕ}
use mathlib.Core.Path.{◌≡◌, sym, ap, ◌∙◌, subst}
use mathlib.Core.Logic.{by_cases}
use mathlib.Core.List.{List}
use native.Mathlib.Decide.{ℕ_discrete}
use Rattle.answer.proofs.Order.{AllSingle, single_nil, single_at, single_cons, single_append, one_verdict}
use Rattle.answer.proofs.Verdicts.{same_refusal, not_passed}
use Rattle.theory.proofs.Gradings.{one_lassos_grade}
use Rattle.theory.proofs.IdempotentPowers.{one_exponent}
use Rattle.formats.specs.RuleFile.{letters_of, morphism_of}
use Rattle.formats.proofs.OneVerdict.{checked_single}
use Rattle.promises.specs.declared.Monitor.{Monitor}
use Rattle.promises.specs.declared.Step.{Step}
use Rattle.promises.specs.declared.Advanced.{Advanced}
use Rattle.promises.specs.declared.Advanced.TheVariants.{To, Refused}
use Rattle.promises.specs.Monitor.{no_value, MonitorValueOutOfRangeAt}
use Rattle.promises.specs.Weak.{WeakAt}
use Rattle.promises.specs.EventWords.{after_word}
use Rattle.promises.specs.Advance.{after_step, MonitorGrade, MonitorTurns, strong_monitor_checks, advance_checks, advance_word_checks, advanced_verdict, AdvanceAnswer, AdvancePromise, AdvanceWordPromise}
use Rattle.promises.proofs.EventWords.{foreign_single, log_single}

-- each check of a call fails at one place at most
module _ (input : ℕ) (bytes : List ℕ) (f : Monitor) (entry : List ℕ) where
  strong_monitor_single : AllSingle (strong_monitor_checks input bytes f entry)
  strong_monitor_single =
      single_append (checked_single input bytes entry)
      (single_cons (single_at (λ place (a : MonitorValueOutOfRangeAt _ _ place). a.is_place)) (single_cons (single_at (λ place (a : WeakAt _ place). a.is_place)) single_nil))

  advance_single : (step : Step) → AllSingle (advance_checks input bytes f step entry)
  advance_single step = single_append strong_monitor_single (foreign_single input (letters_of bytes) step)

  advance_word_single : (w : List ℕ) → AllSingle (advance_word_checks input bytes f w entry)
  advance_word_single w = single_append strong_monitor_single (log_single input (letters_of bytes) w)

-- a monitor has one grade and one number of turns
one_monitor_grade : {bytes : List ℕ} {f : Monitor} {g h : ℕ} → MonitorGrade bytes f g → MonitorGrade bytes f h → g ≡ h
one_monitor_grade {f = f} p q =
    by_cases (ℕ_discrete f.since no_value) (λ e. p.without e ∙ sym (q.without e)) (λ s. one_lassos_grade (p.has_since s) (q.has_since s))

one_monitor_turns : {bytes : List ℕ} {f : Monitor} {t u : ℕ} → MonitorTurns bytes f t → MonitorTurns bytes f u → t ≡ u
one_monitor_turns {f = f} p q =
    by_cases (ℕ_discrete f.since no_value) (λ e. p.without e ∙ sym (q.without e)) (λ s. one_exponent (p.has_since s) (q.has_since s))

-- answers with one verdict that lead to one monitor or hand one back
same_advanced : (bytes : List ℕ) (f next : Monitor) (a b : Advanced) → AdvanceAnswer bytes f next a → AdvanceAnswer bytes f next b → advanced_verdict a ≡ advanced_verdict b → a ≡ b
same_advanced bytes f next (To g grade turns) (To h grade' turns') p q e =
    let moved = p.moved ∙ sym q.moved in
    let grades = one_monitor_grade (subst (λ (x : Monitor). MonitorGrade bytes x grade) moved p.graded) q.graded in
    let settled = one_monitor_turns (subst (λ (x : Monitor). MonitorTurns bytes x turns) moved p.settled) q.settled in
    λ i. To (moved i) (grades i) (settled i)
same_advanced bytes f next (To g grade turns) (Refused h r i place) p q e = absurd (not_passed (sym e))
same_advanced bytes f next (Refused g r i place) (To h grade turns) p q e = absurd (not_passed e)
same_advanced bytes f next (Refused g r i place) (Refused h r' i' place') p q e =
    same_refusal (Refused g) r r' i i' place place' e ∙ ap (λ (x : Monitor). Refused x r' i' place') (p ∙ sym q)

module _ {input : ℕ} {bytes : List ℕ} {f : Monitor} {entry exit exit' : List ℕ} where
  module _ {step : Step} where
    pub one_answer : (answer answer' : Advanced) → AdvancePromise input bytes f step entry exit answer → AdvancePromise input bytes f step entry exit' answer' → answer ≡ answer'
    one_answer answer answer' p q =
        same_advanced bytes f (after_step (morphism_of bytes) f step) answer answer' p.answered q.answered
        (one_verdict (advance_single input bytes f entry step) p.refusal q.refusal)

    pub one_scratch : {answer answer' : Advanced} → AdvancePromise input bytes f step entry exit answer → AdvancePromise input bytes f step entry exit' answer' → exit ≡ exit'
    one_scratch p q = p.scratch ∙ sym q.scratch

  module _ {w : List ℕ} where
    pub one_word_answer : (answer answer' : Advanced) → AdvanceWordPromise input bytes f w entry exit answer → AdvanceWordPromise input bytes f w entry exit' answer'
        → answer ≡ answer'
    one_word_answer answer answer' p q =
        same_advanced bytes f (after_word (morphism_of bytes) f w) answer answer' p.answered q.answered
        (one_verdict (advance_word_single input bytes f entry w) p.refusal q.refusal)

    pub one_word_scratch : {answer answer' : Advanced} → AdvanceWordPromise input bytes f w entry exit answer → AdvanceWordPromise input bytes f w entry exit' answer'
        → exit ≡ exit'
    one_word_scratch p q = p.scratch ∙ sym q.scratch
