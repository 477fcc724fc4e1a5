-- Two answers of the call for the same rule, monitor and scratch are one, and leave scratch alike. Assumes nothing.
use Prim.Native.Nat.{ℕ}
use mathlib.Core.Path.{◌≡◌, sym, ◌∙◌}
use mathlib.Core.List.{List}
use Rattle.answer.proofs.Order.{AllSingle, single_nil, single_at, single_cons, single_append, one_verdict}
use Rattle.theory.proofs.Gradings.{one_lassos_grade}
use Rattle.theory.proofs.IdempotentPowers.{one_exponent}
use Rattle.promises.specs.declared.Monitor.{Monitor}
use Rattle.promises.proofs.OneMove.{monitor_single}
use Rattle.promises.specs.declared.LassoVerdict.{LassoVerdict}
use Rattle.promises.proofs.OneOutput.{one_decided}
use Rattle.promises.specs.Verdict.{NoneAt, verdict_checks, VerdictPromise}
use Rattle.promises.specs.Weak.{WeakAt}

-- each check of a verdict fails at one place at most
pub verdict_single : (bytes : List ℕ) (f : Monitor) (entry : List ℕ) → AllSingle (verdict_checks bytes f entry)
verdict_single bytes f entry =
    single_append (monitor_single bytes f entry)
    (single_cons (single_at (λ place (a : NoneAt _ place). a.is_place)) (single_cons (single_at (λ place (a : WeakAt _ place). a.is_place)) single_nil))

module _ {bytes : List ℕ} {f : Monitor} {entry exit exit' : List ℕ} where
  pub one_answer : (answer answer' : LassoVerdict) → VerdictPromise bytes f entry exit answer → VerdictPromise bytes f entry exit' answer' → answer ≡ answer'
  one_answer answer answer' p q =
      one_decided _ _ (λ g g' a b. one_lassos_grade a b) (λ t t' a b. one_exponent a b) answer answer' p.answered q.answered
      (one_verdict (verdict_single bytes f entry) p.refusal q.refusal)

  pub one_scratch : {answer answer' : LassoVerdict} → VerdictPromise bytes f entry exit answer → VerdictPromise bytes f entry exit' answer' → exit ≡ exit'
  one_scratch p q = p.scratch ∙ sym q.scratch
