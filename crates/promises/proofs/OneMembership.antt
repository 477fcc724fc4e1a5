-- Two answers of the call for the same rule, lasso and scratch are one, and leave scratch alike. Assumes nothing.
use Prim.Native.Nat.{ℕ}
use mathlib.Core.Path.{◌≡◌, sym, ◌∙◌}
use mathlib.Core.List.{List}
use Rattle.theory.proofs.Gradings.{one_grade}
use Rattle.theory.proofs.IdempotentPowers.{one_turns}
use Rattle.answer.proofs.Order.{single_append, one_verdict}
use Rattle.formats.specs.RuleFile.{letters_of}
use Rattle.formats.proofs.OneVerdict.{checked_single}
use Rattle.formats.proofs.WordChecks.{lasso_single}
use Rattle.promises.specs.declared.LassoVerdict.{LassoVerdict}
use Rattle.promises.proofs.OneOutput.{one_decided}
use Rattle.promises.specs.Member.{MemberPromise}

module _ {bytes u v entry exit exit' : List ℕ} where
  pub one_answer : (answer answer' : LassoVerdict) → MemberPromise bytes u v entry exit answer → MemberPromise bytes u v entry exit' answer' → answer ≡ answer'
  one_answer answer answer' p q =
      one_decided _ _ (λ g g' a b. one_grade a b) (λ t t' a b. one_turns a b) answer answer' p.answered q.answered
      (one_verdict (single_append (checked_single 1 bytes entry) (lasso_single (letters_of bytes) u v)) p.refusal q.refusal)

  pub one_scratch : {answer answer' : LassoVerdict} → MemberPromise bytes u v entry exit answer → MemberPromise bytes u v entry exit' answer' → exit ≡ exit'
  one_scratch p q = p.scratch ∙ sym q.scratch
