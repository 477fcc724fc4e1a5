-- Two answers of the call for the same rule and scratch are one, and leave scratch alike. Assumes nothing.
use Prim.Native.Nat.{ℕ}
use mathlib.Core.Path.{◌≡◌, refl, sym, ◌∙◌}
use mathlib.Core.List.{List, [], ◌∷◌, ◌++◌}
use Rattle.answer.proofs.Order.{AllSingle, single_nil, single_at, single_cons, single_append, one_verdict}
use Rattle.answer.proofs.Verdicts.{same_refusal, not_passed}
use Rattle.formats.specs.RuleChecks.{buffer_check}
use Rattle.formats.proofs.Buffers.{buffer_single}
use Rattle.formats.specs.Calls.{checked_checks}
use Rattle.formats.proofs.OneVerdict.{checked_single}
use Rattle.promises.specs.Weak.{WeakAt, weak_check}
use Rattle.promises.specs.declared.Strength.{Strength}
use Rattle.promises.specs.declared.Strength.TheVariants.{Strong, Weak, Refused}
use Rattle.promises.specs.Strong.{strength_verdict, StrengthAnswer, StrongPromise}

-- each check of a call that asks for a strong rule fails at one place at most
pub checked_strong_single : (bytes scratch : List ℕ) → AllSingle (checked_checks 1 bytes scratch ++ (weak_check 1 bytes ∷ []))
checked_strong_single bytes scratch = single_append (checked_single 1 bytes scratch) (single_cons (single_at (λ place (a : WeakAt bytes place). a.is_place)) single_nil)

-- and where it needs another buffer
pub strong_rule_single : (needed : ℕ) (buffer bytes scratch : List ℕ) → AllSingle (buffer_check needed buffer ∷ (checked_checks 1 bytes scratch ++ (weak_check 1 bytes ∷ [])))
strong_rule_single needed buffer bytes scratch = buffer_single (checked_strong_single bytes scratch)

module _ {bytes entry exit exit' : List ℕ} where
  pub one_answer : (answer answer' : Strength) → StrongPromise bytes entry exit answer → StrongPromise bytes entry exit' answer' → answer ≡ answer'
  one_answer answer answer' p q = same answer answer' p.answered q.answered (one_verdict (checked_single 1 bytes entry) p.refusal q.refusal)
    where
      same : (a b : Strength) → StrengthAnswer bytes a → StrengthAnswer bytes b → strength_verdict a ≡ strength_verdict b → a ≡ b
      same Strong Strong p q e = refl
      same Weak Weak p q e = refl
      same Strong Weak p q e = absurd (q p)
      same Weak Strong p q e = absurd (p q)
      same Strong (Refused r i place) p q e = absurd (not_passed (sym e))
      same Weak (Refused r i place) p q e = absurd (not_passed (sym e))
      same (Refused r i place) Strong p q e = absurd (not_passed e)
      same (Refused r i place) Weak p q e = absurd (not_passed e)
      same (Refused r i place) (Refused r' i' place') p q e = same_refusal Refused r r' i i' place place' e

  pub one_scratch : {answer answer' : Strength} → StrongPromise bytes entry exit answer → StrongPromise bytes entry exit' answer' → exit ≡ exit'
  one_scratch p q = p.scratch ∙ sym q.scratch
