-- Two answers of the call for the same rules, map and scratch are one, and leave scratch alike. Assumes nothing.
use Prim.Native.Nat.{ℕ}
use mathlib.Core.Path.{◌≡◌, refl, sym, ◌∙◌}
use mathlib.Core.List.{List}
use Rattle.answer.proofs.Order.{AllSingle, single_nil, single_at, single_cons, single_append, one_verdict}
use Rattle.answer.proofs.Verdicts.{same_refusal, not_passed}
use Rattle.formats.proofs.OneVerdict.{rule_single, checked_single}
use Rattle.promises.specs.declared.Confirmation.{Confirmation}
use Rattle.promises.specs.declared.Confirmation.TheVariants.{Yes, No, Refused}
use Rattle.promises.specs.Weak.{WeakAt}
use Rattle.promises.specs.Confirm.{confirm_checks, confirmation_verdict, ConfirmationAnswer, ConfirmPromise}

pub confirm_single : (first second scratch : List ℕ) → AllSingle (confirm_checks first second scratch)
confirm_single first second scratch =
    single_append (checked_single 1 first scratch)
    (single_append (rule_single 2 second) (single_cons (single_at (λ place (a : WeakAt first place). a.is_place)) single_nil))

module _ {first second map entry exit exit' : List ℕ} where
  pub one_answer : (answer answer' : Confirmation) → ConfirmPromise first second map entry exit answer → ConfirmPromise first second map entry exit' answer' → answer ≡ answer'
  one_answer answer answer' p q = same answer answer' p.answered q.answered (one_verdict (confirm_single first second entry) p.refusal q.refusal)
    where
      same : (a b : Confirmation) → ConfirmationAnswer first second map a → ConfirmationAnswer first second map b → confirmation_verdict a ≡ confirmation_verdict b → a ≡ b
      same Yes Yes p q e = refl
      same Yes No p q e = absurd (q p)
      same Yes (Refused k i place) p q e = absurd (not_passed (sym e))
      same No Yes p q e = absurd (p q)
      same No No p q e = refl
      same No (Refused k i place) p q e = absurd (not_passed (sym e))
      same (Refused k i place) Yes p q e = absurd (not_passed e)
      same (Refused k i place) No p q e = absurd (not_passed e)
      same (Refused k i place) (Refused k' i' place') p q e = same_refusal Refused k k' i i' place place' e

  pub one_scratch : {answer answer' : Confirmation} → ConfirmPromise first second map entry exit answer → ConfirmPromise first second map entry exit' answer' → exit ≡ exit'
  one_scratch p q = p.scratch ∙ sym q.scratch
