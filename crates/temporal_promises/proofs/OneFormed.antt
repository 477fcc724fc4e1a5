-- Two answers by one list of checks are one, and leave out alike, where two rules that are what the call makes are written as one file. Assumes nothing.
use Prim.Native.Nat.{ℕ}
use mathlib.Core.Path.{◌≡◌, sym, ap, ◌∙◌}
use mathlib.Core.List.{List}
use Rattle.answer.specs.Checks.{Check, FirstFailure}
use Rattle.answer.proofs.Order.{AllSingle, one_verdict}
use Rattle.answer.proofs.Verdicts.{same_refusal, not_passed}
use Rattle.theory.specs.Rules.{Rule}
use Rattle.formats.specs.WrittenFile.{file_of}
use Rattle.formats.proofs.Front.{one_length, one_buffer}
use Rattle.promises.specs.declared.Written.{Written}
use Rattle.promises.specs.declared.Written.TheVariants.{Rule as Is-rule, Refused}
use Rattle.promises.specs.Answers.{written_verdict}
use Rattle.temporal_promises.specs.Formed.{FormedAnswer}

-- what a call makes is written as one file
pub record OneFile (Makes : Rule → Type 0) : Type 0 where
  pub same : (x y : Rule) → Makes x → Makes y → file_of y.morphism y.marks ≡ file_of x.morphism x.marks

module _ {Makes : Rule → Type 0} (o : OneFile Makes) (before after after' : List ℕ) where
  same_answer : (a b : Written) → FormedAnswer Makes before after a → FormedAnswer Makes before after' b → written_verdict a ≡ written_verdict b → (a ≡ b) × (after ≡ after')
  same_answer (Is-rule r) (Is-rule r') p q e =
      let file = o.same p.rule q.rule p.makes q.makes in
      (ap Is-rule (one_length p.written.front q.written.front file), one_buffer p.written.front q.written.front file)
  same_answer (Is-rule r) (Refused k i place) p q e = absurd (not_passed (sym e))
  same_answer (Refused k i place) (Is-rule r) p q e = absurd (not_passed e)
  same_answer (Refused k i place) (Refused k' i' place') p q e = (same_refusal Refused k k' i i' place place' e, p ∙ sym q)

  pub one_formed : {checks : List Check} → AllSingle checks → (a b : Written) → FirstFailure checks (written_verdict a) → FirstFailure checks (written_verdict b)
      → FormedAnswer Makes before after a → FormedAnswer Makes before after' b → (a ≡ b) × (after ≡ after')
  one_formed single a b f g p q = same_answer a b p q (one_verdict single f g)
