-- What the library's answer for a name makes of a pass, by the kind of the answer. Assumes nothing.
use Prim.Native.Nat.{ℕ}
use mathlib.Core.Path.{◌≡◌, sym, subst}
use Rattle.answer.specs.declared.Refusal.{Refusal}
use Rattle.answer.specs.declared.Refusal.TheVariants.{UnknownLetter}
use Rattle.answer.specs.Refusals.{number_of}
use Rattle.promises.specs.declared.Monitor.{Monitor}
use Rattle.promises.specs.declared.Advanced.{Advanced}
use Rattle.promises.specs.declared.Advanced.TheVariants.{To, Refused}
use Rattle.board_answers.specs.declared.Pass.{Pass}
use Rattle.board_answers.specs.Answers.{GradeCounted, FoundForeign, with_refusal, RefusalTold, Told}

module _ {answer : Advanced} (p r : Pass) where
  module _ (leaver i : ℕ) where
    pub told_to : {g : Monitor} {grade turns : ℕ} → answer ≡ To g grade turns → GradeCounted leaver i p g grade r → Told leaver i p answer r
    told_to e k = subst (λ (a : Advanced). Told leaver i p a r) (sym e) k

    pub told_refused : {g : Monitor} {refusal : Refusal} {input place : ℕ} → answer ≡ Refused g refusal input place → RefusalTold i p refusal input place r → Told leaver i p answer r
    told_refused e k = subst (λ (a : Advanced). Told leaver i p a r) (sym e) k

-- a number that is 10, and another
pub ten_told : {i : ℕ} {p r : Pass} {refusal : Refusal} {input place : ℕ} → number_of refusal ≡ number_of UnknownLetter → FoundForeign i p r → RefusalTold i p refusal input place r
ten_told e k = record { foreign = λ ten. k; other = λ not. absurd (not e) }

pub other_told : {i : ℕ} {p r : Pass} {refusal : Refusal} {input place : ℕ} → (number_of refusal ≡ number_of UnknownLetter → ⊥) → r ≡ with_refusal p refusal input place
    → RefusalTold i p refusal input place r
other_told not k = record { foreign = λ ten. absurd (not ten); other = λ given. k }
