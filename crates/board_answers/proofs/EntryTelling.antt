-- What the library's answer for the file that enters makes of a pass, by the kind of the answer. Assumes nothing.
use Prim.Native.Nat.{ℕ}
use mathlib.Core.Path.{◌≡◌, sym, subst}
use Rattle.answer.specs.declared.Refusal.{Refusal}
use Rattle.promises.specs.declared.Monitor.{Monitor}
use Rattle.promises.specs.declared.Advanced.{Advanced}
use Rattle.promises.specs.declared.Advanced.TheVariants.{To, Refused}
use Rattle.board_answers.specs.declared.Pass.{Pass}
use Rattle.board_answers.specs.Answers.{with_refusal, EntryTold}

module _ {answer : Advanced} (p r : Pass) where
  pub entry_to : {g : Monitor} {grade turns : ℕ} → answer ≡ To g grade turns → r ≡ p → EntryTold p answer r
  entry_to e k = subst (λ (a : Advanced). EntryTold p a r) (sym e) k

  pub entry_refused : {g : Monitor} {refusal : Refusal} {input place : ℕ} → answer ≡ Refused g refusal input place → r ≡ with_refusal p refusal input place → EntryTold p answer r
  entry_refused e k = subst (λ (a : Advanced). EntryTold p a r) (sym e) k
