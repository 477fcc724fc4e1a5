-- The promise of an event on a lent monitor fixes the answer, the monitor and the scratch. Assumes nothing.
use Prim.Native.Nat.{ℕ}
use mathlib.Core.Path.{◌≡◌, refl, sym, ◌∙◌}
use mathlib.Core.List.{List}
use Rattle.answer.proofs.Order.{one_verdict}
use Rattle.answer.proofs.Verdicts.{same_refusal, not_passed}
use Rattle.formats.specs.RuleFile.{morphism_of}
use Rattle.promises.specs.declared.Monitor.{Monitor}
use Rattle.promises.specs.Moves.{after_event}
use Rattle.promises.proofs.OneMove.{event_single}
use Rattle.promises.specs.declared.InPlaceAnswer.{InPlaceAnswer}
use Rattle.promises.specs.declared.InPlaceAnswer.TheVariants.{Done, Refused as Not-done}
use Rattle.promises.specs.InPlace.{in_place_verdict, Leaves, EventInPlace}

-- answers with one verdict, and what they leave of a lent monitor
same_told : (a b : InPlaceAnswer) → in_place_verdict a ≡ in_place_verdict b → a ≡ b
same_told Done Done e = refl
same_told Done (Not-done r i place) e = absurd (not_passed (sym e))
same_told (Not-done r i place) Done e = absurd (not_passed e)
same_told (Not-done r i place) (Not-done r' i' place') e = same_refusal Not-done r r' i i' place place' e

same_left : (f next : Monitor) (a b : InPlaceAnswer) {g h : Monitor} → Leaves f next g a → Leaves f next h b → in_place_verdict a ≡ in_place_verdict b → g ≡ h
same_left f next Done Done p q e = p ∙ sym q
same_left f next Done (Not-done r i place) p q e = absurd (not_passed (sym e))
same_left f next (Not-done r i place) Done p q e = absurd (not_passed e)
same_left f next (Not-done r i place) (Not-done r' i' place') p q e = p ∙ sym q

module _ {bytes : List ℕ} {f : Monitor} {letter : ℕ} {entry exit exit' : List ℕ} where
  pub one_told : {g h : Monitor} {answer answer' : InPlaceAnswer} → EventInPlace bytes f letter entry exit g answer → EventInPlace bytes f letter entry exit' h answer'
      → answer ≡ answer'
  one_told {answer = answer} {answer' = answer'} p q = same_told answer answer' (one_verdict (event_single bytes f letter entry) p.refusal q.refusal)

  pub one_left : {g h : Monitor} {answer answer' : InPlaceAnswer} → EventInPlace bytes f letter entry exit g answer → EventInPlace bytes f letter entry exit' h answer' → g ≡ h
  one_left {answer = answer} {answer' = answer'} p q =
      same_left f (after_event (morphism_of bytes) f letter) answer answer' p.monitor q.monitor
      (one_verdict (event_single bytes f letter entry) p.refusal q.refusal)

  pub one_told_scratch : {g h : Monitor} {answer answer' : InPlaceAnswer} → EventInPlace bytes f letter entry exit g answer → EventInPlace bytes f letter entry exit' h answer'
      → exit ≡ exit'
  one_told_scratch p q = p.scratch ∙ sym q.scratch
