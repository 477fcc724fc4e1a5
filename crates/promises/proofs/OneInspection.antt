-- Two answers of the call for the same rule and scratch are one, and leave scratch alike. Assumes nothing.
use Prim.Native.Nat.{ℕ}
use mathlib.Core.Path.{◌≡◌, sym, ◌∙◌}
use mathlib.Core.List.{List}
use Rattle.answer.proofs.Order.{one_verdict}
use Rattle.answer.proofs.Verdicts.{same_refusal, not_passed}
use Rattle.promises.specs.declared.Inspected.{Inspected}
use Rattle.promises.specs.declared.Inspected.TheVariants.{Rule as Inspected-rule, Refused as Inspected-refused}
use Rattle.promises.specs.Inspect.{inspected_verdict, InspectPromise}
use Rattle.formats.proofs.OneVerdict.{checked_single}

-- two inspections of the same bytes with the same scratch give one answer, and leave scratch alike
module _ {bytes entry exit exit' : List ℕ} where
  pub one_inspection : (answer answer' : Inspected) → InspectPromise bytes entry exit answer → InspectPromise bytes entry exit' answer' → answer ≡ answer'
  one_inspection answer answer' p q = same answer answer' p q (one_verdict (checked_single 1 bytes entry) p.refusal q.refusal)
    where
      same : (a b : Inspected) → InspectPromise bytes entry exit a → InspectPromise bytes entry exit' b → inspected_verdict a ≡ inspected_verdict b → a ≡ b
      same (Inspected-rule e l c) (Inspected-rule e' l' c') p q v =
          let s = p.values in
          let t = q.values in
          cc (s.elements_are, s.letters_are, s.marks_are, t.elements_are, t.letters_are, t.marks_are)
      same (Inspected-rule e l c) (Inspected-refused r i place) p q v = absurd (not_passed (sym v))
      same (Inspected-refused r i place) (Inspected-rule e l c) p q v = absurd (not_passed v)
      same (Inspected-refused r i place) (Inspected-refused r' i' place') p q v = same_refusal Inspected-refused r r' i i' place place' v

  pub one_scratch : {answer answer' : Inspected} → InspectPromise bytes entry exit answer → InspectPromise bytes entry exit' answer' → exit ≡ exit'
  one_scratch p q = p.scratch ∙ sym q.scratch
