-- Two answers of the call for the same rule and buffers are one, and leave work and scratch alike. Assumes nothing.
use Prim.Native.Nat.{ℕ, ◌≤◌}
use native.Mathlib.Omega.{arith}
use mathlib.Core.Path.{◌≡◌, refl, sym, ap, ◌∙◌}
use mathlib.Core.Bool.{Bool, true, false}
use mathlib.Core.List.{List}
use Rattle.answer.proofs.Order.{AllSingle, one_verdict}
use Rattle.answer.proofs.Verdicts.{same_refusal, not_passed}
use Rattle.theory.proofs.TableTests.{counts_same}
use Rattle.formats.proofs.Buffers.{buffer_single}
use Rattle.formats.proofs.OneVerdict.{checked_single}
use Rattle.theory.proofs.SameGrades.{reductions_grades}
use Rattle.promises.proofs.SameReductions.{same_rule}
use Rattle.promises.specs.declared.Summary.{Summary}
use Rattle.promises.specs.declared.Summary.TheVariants.{Counts, Refused}
use Rattle.promises.specs.Summary.{summary_checks, summary_verdict, StrongReduced, ReducesTo, SummaryCounts, SummaryAnswer, work_after, SummaryPromise}

summary_single : (bytes work scratch : List ℕ) → AllSingle (summary_checks bytes work scratch)
summary_single bytes work scratch = buffer_single (checked_single 1 bytes scratch)

-- each is the smallest, so they have as many elements
size_below : {bytes : List ℕ} {n n' : ℕ} → StrongReduced bytes n → StrongReduced bytes n' → n ≤ n'
size_below {bytes} p q =
    let h = p.reduction.smallest.at_least q.rule q.reduction.smallest.strong (reductions_grades (same_rule bytes) p.reduction q.reduction) in
    omega (arith, h, p.size, q.size)

-- strength and the reduced size are the rule's
pub record SameSize (strong strong' : Bool) (reduced reduced' : ℕ) : Type 0 where
  pub strength : strong ≡ strong'
  pub size : reduced ≡ reduced'

reduces_same : (bytes : List ℕ) (strong strong' : Bool) {reduced reduced' : ℕ} → ReducesTo bytes strong reduced → ReducesTo bytes strong' reduced' → SameSize strong strong' reduced reduced'
reduces_same bytes true true p q = record { strength = refl; size = omega (arith, size_below p q, size_below q p) }
reduces_same bytes true false p q = absurd (q.0 p.strong)
reduces_same bytes false true p q = absurd (p.0 q.strong)
reduces_same bytes false false p q = record { strength = refl; size = p.1 ∙ sym q.1 }

-- all counts are the rule's
summary_same : {bytes : List ℕ} {elements letters marks linked classes reduced elements' letters' marks' linked' classes' reduced' : ℕ} {strong strong' : Bool}
    → SummaryCounts bytes elements letters marks linked classes strong reduced → SummaryCounts bytes elements' letters' marks' linked' classes' strong' reduced'
    → Counts elements letters marks linked classes strong reduced ≡ Counts elements' letters' marks' linked' classes' strong' reduced'
summary_same {bytes = bytes} {strong = strong} {strong' = strong'} p q =
    let s = p.counts in
    let t = q.counts in
    let k = counts_same p.class_counts q.class_counts in
    let r = reduces_same bytes strong strong' p.reduces q.reduces in
    cc (s.elements_are, s.letters_are, s.marks_are, t.elements_are, t.letters_are, t.marks_are, k.0, k.1, r.strength, r.size)

module _ {bytes before after after' entry exit exit' : List ℕ} where
  pub one_answer : (answer answer' : Summary) → SummaryPromise bytes before after entry exit answer → SummaryPromise bytes before after' entry exit' answer' → answer ≡ answer'
  one_answer answer answer' p q = same answer answer' p.answered q.answered (one_verdict (summary_single bytes before entry) p.refusal q.refusal)
    where
      same : (a b : Summary) → SummaryAnswer bytes a → SummaryAnswer bytes b → summary_verdict a ≡ summary_verdict b → a ≡ b
      same (Counts n k c l d s r) (Counts n' k' c' l' d' s' r') p q e = summary_same p q
      same (Counts n k c l d s r) (Refused refusal input place) p q e = absurd (not_passed (sym e))
      same (Refused refusal input place) (Counts n k c l d s r) p q e = absurd (not_passed e)
      same (Refused r i place) (Refused r' i' place') p q e = same_refusal Refused r r' i i' place place' e

  pub one_work : (answer answer' : Summary) → SummaryPromise bytes before after entry exit answer → SummaryPromise bytes before after' entry exit' answer' → after ≡ after'
  one_work answer answer' p q = p.work ∙ ap (work_after before) (one_answer answer answer' p q) ∙ sym q.work

  pub one_scratch : {answer answer' : Summary} → SummaryPromise bytes before after entry exit answer → SummaryPromise bytes before after' entry exit' answer' → exit ≡ exit'
  one_scratch p q = p.scratch ∙ sym q.scratch
