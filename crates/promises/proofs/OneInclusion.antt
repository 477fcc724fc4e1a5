-- Two answers of the call for the same rule, second marks section and buffers are one as far as they are fixed: two answers of no
-- may have different witnesses; else the answers and the bytes of u and v are equal. Scratch is left alike. Assumes nothing.
use Prim.Native.Nat.{ℕ}
use mathlib.Core.Path.{◌≡◌, refl, sym, ◌∙◌}
use mathlib.Core.List.{List}
use Rattle.answer.proofs.Order.{AllSingle, single_at, single_cons, single_append, one_verdict}
use Rattle.answer.proofs.Verdicts.{same_refusal, not_passed}
use Rattle.theory.specs.Rules.{Morphism, Marking}
use Rattle.theory.specs.Inclusion.{IncludedGrades, HigherGraded}
use Rattle.formats.proofs.Sections.{section_single}
use Rattle.formats.specs.RuleFile.{morphism_of, marking_of}
use Rattle.formats.proofs.Buffers.{buffer_single}
use Rattle.formats.specs.RuleChecks.{TrailingAt, second_marks_checks}
use Rattle.formats.proofs.OneVerdict.{marks_single, checked_single}
use Rattle.promises.specs.declared.Inclusion.{Inclusion}
use Rattle.promises.specs.declared.Inclusion.TheVariants.{Included as Is-included, NotIncluded, Refused}
use Rattle.promises.specs.OneAnswers.{Agree, agree, both_apart}
use Rattle.promises.specs.Inclusion.{InclusionAnswer, inclusion_checks, second_marking, inclusion_verdict, InclusionPromise}

-- each check of a second marks section fails at one place at most
second_single : (input : ℕ) (rule bytes : List ℕ) → AllSingle (second_marks_checks input rule bytes)
unfolding second_marks_checks
second_single input rule bytes =
    single_append (section_single _ input 0 bytes)
    (single_cons (single_at (λ place (a : TrailingAt _ _ place). a.is_place)) (marks_single input (morphism_of rule) bytes 0 0 _))

inclusion_single : (bytes second u v entry : List ℕ) → AllSingle (inclusion_checks bytes second u v entry)
inclusion_single bytes second u v entry =
    buffer_single
    (buffer_single (single_append (checked_single 1 bytes entry) (second_single 2 bytes second)))

-- no lasso is graded higher by a marking that the other includes
pub included_or_not : {m : Morphism} {marks marks' : Marking} {u v : List ℕ} → IncludedGrades m marks marks' → HigherGraded m marks marks' u v → ⊥
included_or_not {u = u} {v = v} a h =
    let w = h.witness in
    w.refused_second ((a.at_each h.least h.some).accepted_too u v w.lasso w.accepted_first)

module _ {bytes second u-entry u-exit u-exit' v-entry v-exit v-exit' entry exit exit' : List ℕ} where
  pub one_answer : (answer answer' : Inclusion) → InclusionPromise bytes second u-entry u-exit v-entry v-exit entry exit answer
      → InclusionPromise bytes second u-entry u-exit' v-entry v-exit' entry exit' answer' → Agree u-exit u-exit' v-exit v-exit' answer answer'
  one_answer answer answer' p q =
      same answer answer' p.answered q.answered (one_verdict (inclusion_single bytes second u-entry v-entry entry) p.refusal q.refusal)
    where
      same : (a b : Inclusion) → InclusionAnswer (morphism_of bytes) (marking_of bytes) (second_marking second) u-entry u-exit v-entry v-exit a
          → InclusionAnswer (morphism_of bytes) (marking_of bytes) (second_marking second) u-entry u-exit' v-entry v-exit' b
          → inclusion_verdict a ≡ inclusion_verdict b → Agree u-exit u-exit' v-exit v-exit' a b
      same Is-included Is-included p q e = agree refl (p.start_kept ∙ sym q.start_kept) (p.cycle_kept ∙ sym q.cycle_kept)
      same (NotIncluded u v) (NotIncluded u' v') p q e = both_apart
      same Is-included (NotIncluded u v) p q e = absurd (included_or_not p.included q.witness)
      same (NotIncluded u v) Is-included p q e = absurd (included_or_not q.included p.witness)
      same Is-included (Refused r i place) p q e = absurd (not_passed (sym e))
      same (NotIncluded u v) (Refused r i place) p q e = absurd (not_passed (sym e))
      same (Refused r i place) Is-included p q e = absurd (not_passed e)
      same (Refused r i place) (NotIncluded u v) p q e = absurd (not_passed e)
      same (Refused r i place) (Refused r' i' place') p q e =
          agree (same_refusal Refused r r' i i' place place' e) (p.start_kept ∙ sym q.start_kept) (p.cycle_kept ∙ sym q.cycle_kept)

  pub one_scratch : {answer answer' : Inclusion} → InclusionPromise bytes second u-entry u-exit v-entry v-exit entry exit answer
      → InclusionPromise bytes second u-entry u-exit' v-entry v-exit' entry exit' answer' → exit ≡ exit'
  one_scratch p q = p.scratch ∙ sym q.scratch
