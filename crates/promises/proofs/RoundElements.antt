-- The bytes of a finished answer are the elements of the smallest rule: two elements have one byte exactly if their words have one value in every
-- reduction of the rule, and there is a reduction. Assumes nothing.
use Prim.Native.Nat.{ℕ, ◌<◌}
use mathlib.Core.Path.{◌≡◌, refl, sym, ap, ◌∙◌}
use mathlib.Core.Logic.{◌↔◌}
use mathlib.Core.Bool.{Bool, true}
use mathlib.Core.List.{List, [], ◌∷◌}
use native.Mathlib.Omega.{arith}
use lib.ListN.{length, drop, get_or, get_or-append}
use Rattle.answer.proofs.Order.{passed_first, passed_last, passes_head, passes_tail}
use Rattle.theory.specs.Rules.{Lawful, Rule}
use Rattle.theory.specs.Rounds.{Together, ElementsOfReductions}
use Rattle.theory.specs.Grades.{StrongMarking}
use Rattle.theory.proofs.Gradings.{one_lassos_grade}
use Rattle.minimality.proofs.Rounds.{together_sym, together_trans, together_carry, stable_carry}
use Rattle.minimality.proofs.Blocks.{equal_related, related_equal}
use Rattle.minimality.proofs.GradeOutcomes.{grading, grading_lassos}
use Rattle.minimality.proofs.ReducedElements.{stable_elements}
use Rattle.formats.specs.RuleFile.{elements_of, morphism_of, marking_of}
use Rattle.formats.specs.Calls.{checked_checks}
use Rattle.formats.proofs.GoodRule.{graded_marks, strong_of, GoodRule, called_good}
use Rattle.promises.specs.declared.Partition.TheVariants.{Blocks}
use Rattle.promises.specs.Weak.{weak_check}
use Rattle.promises.specs.Reduce.{rule_of}
use Rattle.promises.specs.Rounds.{limit_check, PartitionedTo, RoundsPromise}

-- a relation that agrees on the elements does as well
elements_carry : {r : Rule} {R S : ℕ → ℕ → Type 0} → ((s t : ℕ) → s < r.morphism.size → t < r.morphism.size → R s t ↔ S s t) → ElementsOfReductions r R → ElementsOfReductions r S
elements_carry agree k = record {
  reduced = k.reduced;
  reduction = k.reduction;
  related = λ x p s t hs ht. (λ y. (k.related x p s t hs ht).0 ((agree s t hs ht).1 y), λ y. (agree s t hs ht).0 ((k.related x p s t hs ht).1 y));
  reached = k.reached;
}

-- the rule of an answer that is no refusal passed its checks
pub partition_good : {bytes before after entry exit : List ℕ} {limit rounds : ℕ} {finished : Bool} → RoundsPromise bytes limit before after entry exit (Blocks rounds finished)
    → GoodRule bytes
partition_good {bytes} {entry = entry} {limit = limit} p =
    called_good 1 bytes entry (passed_first (checked_checks 1 bytes entry) (limit_check limit ∷ weak_check 1 bytes ∷ []) (passes_tail p.refusal))

module _ {bytes before after entry exit : List ℕ} {limit rounds : ℕ} (p : RoundsPromise bytes limit before after entry exit (Blocks rounds true)) where
  good : GoodRule bytes
  good = partition_good p

  strong : StrongMarking (morphism_of bytes) (marking_of bytes)
  strong =
      let not_weak = passes_head (passes_tail (passed_last (checked_checks 1 bytes entry) (limit_check limit ∷ weak_check 1 bytes ∷ []) (passes_tail p.refusal))) in
      strong_of good (λ weak. not_weak.nowhere 0 (record { weak = weak; is_place = refl }))

  answered : PartitionedTo bytes limit before after rounds true
  answered = p.answered

  agree : (s z : ℕ) → s < elements_of bytes → z < elements_of bytes → answered.grades s z ≡ grading (morphism_of bytes) (marking_of bytes) s z
  agree s z hs hz = one_lassos_grade (answered.graded.graded s z hs hz) (grading_lassos good.lawful good.reached (graded_marks good) strong hs hz)

  agree_back : (s z : ℕ) → s < elements_of bytes → z < elements_of bytes → grading (morphism_of bytes) (marking_of bytes) s z ≡ answered.grades s z
  agree_back s z hs hz = sym (agree s z hs hz)

  -- a byte that was written
  written : (s : ℕ) → s < elements_of bytes → get_or after s 0 ≡ get_or answered.blocks s 0
  written s h =
      ap (λ (l : List ℕ). get_or l s 0) answered.written.holds ∙ get_or-append answered.blocks (drop (length answered.blocks) before) 0 s (omega (arith, answered.least.count))

  one_byte : (s t : ℕ) → s < elements_of bytes → t < elements_of bytes
      → Together (morphism_of bytes) (grading (morphism_of bytes) (marking_of bytes)) rounds s t ↔ (get_or after s 0 ≡ get_or after t 0)
  one_byte s t hs ht =
      let m = morphism_of bytes in
      let both_ways = together_sym m answered.grades rounds in
      let on = together_trans m answered.grades rounds in (
        λ k. written s hs ∙ related_equal answered.least both_ways on s t hs ht (together_carry good.lawful agree_back rounds s t hs ht k) ∙ sym (written t ht),
        λ e. together_carry good.lawful agree rounds s t hs ht (equal_related answered.least both_ways on s t hs ht (sym (written s hs) ∙ e ∙ written t ht)),
      )

  pub finished_elements : (law : Lawful (morphism_of bytes)) → ElementsOfReductions (rule_of bytes law) (λ s t. get_or after s 0 ≡ get_or after t 0)
  finished_elements law =
      elements_carry one_byte
      (stable_elements (rule_of bytes law) good.reached (graded_marks good) strong (stable_carry good.lawful agree rounds (answered.stable.holds refl)))
