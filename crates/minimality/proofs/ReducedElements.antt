-- The blocks of a stable round of a strong rule are the elements of its reduction, whichever reduction is taken: each is a renumbering of the rule
-- whose elements are the blocks. Assumes nothing.
use Prim.Native.Nat.{ℕ, ◌<◌}
use mathlib.Core.Path.{◌≡◌, sym, ap, subst, ◌∙◌}
use mathlib.Core.Logic.{◌↔◌}
use mathlib.Core.List.{List}
use lib.ListN.{length}
use Rattle.theory.specs.Words.{Over}
use Rattle.theory.specs.Rules.{Rule, element, value, AllReached}
use Rattle.theory.specs.Rounds.{Together, Stable, OneValueIn, ElementsOfReductions}
use Rattle.theory.specs.Grades.{RuleStrong}
use Rattle.theory.specs.Smallest.{Renumbered, Reduction}
use Rattle.theory.proofs.Gradings.{GradedMarks}
use Rattle.theory.proofs.Values.{element_same}
use Rattle.theory.proofs.SameGrades.{same_self, same_back, same_on, reductions_size}
use Rattle.theory.proofs.Carried.{renamed, values_back, values_on, value_back}
use Rattle.minimality.proofs.Congruence.{Congruence, stable_congruence}
use Rattle.minimality.proofs.Quotient.{quotient_value}
use Rattle.minimality.proofs.Numbering.{Leaders, least_leaders, least_leaders_lem, number_same, same_block, numbering_of_leaders}
use Rattle.minimality.proofs.GradeOutcomes.{grading}
use Rattle.minimality.proofs.Reductions.{RuleNumbering, reduced_rule, reduced_reached, reduction_right}

module _ (r : Rule) (reached : AllReached r.morphism) (good : GradedMarks r.morphism r.marks) (strong : RuleStrong r)
    {i : ℕ} (stable : Stable r.morphism (grading r.morphism r.marks) i) where
  abbrev together : ℕ → ℕ → Type 0
  together = Together r.morphism (grading r.morphism r.marks) i

  congruence : Congruence r.morphism (grading r.morphism r.marks) together
  congruence = stable_congruence r.lawful (grading r.morphism r.marks) i stable reached

  leaders : Leaders r.morphism together (least_leaders r.morphism (grading r.morphism r.marks) i)
  leaders = least_leaders_lem r.morphism (grading r.morphism r.marks) i

  abbrev numbering : RuleNumbering r (length (least_leaders r.morphism (grading r.morphism r.marks) i))
  numbering = numbering_of_leaders r.lawful congruence leaders

  -- the rule whose elements are the blocks
  abbrev ours : Rule
  ours = reduced_rule r numbering

  our_reduction : Reduction r ours
  our_reduction = reduction_right r reached good strong numbering

  -- a word's value there is the number of the block of its value
  block_value : {w : List ℕ} {s : ℕ} → Over r.morphism.letters w → value r.morphism w ≡ element s → value ours.morphism w ≡ element (numbering.number s)
  unfolding reduced_rule renamed
  block_value o e = quotient_value r.lawful numbering o ∙ ap (renamed numbering.number) e

  related_ours : (s t : ℕ) → s < r.morphism.size → t < r.morphism.size → together s t → OneValueIn r.morphism ours.morphism s t
  unfolding numbering_of_leaders
  related_ours s t hs ht k = record {
    one = λ u w ou ow eu ew. block_value ou eu ∙ ap element (number_same r.lawful congruence leaders s t hs ht k) ∙ sym (block_value ow ew);
  }

  ours_related : (s t : ℕ) → s < r.morphism.size → t < r.morphism.size → OneValueIn r.morphism ours.morphism s t → together s t
  unfolding numbering_of_leaders
  ours_related s t hs ht k =
      let u = reached.word_of s hs in
      let w = reached.word_of t ht in
      same_block r.lawful congruence leaders s t hs ht
      (element_same (sym (block_value u.over u.its_value) ∙ k.one u.word w.word u.over w.over u.its_value w.its_value ∙ block_value w.over w.its_value))

  -- any reduction
  module _ (x : Rule) (p : Reduction r x) where
    renumbered : Renumbered x.morphism ours.morphism
    renumbered =
        our_reduction.smallest.copy x p.smallest.strong (same_on (same_back our_reduction.same) p.same)
        (reductions_size (same_self r) p our_reduction)

    over_there : {w : List ℕ} → Over r.morphism.letters w → Over x.morphism.letters w
    over_there {w} o = subst (λ (k : ℕ). Over k w) p.same.same_letters o

    elements_related : (s t : ℕ) → s < r.morphism.size → t < r.morphism.size → together s t ↔ OneValueIn r.morphism x.morphism s t
    elements_related s t hs ht = (
      λ k. record { one = λ u w ou ow eu ew. values_back x.lawful renumbered (over_there ou) (over_there ow) ((related_ours s t hs ht k).one u w ou ow eu ew) },
      λ k. ours_related s t hs ht (record { one = λ u w ou ow eu ew. values_on x.lawful renumbered (over_there ou) (over_there ow) (k.one u w ou ow eu ew) }),
    )

    elements_reached : AllReached x.morphism
    elements_reached = record {
      word_of = λ a h.
          let w = (reduced_reached r reached good strong numbering).word_of (renumbered.to a) (renumbered.inside a h) in
          let o = subst (λ (k : ℕ). Over k w.word) (sym renumbered.same_letters) w.over in
          record { word = w.word; over = o; its_value = value_back x.lawful renumbered h o w.its_value };
    }

  pub stable_elements : ElementsOfReductions r together
  stable_elements = record { reduced = ours; reduction = our_reduction; related = elements_related; reached = elements_reached }
