-- Reduction of a strong rule: whichever way its blocks are numbered, the rule whose elements are the blocks gives each lasso its grade,
-- and is the smallest that does among the strong rules of any finite size. Assumes nothing.
use Prim.Native.Nat.{ℕ, ◌≤◌}
use mathlib.Core.Path.{◌≡◌, refl, sym, subst, ◌∙◌}
use mathlib.Core.Logic.{◌↔◌}
use mathlib.Core.List.{List}
use Rattle.finite.proofs.Highest.{same_above}
use Rattle.theory.specs.Words.{Lasso}
use Rattle.theory.specs.Rules.{Morphism, Rule, value, level, AllReached}
use Rattle.theory.specs.Pairs.{LinkedOnly}
use Rattle.theory.specs.Grades.{AtLeast, RuleStrong}
use Rattle.theory.specs.Smallest.{SameGrades, Smallest, Reduction}
use Rattle.theory.proofs.Gradings.{GradedMarks}
use Rattle.minimality.proofs.Smallest.{outcome, Factors, Syntactic, smallest_size, smallest_copy}
use Rattle.minimality.proofs.Quotient.{Numbering, quotient, quotient_acc, quotient_lawful, quotient_reached, quotient_outcome, quotient_syntactic}
use Rattle.minimality.proofs.Saturation.{DependsOnWord, GradesAreOutcomes, saturated, Saturates, saturates_marking}
use Rattle.minimality.proofs.GradeOutcomes.{grading, grading_outcome, grading_depends, outcomes_same}

-- c numbered blocks of the rule's elements, with the grade for the outcome
abbrev pub RuleNumbering : Rule → ℕ → Type 0
RuleNumbering r c = Numbering r.morphism (grading r.morphism r.marks) c

-- the rule whose elements are the blocks, every linked pair of them marked with the grade of its lassos
unfoldable pub reduced_rule : {c : ℕ} (r : Rule) → RuleNumbering r c → Rule
reduced_rule r b = record {
  morphism = quotient b;
  lawful = quotient_lawful r.lawful b;
  marks = saturated (quotient b) (quotient_acc b);
}

-- a strong rule that has the outcomes for its grades decides them by its values; nothing is asked of the numbers that it marks with
pub strong_factors : {m : Morphism} {acc : ℕ → ℕ → ℕ} (rival : Rule) → RuleStrong rival → m.letters ≡ rival.morphism.letters
    → ((g : ℕ) → 1 ≤ g → (u v : List ℕ) → Lasso m.letters u v → (g ≤ outcome m acc u v) ↔ AtLeast rival.morphism rival.marks g u v)
    → Factors m acc rival.morphism
strong_factors {m} {acc} rival strong letters accepted = record {
  equal_outcomes = λ u v u' v' l l' p q. same_above (λ g some. (moved g some u v u' v' l l' p q, moved g some u' v' u v l' l (sym p) (sym q)));
}
  where
    for_rival : (u v : List ℕ) → Lasso m.letters u v → Lasso rival.morphism.letters u v
    for_rival u v l = subst (λ k. Lasso k u v) letters l

    moved : (g : ℕ) → 1 ≤ g → (u v u' v' : List ℕ) → Lasso m.letters u v → Lasso m.letters u' v' → value rival.morphism u ≡ value rival.morphism u'
        → value rival.morphism v ≡ value rival.morphism v' → g ≤ outcome m acc u v → g ≤ outcome m acc u' v'
    moved g some u v u' v' l l' p q h =
        (accepted g some u' v' l').1
        (((strong.at_each g some).both_or_neither u v u' v' (for_rival u v l) (for_rival u' v' l') p q).0 ((accepted g some u v l).0 h))

-- a strong rule whose grades are outcomes, by which contexts tell its elements apart, is the smallest with its grades
module _ (r : Rule) {acc : ℕ → ℕ → ℕ} (reached : AllReached r.morphism) (strong : RuleStrong r)
    (accepts : GradesAreOutcomes r.morphism r.marks acc) where
  -- a rival's values decide the outcomes
  rival_factors : (rival : Rule) → RuleStrong rival → SameGrades r rival → Factors r.morphism acc rival.morphism
  rival_factors rival rs same = strong_factors rival rs same.same_letters (λ g some u v l.
      (let a = accepts g some u v l in
      let s = same.both_or_neither g some u v l in
      (λ h. s.0 (a.1 h), λ h. a.0 (s.1 h))))

  pub syntactic_smallest : Syntactic r.morphism acc → Smallest r
  syntactic_smallest apart = record {
    strong = strong;
    at_least = λ rival rs same. smallest_size acc r.lawful reached rival.lawful (sym same.same_letters) (rival_factors rival rs same) apart;
    copy = λ rival rs same. smallest_copy acc r.lawful reached rival.lawful (sym same.same_letters) (rival_factors rival rs same) apart;
  }

module _ {c : ℕ} (r : Rule) (reached : AllReached r.morphism) (good : GradedMarks r.morphism r.marks) (strong : RuleStrong r) (b : RuleNumbering r c) where
  -- the blocks' outcome depends on the endless word only
  pub blocks_depend : DependsOnWord (quotient b) (quotient_acc b)
  unfolding quotient
  blocks_depend = record {
    same_outcome = λ u v u' v' l l' same.
        quotient_outcome r.lawful b l
        ∙ (grading_depends r.lawful reached good strong).same_outcome u v u' v' l l' same
        ∙ sym (quotient_outcome r.lawful b l');
  }

  pub reduced_reached : AllReached (reduced_rule r b).morphism
  unfolding reduced_rule
  reduced_reached = quotient_reached r.lawful b reached

  -- the reduced rule marks the linked pairs by that outcome
  pub reduced_saturates : Saturates (quotient b) (quotient_acc b) (saturated (quotient b) (quotient_acc b))
  reduced_saturates = saturates_marking (quotient_lawful r.lawful b) (quotient_reached r.lawful b reached) blocks_depend

  pub reduced_linked : LinkedOnly (reduced_rule r b).morphism (level 1 (reduced_rule r b).marks)
  unfolding reduced_rule
  reduced_linked = reduced_saturates.linked_only

  pub reduced_strong : RuleStrong (reduced_rule r b)
  unfolding reduced_rule
  reduced_strong = reduced_saturates.strong

  -- it gives each lasso the same grade
  pub reduced_same : SameGrades r (reduced_rule r b)
  unfolding reduced_rule quotient
  reduced_same =
      outcomes_same r (reduced_rule r b) (grading r.morphism r.marks) (quotient_acc b)
      (grading_outcome r.lawful reached good strong) reduced_saturates.accepts refl (λ u v l. sym (quotient_outcome r.lawful b l))

  -- no strong rule with the same grades has fewer elements, and one with just as many is a renumbering
  pub reduced_smallest : Smallest (reduced_rule r b)
  unfolding reduced_rule
  reduced_smallest = syntactic_smallest (reduced_rule r b) reduced_reached reduced_strong reduced_saturates.accepts (quotient_syntactic r.lawful b)

  -- it is the reduction of the rule
  pub reduction_right : Reduction r (reduced_rule r b)
  unfolding reduced_rule
  reduction_right = record {
    same = reduced_same;
    smallest = reduced_smallest;
    marks = reduced_saturates.marks_grades;
  }
