-- Where the second table of marks holds the closure of a strong rule's marks, what was written is the reduction of that rule, whole. Assumes
-- nothing.
use Prim.Native.Nat.{ℕ, ◌≤◌, ◌<◌}
use mathlib.Core.Path.{◌≡◌, refl, ap}
use mathlib.Core.List.{List}
use native.Mathlib.Omega.{arith}
use lib.ListN.{get_or}
use Rattle.scratch.specs.Map.{second_base, MarkingAt}
use Rattle.theory.specs.Rules.{Morphism, Lawful, Rule, AllReached}
use Rattle.theory.specs.Grades.{RuleStrong}
use Rattle.theory.specs.Maps.{MapsOnto}
use Rattle.theory.specs.Smallest.{Reduction}
use Rattle.theory.proofs.Closure.{linked_test}
use Rattle.theory.proofs.Gradings.{GradedMarks}
use Rattle.theory.proofs.ClosureGrades.{closure_grade}
use Rattle.minimality.proofs.Contexts.{Indistinct, around_inside}
use Rattle.minimality.proofs.Quotient.{Numbering, quotient, quotient_acc, quotient_lawful, quotient_reached, quotient_maps}
use Rattle.minimality.proofs.Saturation.{saturated}
use Rattle.minimality.proofs.GradeOutcomes.{grading, grading_small}
use Rattle.minimality.proofs.Saturation.{saturated_small}
use Rattle.minimality.proofs.Reductions.{RuleNumbering, reduced_rule, reduction_right, reduced_linked}
use Rattle.minimality.proofs.Rounds.{same_outcomes_carry}
use Rattle.reduce_first_round.specs.Map.{outcome_of}
use Rattle.reduce_first_round.proofs.OutcomeBytes.{outcome_grading}
use Rattle.formats.specs.FirstWords.{ByFirstWords}
use Rattle.formats.specs.WrittenFile.{FitsFormat, FitsGrades}
use Rattle.theory.proofs.Maps.{maps_same}
use Rattle.formats.proofs.Agree.{Agree}
use Rattle.formats.proofs.Same.{SameMarks, file_same}
use Rattle.formats.proofs.ReadBack.{written_rule}
use Rattle.formats.specs.ReadBack.{WrittenRule}
use Rattle.formats.specs.WrittenFile.{file_of}
use Rattle.formats.specs.Front.{AtFront}
use Rattle.reduce_output.specs.Steps.{ReducedWritten}
use Rattle.formats.proofs.Front.{front_same}

-- outcomes that agree on elements have the same numberings
module _ {m : Morphism} (law : Lawful m) {f g : ℕ → ℕ → ℕ} (agree : (s z : ℕ) → s < m.size → z < m.size → f s z ≡ g s z) where
  pub indistinct_back : {s t : ℕ} → s < m.size → t < m.size → Indistinct m g s t → Indistinct m f s t
  indistinct_back hs ht d = record {
    in_context = λ x y hx hy. (same_outcomes_carry agree _ _ (around_inside law hx hy hs) (around_inside law hx hy ht)).1 (d.in_context x y hx hy);
  }

  unfoldable pub numbering_carry : {c : ℕ} → Numbering m f c → Numbering m g c
  numbering_carry b = record {
    number = b.number;
    leader = b.leader;
    number_below = b.number_below;
    leader_below = b.leader_below;
    number_leader = b.number_leader;
    congruent = b.congruent;
    outcomes = λ s t hs ht e. (same_outcomes_carry agree s t hs ht).0 (b.outcomes s t hs ht e);
    apart = λ s t hs ht d. b.apart s t hs ht (indistinct_back hs ht d);
  }

  -- and the same rule of blocks
  carried_agree : {c : ℕ} (b : Numbering m f c) → Agree (quotient (numbering_carry b)) (quotient b)
  unfolding numbering_carry quotient
  carried_agree b = record { same_size = refl; same_letters = refl; same_product = λ i j hi hj. refl; same_image = λ a h. refl }

  carried_acc : {c : ℕ} (b : Numbering m f c) (i j : ℕ) → i < c → j < c → quotient_acc b i j ≡ quotient_acc (numbering_carry b) i j
  unfolding numbering_carry quotient_acc
  carried_acc b i j hi hj = agree _ _ (b.leader_below i hi) (b.leader_below j hj)

  carried_marks : {c : ℕ} (b : Numbering m f c)
      → SameMarks c (saturated (quotient (numbering_carry b)) (quotient_acc (numbering_carry b))) (saturated (quotient b) (quotient_acc b))
  unfolding numbering_carry saturated linked_test quotient
  carried_marks b = record { same = λ i j hi hj. ap (λ (x : ℕ). saturated (quotient b) (λ (u v : ℕ). x) i j) (carried_acc b i j hi hj) }

  pub carried_written : {c : ℕ} (b : Numbering m f c) {before after : List ℕ} {end : ℕ}
      → AtFront (file_of (quotient b) (saturated (quotient b) (quotient_acc b))) before after end
      → AtFront (file_of (quotient (numbering_carry b)) (saturated (quotient (numbering_carry b)) (quotient_acc (numbering_carry b)))) before after end
  unfolding numbering_carry quotient
  carried_written b w = front_same (file_same (carried_agree b) (carried_marks b)) w

  -- so the first words are the same
  pub carried_order : {c : ℕ} (b : Numbering m f c) → ByFirstWords (quotient b) → ByFirstWords (quotient (numbering_carry b))
  unfolding numbering_carry quotient
  carried_order b o = o

-- the reduction of a rule was written, whole, and the map to it
pub record Reduces (r : Rule) (before after map : List ℕ) (end : ℕ) : Type 0 where
  pub reduced : Rule
  pub reduction : Reduction r reduced
  pub numbered : ByFirstWords reduced.morphism
  pub written : WrittenRule reduced.morphism reduced.marks before after end
  pub maps : MapsOnto r.morphism reduced.morphism (λ s. get_or map s 0)

-- a strong rule whose closure stands in the second table of marks
module _ (r : Rule) (small : r.morphism.size ≤ 64) (letters_some : 1 ≤ r.morphism.letters) (letters_small : r.morphism.letters ≤ 16)
    (reached : AllReached r.morphism) (good : GradedMarks r.morphism r.marks) (strong : RuleStrong r)
    {entry exit before after map_before map_after : List ℕ} {end : ℕ} (stands : MarkingAt r.morphism.size (closure_grade r.morphism r.marks) entry second_base)
    (w : ReducedWritten r.morphism entry exit before after map_before map_after end) where
  outcomes_agree : (s z : ℕ) → s < r.morphism.size → z < r.morphism.size
      → outcome_of r.morphism entry s z ≡ grading r.morphism r.marks s z
  outcomes_agree = outcome_grading r.lawful small r.marks entry stands

  -- the blocks numbered, with the grade for the outcome
  abbrev by_grade : RuleNumbering r w.count
  by_grade = numbering_carry r.lawful outcomes_agree w.numbering

  fits : FitsFormat (quotient by_grade)
  unfolding quotient
  fits = record { some = w.some; small = omega (arith, w.few); letters_some = letters_some; letters_small = letters_small }

  -- no grade is above 3
  grades_fit : FitsGrades (quotient by_grade) (saturated (quotient by_grade) (quotient_acc by_grade))
  unfolding quotient_acc
  grades_fit = record {
    grades = λ s e hs he. saturated_small (quotient by_grade) (quotient_acc by_grade) 3 s e (grading_small r.morphism r.marks (by_grade.leader s) (by_grade.leader e));
  }

  -- what was written is its file
  pub call_reduces : Reduces r before after w.map end
  unfolding reduced_rule numbering_carry
  call_reduces = record {
    reduced = reduced_rule r by_grade;
    reduction = reduction_right r reached good strong by_grade;
    numbered = carried_order r.lawful outcomes_agree w.numbering w.in_order;
    written =
        let f = carried_written r.lawful outcomes_agree w.numbering w.written in
        written_rule (quotient by_grade) _ fits grades_fit (quotient_lawful r.lawful by_grade)
        (reduced_linked r reached good strong by_grade) (quotient_reached r.lawful by_grade reached) f;
    maps = maps_same r.lawful w.numbers (quotient_maps r.lawful by_grade);
  }
