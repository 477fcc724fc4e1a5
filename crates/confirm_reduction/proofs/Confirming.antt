-- Two strong rules whose closures stand in scratch, and the bytes of a map: what each question asks of the definition of a right reduction.
-- Assumes nothing.
use Prim.Native.Nat.{ℕ, ◌<◌}
use mathlib.Core.Path.{◌≡◌, refl, sym, ◌∙◌, subst}
use mathlib.Core.Bool.{Bool, true, false, not}
use mathlib.Core.List.{List}
use native.Mathlib.Omega.{arith}
use lib.ListN.{length, get_or}
use borrow.Author.Tests.{not-true, not-false}
use Rattle.finite.specs.Tells.{Tells}
use Rattle.finite.proofs.Tells.{told_no, tells_same}
use Rattle.theory.specs.Rules.{Morphism}
use Rattle.theory.specs.Maps.{MapsOnto}
use Rattle.theory.specs.Rounds.{Together, Stable}
use Rattle.theory.specs.Smallest.{Smallest}
use Rattle.theory.proofs.ClosureGrades.{closure_grade}
use Rattle.theory.proofs.Strength.{settled_start, settled_cycle}
use Rattle.minimality.proofs.Rounds.{together_sym, together_trans, together_carry, stable_carry}
use Rattle.minimality.proofs.GradeOutcomes.{grading}
use Rattle.minimality.proofs.Discrete.{Discrete, discrete_smallest, smallest_discrete}
use Rattle.minimality.proofs.KeptGrades.{kept_same, same_kept}
use Rattle.formats.specs.Table.{morphism_at}
use Rattle.formats.specs.RuleFile.{elements_of, morphism_of, marking_of}
use Rattle.scratch.specs.Map.{blocks_base, search_end, marks_from, MarkingAt}
use Rattle.scratch.proofs.Markings.{marking_kept}
use Rattle.scratch.proofs.Unchanged.{unchanged_room}
use Rattle.rule_layout.specs.declared.Shape.{Shape}
use Rattle.two_rules.specs.Deciding.{StrongFiles}
use Rattle.two_rules.proofs.StrongFiles.{first_is, second_is, first_read, second_read, first_law, first_grades, second_grades, letters_agree, second_is_too}
use Rattle.reduce_first_round.specs.Map.{outcome_of, outcome_at, BlocksAt}
use Rattle.reduce_first_round.proofs.OutcomeBytes.{look_grading, outcome_grading}
use Rattle.reduce_first_round.proofs.BlockBytes.{blocks_carry, related_bytes}
use Rattle.reduce_rounds.specs.declared.Refined.{Refined}
use Rattle.reduce_rounds.specs.Rounds.{RoundsRefined}
use Rattle.reduce_rounds.proofs.Settling.{refined_finished}
use Rattle.confirm_grades.specs.Grades.{GradesKept, GradesNeeds}
use Rattle.promises.specs.Rounds.{most_rounds}
use Rattle.promises.specs.Reduce.{rule_of}
use Rattle.promises.specs.Confirm.{ReducesBy}
use Rattle.promises.proofs.NotConfirmed.{other_letters, other_length}
use Rattle.confirm_reduction.specs.Judging.{EachAlone, MapJudged}

-- blocks of elements that stand together: each byte is its element exactly if each element is alone
module _ {m : Morphism} {acc : ℕ → ℕ → ℕ} {i : ℕ} {l : List ℕ} (b : BlocksAt m.size (Together m acc i) l blocks_base) where
  alone_discrete : EachAlone m.size l → Discrete m acc i
  alone_discrete w = record {
    alone = λ s t hs ht r. sym (w.each s hs) ∙ related_bytes b (together_sym m acc i) (together_trans m acc i) s t hs ht r ∙ w.each t ht;
  }

  discrete_alone : Discrete m acc i → EachAlone m.size l
  discrete_alone d = record { each = λ s h. d.alone _ s (omega (arith, b.at_most s h)) h (b.related s h) }

-- the rounds of the second
module _ {first second : List ℕ} {one two : Shape} {entry : List ℕ} (s : StrongFiles first second one two entry) {settled : List ℕ} {refined : Refined}
    (r : RoundsRefined (morphism_at second two.elements two.letters) most_rounds entry settled refined) where
  rounds : RoundsRefined (morphism_of second) most_rounds entry settled refined
  rounds = subst (λ (m : Morphism). RoundsRefined m most_rounds entry settled refined) (second_is s) r

  agree : (x z : ℕ) → x < elements_of second → z < elements_of second → outcome_of (morphism_of second) entry x z ≡ grading (morphism_of second) (marking_of second) x z
  agree = outcome_grading s.second_good.lawful s.second_good.table.small (marking_of second) entry s.strong.second_closure

  agree_back : (x z : ℕ) → x < elements_of second → z < elements_of second → grading (morphism_of second) (marking_of second) x z ≡ outcome_of (morphism_of second) entry x z
  agree_back x z hx hz = sym (agree x z hx hz)

  -- they are finished, and their blocks are those of the grades
  stable : Stable (morphism_of second) (grading (morphism_of second) (marking_of second)) refined.rounds
  stable = stable_carry s.second_good.lawful agree refined.rounds (refined_finished s.second_good.table.small rounds)

  blocks : BlocksAt (elements_of second) (Together (morphism_of second) (grading (morphism_of second) (marking_of second)) refined.rounds) settled blocks_base
  blocks =
      blocks_carry
      (λ x y hx hy. (together_carry s.second_good.lawful agree refined.rounds x y hx hy, together_carry s.second_good.lawful agree_back refined.rounds x y hx hy))
      rounds.blocks

  -- the outcomes that they leave are the second's grades
  second_grade : (x z : ℕ) → x < elements_of second → z < elements_of second → outcome_at settled x z ≡ grading (morphism_of second) (marking_of second) x z
  second_grade x z hx hz = rounds.outcomes x z hx hz ∙ agree x z hx hz

  -- and they keep the closure of the first
  first_stands : MarkingAt (elements_of first) (closure_grade (morphism_of first) (marking_of first)) settled search_end
  first_stands = marking_kept search_end s.first_good.table.small (λ i g h. r.kept.after i (omega arith)) s.strong.first_closure

  first_grade : (x z : ℕ) → x < elements_of first → z < elements_of first
      → marks_from settled search_end (settled_start (morphism_of first) x z) (settled_cycle (morphism_of first) z) ≡ grading (morphism_of first) (marking_of first) x z
  first_grade = look_grading s.first_good.lawful s.first_good.table.small (marking_of first) settled search_end first_stands

  -- whether they leave each element alone
  module _ {alone : Bool} (a : Tells (EachAlone two.elements settled) alone) where
    files_alone : Tells (EachAlone (elements_of second) settled) alone
    files_alone = subst (λ (n : ℕ). Tells (EachAlone n settled) alone) s.second_shape.elements a

    alone_smallest : not alone ≡ false → Smallest (rule_of second s.second_good.lawful)
    alone_smallest e = discrete_smallest (rule_of second s.second_good.lawful) (second_grades s) (alone_discrete blocks (files_alone.holds (not-false _ e)))

    pub not_alone : {map : List ℕ} → not alone ≡ true → MapJudged first second map entry settled false
    not_alone e = record {
      tells = told_no (λ p. files_alone.fails (not-true _ e)
          (discrete_alone blocks (smallest_discrete (rule_of second p.second_lawful) (second_grades s) stable p.reduced.smallest)));
      same_length = r.kept.same_length;
    }

module _ {first second : List ℕ} {one two : Shape} {entry : List ℕ} (map : List ℕ) (s : StrongFiles first second one two entry) where
  -- the counts
  pub letters_differ : (one.letters ≡ two.letters → ⊥) → MapJudged first second map entry entry false
  letters_differ f = record {
    tells = told_no (other_letters (λ e. f (s.first_shape.letters ∙ e ∙ sym s.second_shape.letters)));
    same_length = refl;
  }

  pub length_differs : (length map ≡ one.elements → ⊥) → MapJudged first second map entry entry false
  length_differs f = record { tells = told_no (other_length (λ e. f (e ∙ sym s.first_shape.elements))); same_length = refl }

  -- whether the bytes map the elements
  module _ (same : one.letters ≡ two.letters) {mapped : Bool}
      (t : Tells (MapsOnto (morphism_at first one.elements one.letters) (morphism_at second two.elements one.letters) (λ s. get_or map s 0)) mapped) where
    files_mapped : Tells (MapsOnto (morphism_of first) (morphism_of second) (λ s. get_or map s 0)) mapped
    files_mapped =
        subst (λ (m : Morphism). Tells (MapsOnto (morphism_of first) m (λ s. get_or map s 0)) mapped) (second_is_too s same)
        (subst (λ (m : Morphism). Tells (MapsOnto m (morphism_at second two.elements one.letters) (λ s. get_or map s 0)) mapped) (first_is s) t)

    pub not_mapped : not mapped ≡ true → MapJudged first second map entry entry false
    not_mapped e = record { tells = told_no (λ p. files_mapped.fails (not-true _ e) p.reduced.maps); same_length = refl }

    module _ (e : not mapped ≡ false) (l : length map ≡ one.elements) {settled : List ℕ} {refined : Refined}
        (r : RoundsRefined (morphism_at second two.elements two.letters) most_rounds entry settled refined) where
      maps : MapsOnto (morphism_of first) (morphism_of second) (λ s. get_or map s 0)
      maps = files_mapped.holds (not-false _ e)

      pub grades_place : GradesNeeds first one.elements one.letters map two.elements settled
      grades_place = record {
        table = first_read s;
        law = first_law s;
        bytes = l;
        inside = (t.holds (not-false _ e)).inside;
        few = (second_read s).small;
        room = unchanged_room r.kept s.room;
      }

      -- whether they keep the grades, where each element of the second is alone
      module _ {alone : Bool} (a : Tells (EachAlone two.elements settled) alone) (q : not alone ≡ false) {kept : Bool}
          (k : Tells (GradesKept (morphism_at first one.elements one.letters) map settled) kept) where
        files_kept : Tells (GradesKept (morphism_of first) map settled) kept
        files_kept = subst (λ (m : Morphism). Tells (GradesKept m map settled) kept) (first_is s) k

        kept_reduces : GradesKept (morphism_of first) map settled → ReducesBy first second map
        kept_reduces g = record {
          first_lawful = s.first_good.lawful;
          second_lawful = s.second_good.lawful;
          length_is = l ∙ s.first_shape.elements;
          reduced = record {
            maps = maps;
            same = kept_same (rule_of first s.first_good.lawful) (rule_of second s.second_good.lawful) (first_grades s) (second_grades s) (letters_agree s same) maps.carries
                (λ x z hx hz. sym (first_grade s r x z hx hz) ∙ g.kept x z hx hz ∙ second_grade s r _ _ (maps.inside x hx) (maps.inside z hz));
            smallest = alone_smallest s r a q;
          };
        }

        reduces_kept : ReducesBy first second map → GradesKept (morphism_of first) map settled
        reduces_kept p = record {
          kept = λ x z hx hz.
              first_grade s r x z hx hz
              ∙ same_kept (rule_of first p.first_lawful) (rule_of second p.second_lawful) (first_grades s) (second_grades s) (letters_agree s same) maps.carries p.reduced.same x z hx hz
              ∙ sym (second_grade s r _ _ (maps.inside x hx) (maps.inside z hz));
        }

        pub judged_map : MapJudged first second map entry settled kept
        judged_map = record { tells = tells_same (kept_reduces, reduces_kept) files_kept; same_length = r.kept.same_length }
