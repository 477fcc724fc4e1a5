-- What each way through both decisions shows: the second's marks wait behind the bytes that the first search uses, and the first's closure behind those
-- that the second does. Assumes nothing.
use Prim.Native.Nat.{ℕ, ◌+◌, ◌*◌, ◌≤◌}
use mathlib.Core.Path.{◌≡◌, sym, ◌∙◌, subst}
use mathlib.Core.Bool.{Bool, true, false}
use mathlib.Core.List.{List}
use native.Mathlib.Omega.{arith}
use lib.ListN.{length}
use Rattle.theory.specs.Rules.{Morphism, Marking}
use Rattle.scratch.specs.Map.{mark_table_size, second_base, search_end, marks_from, MarkingAt}
use Rattle.scratch.proofs.Markings.{marking_itself, front_mark, marking_kept}
use Rattle.mark_strong.specs.Deciding.{DecideNeeds, StrongIf, Decided}
use Rattle.mark_strong.proofs.Deciding.{needs_moved}
use Rattle.two_rules.specs.Deciding.{TablesMoved, BothDecided}
use Rattle.two_rules.specs.declared.Strengths.TheVariants.{Strong, FirstWeak, SecondWeak}

module _ {m₁ : Morphism} (m₂ : Morphism) {entry mid : List ℕ} {one : Bool} (d : Decided m₁ entry mid one) where
  -- the first is weak
  pub first_weak : one ≡ false → BothDecided m₁ m₂ entry mid FirstWeak
  first_weak e = record { same_length = d.same_length; strengths = λ first second k l t r. subst (StrongIf m₁ first) e (d.decision first k t) }

  module _ {moved : List ℕ} (t : TablesMoved mark_table_size mid moved) (small₂ : m₂.size ≤ 64) where
    -- the second's marks stand in front
    second_stands : (marks : Marking) → MarkingAt m₂.size marks entry search_end → MarkingAt m₂.size marks moved 0
    unfolding marks_from
    second_stands marks r = record {
      same = λ s e hs he. r.same s e hs he ∙ sym (t.front (s * 64 + e) (omega arith) ∙ d.behind (search_end + (s * 64 + e)) (omega arith)) ∙ front_mark moved s e;
    }

    pub second_needs : DecideNeeds m₂ search_end entry → DecideNeeds m₂ 0 moved
    second_needs place = needs_moved place (t.same_length ∙ d.same_length) (second_stands (marks_from entry search_end) (marking_itself m₂.size entry search_end))

    module _ (strong : one ≡ true) {exit : List ℕ} {two : Bool} (f : Decided m₂ moved exit two) where
      same : length exit ≡ length entry
      same = f.same_length ∙ t.same_length ∙ d.same_length

      -- the second is
      pub second_weak : two ≡ false → BothDecided m₁ m₂ entry exit SecondWeak
      second_weak e = record {
        same_length = same;
        strengths = λ first second k l q r. record {
          first_strong = subst (StrongIf m₁ first) strong (d.decision first k q);
          second_weak = subst (StrongIf m₂ second) e (f.decision second l (second_stands second r));
        };
      }

      -- both are strong
      module _ (small₁ : m₁.size ≤ 64) where
        -- the first's closure stands where the second's marks stood
        first_stands : (marks : Marking) → MarkingAt m₁.size marks mid second_base → MarkingAt m₁.size marks exit search_end
        unfolding marks_from
        first_stands marks r =
            let w : MarkingAt m₁.size marks moved search_end = record { same = λ s e hs he. r.same s e hs he ∙ sym (t.behind (s * 64 + e) (omega arith)) } in
            marking_kept search_end small₁ (λ i g h. f.behind i g) w

        pub both_strong : two ≡ true → BothDecided m₁ m₂ entry exit Strong
        both_strong e = record {
          same_length = same;
          strengths = λ first second k l q r. record {
            first_strong = subst (StrongIf m₁ first) strong (d.decision first k q);
            second_strong = subst (StrongIf m₂ second) e (f.decision second l (second_stands second r));
            first_closure = first_stands _ (d.closure first k q);
            second_closure = f.closure second l (second_stands second r);
          };
        }
