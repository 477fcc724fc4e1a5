-- A step recorded behind the list, and the matrix that it leads to added before: the list is as the addition left it. Assumes nothing.
use Rattle.std.proofs.Common.{Option, Some, None}
use Prim.Native.Nat.{ℕ, ◌≤◌, ◌<◌}
use mathlib.Core.Path.{◌≡◌, sym, ◌∙◌, subst}
use mathlib.Core.List.{List}
use native.Mathlib.Omega.{arith}
use lib.ListN.{length, set, length-set}
use Rattle.finite.proofs.Stores.{done, put, stores, Apart, here, later, stores_length, stores_other, stores_at}
use Rattle.buchi.proofs.Products.{same_trans}
use Rattle.scratch.proofs.Unchanged.{unchanged_both, unchanged_wider}
use Rattle.automaton_matrix_search.specs.Lists.{step_place, parent_place, letter_place, MatrixList, Kept, KeptBelow}
use Rattle.automaton_matrix_search.specs.Steps.{Grown, AddedTo, Full, AddAnswer, Added, RecordNeeds, StepRecorded, StepAdded}
use Rattle.automaton_matrix_search.specs.declared.Placed.{Placed}
use Rattle.automaton_matrix_search.proofs.Staying.{matrix_stays, list_stays}

-- ---- three bytes

module _ {scratch : List ℕ} {p x number next : ℕ} (place : RecordNeeds scratch p x number next) where
  pub parent_inside : parent_place next < length (set scratch (step_place p x) number)
  parent_inside = simp length-set (omega (arith, place.next_small, place.room))

  pub letter_inside : letter_place next < length (set (set scratch (step_place p x) number) (parent_place next) p)
  letter_inside = simp length-set (omega (arith, place.next_small, place.room))

  pub step_recorded : StepRecorded scratch (set (set (set scratch (step_place p x) number) (parent_place next) p) (letter_place next) x) p x number next
  unfolding stores Apart
  step_recorded =
      let h = place.entry_small in
      let l = place.letter_small in
      let g = place.next_small in
      let all = put (step_place p x) number (put (parent_place next) p (put (letter_place next) x done)) in
      record {
        same_length = stores_length all scratch;
        step = stores_at all scratch (here (omega arith, (omega arith, tt))) (omega (arith, place.room));
        parent = stores_at all scratch (later (here (omega arith, tt))) (omega (arith, place.room));
        letter = stores_at all scratch (later (later (here tt))) (omega (arith, place.room));
        others = λ i a b c. stores_other all scratch i (a, (b, (c, tt)));
      }

-- ---- an addition, and the record of it

module _ {n count p x : ℕ} {entry mid : List ℕ} {m : List (List ℕ)} (list : MatrixList n entry count) (inside : p ≤ count) (small : x < 16) (answer : Option Placed)
    (a : Added n entry count m mid answer) where
  pub step_full : answer ≡ None → StepAdded n entry count m p x mid None
  step_full e =
      let f : Full n entry count m = subst (AddAnswer n entry count m mid) e a.says in
      record { kept = unchanged_wider (omega arith) (omega arith) a.kept; says = f }

  module _ {placed : Placed} (e : answer ≡ Some placed) where
    stands : AddedTo n entry count m mid placed.number placed.total
    stands = subst (AddAnswer n entry count m mid) e a.says

    pub record_place : RecordNeeds mid p x placed.number count
    record_place =
        let few = list.few in
        record {
          entry_small = omega arith;
          letter_small = small;
          number_small = omega (arith, stands.below, stands.grown.list.few);
          next_small = few;
          room = stands.grown.list.room;
        }

    module _ {exit : List ℕ} (r : StepRecorded mid exit p x placed.number count) where
      below : KeptBelow 12288 mid exit
      below =
          let few = list.few in
          record {
            same_length = r.same_length;
            before = λ i h. r.others i (omega arith) (omega arith) (omega arith);
            after = λ i h. r.others i (omega arith) (omega arith) (omega arith);
          }

      kept : Kept entry exit
      kept = unchanged_both (unchanged_wider (omega arith) (omega arith) a.kept) (unchanged_wider (omega arith) (omega arith) below)

      grown : Grown n entry count exit placed.total
      grown =
          let few = list.few in
          record {
            list = list_stays below stands.grown.list;
            more = stands.grown.more;
            same = λ i h. same_trans (stands.grown.same i h) (matrix_stays below list.few_states (omega arith));
            kept = kept;
          }

      added : AddedTo n entry count m exit placed.number placed.total
      added =
          let few = stands.grown.list.few in
          let inside = stands.below in
          record {
            grown = grown;
            below = stands.below;
            same = same_trans stands.same (matrix_stays below list.few_states (omega arith));
            only = λ j c b. same_trans (stands.only j c b) (matrix_stays below list.few_states (omega arith));
            one_more = stands.one_more;
          }

      pub step_taken : StepAdded n entry count m p x exit (Some placed.total)
      step_taken = record {
        kept = kept;
        says = record {
          added = subst (λ i. AddedTo n entry count m exit i placed.total) (sym r.step) added;
          parent = r.parent;
          letter = r.letter;
          others = λ i h f g d. r.others i f g d ∙ a.kept.after i h;
        };
      }
