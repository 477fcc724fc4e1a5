-- A class is added unless it is there. Assumes nothing.
use Rattle.std.proofs.Common.{Some, None}
use Prim.Native.Nat.{ℕ, ◌+◌, ◌*◌, ◌≤◌, ◌<◌}
use native.Mathlib.Omega.{arith}
use mathlib.Core.Path.{◌≡◌, refl, ◌∙◌}
use mathlib.Core.List.{List}
use lib.ListN.{set, length-set}
use lib.Seq.{get_or-set_same, get_or-set_other}
use Rattle.scratch.specs.Rows.{RowsFilled}
use Rattle.word_steps.specs.Records.{RecordNeeds, StepRecorded}
use Rattle.until_step.specs.Bytes.{new_at}
use Rattle.until_search.specs.Searching.{NoClass, ClassThere, SearchNeeds, StoreNeeds}
use Rattle.until_list.specs.Adding.{AddNeeds, TablesKept, known, added, Added}

-- what is recorded of a step stands before the tables
recorded_kept : {entry exit : List ℕ} {p x number next : ℕ} → p ≤ 64 → x < 16 → next ≤ 64 → StepRecorded entry exit p x number next → TablesKept entry exit
recorded_kept hp hx hn r = record {
  same_length = r.same_length;
  between = λ i h l. r.others i (omega arith) (omega arith) (omega arith);
  behind = λ i h. r.others i (omega arith) (omega arith) (omega arith);
}

module _ {np count p x pair : ℕ} {entry classes : List ℕ} (n : AddNeeds np count p x pair entry classes) where
  pub search_place : SearchNeeds np entry classes
  search_place = record { few_pairs = n.few_pairs; room = n.room; classes_room = n.classes_room }

  module _ {at : ℕ} (f : ClassThere np entry classes count pair at) where
    pub known_place : RecordNeeds entry p x at count
    known_place =
        let few = n.few in
        let there = n.entry_there in
        let below = f.below in
        record { entry_small = omega arith; letter_small = n.letter_small; number_small = omega arith; next_small = few; room = n.room }

    pub add_known : {exit : List ℕ} → StepRecorded entry exit p x at count → Added np entry exit classes classes count p x pair (Some count)
    add_known r =
        let few = n.few in
        let there = n.entry_there in
        record {
          kept = recorded_kept (omega arith) n.letter_small few r;
          classes_length = refl;
          says = known refl (record { number = at; below = f.below; same = f.same; recorded = r; classes_kept = refl });
        }

  module _ (new : NoClass np entry classes count pair) where
    pub add_full : 64 ≤ count → Added np entry entry classes classes count p x pair None
    add_full full =
        let few = n.few in
        record {
          kept = record { same_length = refl; between = λ i l g. refl; behind = λ i l. refl };
          classes_length = refl;
          says = record { full = omega arith; new = new };
        }

    module _ (place : count < 64) where
      pub store_place : StoreNeeds np count entry classes
      store_place = record { needs = search_place; place = place }

      abbrev mid : List ℕ
      mid = set entry (28672 + count) pair

      pub new_place : RecordNeeds (set entry (28672 + count) pair) p x count count
      new_place =
          let there = n.entry_there in
          record { entry_small = omega arith; letter_small = n.letter_small; number_small = place; next_small = omega arith; room = simp length-set n.room }

      pub add_new : {exit classes' : List ℕ} → RowsFilled (λ t z byte. byte ≡ new_at entry t z) (count * 4096) 64 np np classes classes'
          → StepRecorded (set entry (28672 + count) pair) exit p x count count → Added np entry exit classes classes' count p x pair (Some (count + 1))
      add_new {exit} s r =
          let there = n.entry_there in
          let small = n.letter_small in
          let kept = recorded_kept (omega arith) n.letter_small (omega arith) r in
          record {
            kept = record {
              same_length = kept.same_length ∙ simp length-set;
              between = λ i l g. kept.between i l g ∙ get_or-set_other entry (28672 + count) i pair 0 (omega arith);
              behind = λ i l. kept.behind i l ∙ get_or-set_other entry (28672 + count) i pair 0 (omega arith);
            };
            classes_length = s.kept.same_length;
            says = added refl (record {
              place = place;
              new = new;
              mid = mid;
              records = record { same = λ i l g. get_or-set_other entry (28672 + count) i pair 0 (omega arith) };
              recorded = r;
              pairs = λ j l. r.others (28672 + j) (omega arith) (omega arith) (omega arith) ∙ get_or-set_other entry (28672 + count) (28672 + j) pair 0 (omega arith);
              its_pair = r.others (28672 + count) (omega arith) (omega arith) (omega arith) ∙ get_or-set_same entry (28672 + count) pair 0 (omega (arith, n.room));
              stored = s;
            });
          }
