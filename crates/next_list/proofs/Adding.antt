-- A class is looked up and added unless it is there. Assumes nothing.
use Rattle.std.proofs.Common.{Some, None}
use Prim.Native.Nat.{ℕ, ◌+◌, ◌≤◌, ◌<◌}
use native.Mathlib.Omega.{arith}
use native.Mathlib.Decide.{ℕ_discrete}
use mathlib.Core.Path.{◌≡◌, refl, subst, ◌∙◌}
use mathlib.Core.Bool.{Bool, true, false}
use mathlib.Core.Logic.{◌≢◌}
use mathlib.Core.List.{List}
use lib.ListN.{length, set, length-set}
use lib.Seq.{get_or-set_same, get_or-set_other}
use Rattle.finite.specs.Tells.{Tells}
use Rattle.scratch.specs.Bytes.{UnchangedOutside}
use Rattle.scratch.proofs.Unchanged.{unchanged_none, unchanged_both, unchanged_set, unchanged_wider}
use Rattle.word_steps.specs.Records.{RecordNeeds, StepRecorded}
use Rattle.next_list.specs.Pairs.{tail_at, whole_at}
use Rattle.next_list.specs.Adding.{HasPair, NoPair, PairThere, AddNeeds, ListKept, known, added, Added}

-- ---- the search in the list

-- none of the first i classes has the two values
pub record Unfound (scratch : List ℕ) (count tail whole i : ℕ) : Type 0 where
  pub within : i ≤ count
  pub none : (j : ℕ) → j < i → HasPair scratch j tail whole → ⊥

module _ {scratch : List ℕ} {count tail whole : ℕ} where
  pub unfound_start : Unfound scratch count tail whole 0
  unfound_start = record { within = omega arith; none = λ j h. absurd (omega arith) }

  module _ {i : ℕ} (u : Unfound scratch count tail whole i) (h : i < count) {r : Bool} (t : Tells (HasPair scratch i tail whole) r) where
    pub found_here : r ≡ true → PairThere scratch count tail whole i
    found_here e = record { below = h; same = t.holds e }

    pub unfound_more : r ≡ false → Unfound scratch count tail whole (i + 1)
    unfound_more e = record { within = omega arith; none = λ j l p. go j l (ℕ_discrete j i) p }
      where
        go : (j : ℕ) → j < i + 1 → Dec (j ≡ i) → HasPair scratch j tail whole → ⊥
        go j l (yes d) p = t.fails e (subst (λ (a : ℕ). HasPair scratch a tail whole) d p)
        go j l (no d) p = let d' : j ≢ i = d in u.none j (omega arith) p

  pub unfound_all : {i : ℕ} → Unfound scratch count tail whole i → count ≤ i → NoPair scratch count tail whole
  unfound_all u h = record { none = λ j b. u.none j (omega arith) }

-- ---- the addition

-- what is recorded of a step stands between the records' bounds
pub recorded_kept : {entry exit : List ℕ} {p x number next : ℕ} → p ≤ 64 → x < 16 → next ≤ 64 → StepRecorded entry exit p x number next → ListKept entry exit
recorded_kept hp hx hn r = record {
  same_length = r.same_length;
  before = λ i h. r.others i (omega arith) (omega arith) (omega arith);
  after = λ i h. r.others i (omega arith) (omega arith) (omega arith);
}

module _ {entry : List ℕ} {count p x tail whole : ℕ} (n : AddNeeds entry count p x tail whole) where
  module _ {at : ℕ} (f : PairThere entry count tail whole at) where
    pub known_place : RecordNeeds entry p x at count
    known_place =
        let few = n.few in
        let there = n.entry_there in
        let below = f.below in
        record { entry_small = omega arith; letter_small = n.letter_small; number_small = omega arith; next_small = few; room = n.room }

    pub add_known : {exit : List ℕ} → StepRecorded entry exit p x at count → Added entry exit count p x tail whole (Some count)
    add_known r =
        let few = n.few in
        let there = n.entry_there in
        record {
          kept = recorded_kept (omega arith) n.letter_small few r;
          says = known refl (record { number = at; below = f.below; same = f.same; recorded = r });
        }

  module _ (new : NoPair entry count tail whole) where
    pub add_full : 64 ≤ count → Added entry entry count p x tail whole None
    add_full full = let few = n.few in record { kept = unchanged_none _ _ entry; says = record { full = omega arith; new = new } }

    module _ (place : count < 64) where
      abbrev one : List ℕ
      one = set entry (28672 + count) tail

      abbrev two : List ℕ
      two = set one (28736 + count) whole

      pub whole_room : 28736 + count < length (set entry (28672 + count) tail)
      whole_room = simp length-set (omega (arith, n.room))

      two_kept : UnchangedOutside 28672 28800 entry two
      two_kept = unchanged_both (unchanged_set entry (28672 + count) tail (omega arith) (omega arith)) (unchanged_set one (28736 + count) whole (omega arith) (omega arith))

      pub new_place : RecordNeeds (set (set entry (28672 + count) tail) (28736 + count) whole) p x count count
      new_place =
          let there = n.entry_there in
          record { entry_small = omega arith; letter_small = n.letter_small; number_small = place; next_small = omega arith; room = simp length-set n.room }

      pub add_new : {exit : List ℕ} → StepRecorded (set (set entry (28672 + count) tail) (28736 + count) whole) exit p x count count → Added entry exit count p x tail whole (Some (count + 1))
      add_new {exit} r =
          let there = n.entry_there in
          let kept = recorded_kept (omega arith) n.letter_small (omega arith) r in
          let tails : (j : ℕ) → j < 64 → tail_at exit j ≡ tail_at two j = λ j l. r.others (28672 + j) (omega (arith, n.letter_small)) (omega arith) (omega arith) in
          let wholes : (j : ℕ) → j < 64 → whole_at exit j ≡ whole_at two j = λ j l. r.others (28736 + j) (omega (arith, n.letter_small)) (omega arith) (omega arith) in
          record {
            kept = unchanged_both (unchanged_wider (omega arith) (omega arith) two_kept) kept;
            says = added refl (record {
              place = place;
              new = new;
              mid = two;
              records = record { same = λ i l g. two_kept.before i (omega arith) };
              recorded = r;
              tails = λ j l. tails j (omega arith) ∙ get_or-set_other one (28736 + count) (28672 + j) whole 0 (omega arith) ∙ get_or-set_other entry (28672 + count) (28672 + j) tail 0 (omega arith);
              wholes = λ j l. wholes j (omega arith) ∙ get_or-set_other one (28736 + count) (28736 + j) whole 0 (omega arith) ∙ get_or-set_other entry (28672 + count) (28736 + j) tail 0 (omega arith);
              its_tail = tails count place ∙ get_or-set_other one (28736 + count) (28672 + count) whole 0 (omega arith) ∙ get_or-set_same entry (28672 + count) tail 0 (omega (arith, n.room));
              its_whole = wholes count place ∙ get_or-set_same one (28736 + count) whole 0 whole_room;
            });
          }
