-- A letter followed from an entry: the list goes on with the class that it leads to, or there are more than 64. Assumes nothing.
use Rattle.std.proofs.Common.{Option, Some, None}
use Prim.Native.Nat.{ℕ, suc, ◌+◌, ◌-◌, ◌≤◌, ◌<◌}
use native.Mathlib.Omega.{arith}
use native.Mathlib.Decide.{ℕ_discrete}
use mathlib.Core.Path.{◌≡◌, refl, sym, ap, subst, subst₂, ◌∙◌}
use mathlib.Core.Logic.{◌≢◌}
use mathlib.Core.List.{List, [], ◌∷◌, ◌++◌}
use lib.ListN.{length}
use Rattle.theory.specs.Rules.{Morphism, Lawful, Value}
use Rattle.temporal.specs.Nexts.{NextClassOf, SameNextClass, MoreNextClasses}
use Rattle.temporal.proofs.WordClasses.{Word, MoreWords}
use Rattle.temporal.proofs.NextClasses.{tail_congruence}
use Rattle.promises.specs.Monitor.{value_of}
use Rattle.word_steps.specs.Records.{word_at}
use Rattle.word_steps.proofs.Words.{word_empty, word_is}
use Rattle.word_steps.proofs.Searching.{search_rooted, search_kept, word_kept, word_recorded, search_known, search_new, word_new, search_full}
use Rattle.next_list.specs.declared.Pair.{Pair}
use Rattle.next_list.specs.Pairs.{tail_at, whole_at, ValueNeeds, ValueBehind, Listing, PairBehind}
use Rattle.next_list.specs.Adding.{HasPair, AddNeeds, StepKnown, StepNew, AddedTo, known, added, Full, Added}
use Rattle.next_list.specs.Following.{Grown, Followed}
use Rattle.next_list.proofs.Values.{value_none, letter_class, longer_class, whole_inside, tail_known, pair_same, same_pair}

-- ---- the two values of an entry's word with a letter behind it

module _ {m : Morphism} (law : Lawful m) (small : m.size ≤ 64) {scratch : List ℕ} {count p x : ℕ} (l : Listing m scratch count p x) (inside : p ≤ count) (letter : x < m.letters) where
  -- of entry 0
  pub pair_first : p ≡ 0 → PairBehind m scratch p x (record { tail = 64; whole = m.image x })
  pair_first e = record {
    class =
        subst (λ (w : List ℕ). NextClassOf m (w ++ (x ∷ [])) (value_of 64) (m.image x)) (sym (ap (word_at scratch) e ∙ word_empty scratch))
        (subst (λ (v : Value). NextClassOf m (x ∷ []) v (m.image x)) (sym value_none) (letter_class law x));
    tail_small = omega arith;
    whole_small = omega (arith, law.images x letter);
  }

  -- of another, by the class before it
  module _ (some : p ≢ 0) where
    before : p - 1 < count
    before = omega arith

    word_before : word_at scratch (suc (p - 1)) ≡ word_at scratch p
    word_before = ap (word_at scratch) (let e : suc (p - 1) ≡ p = omega arith in e)

    word : Word m.letters (word_at scratch (suc (p - 1)))
    word = word_is (search_rooted l.search) l.search.letters (p - 1) before

    class_before : NextClassOf m (word_at scratch (suc (p - 1))) (value_of (tail_at scratch (p - 1))) (whole_at scratch (p - 1))
    class_before = l.pairs (p - 1) before

    pub before_whole : whole_at scratch (p - 1) < m.size
    before_whole = whole_inside law word.over class_before

    pub before_tail : ValueNeeds m.size (tail_at scratch (p - 1)) (m.image x)
    before_tail = record { value_known = tail_known law word.over class_before; inside = law.images x letter }

    pub pair_longer : {behind : ℕ} → ValueBehind m (tail_at scratch (p - 1)) (m.image x) behind
        → PairBehind m scratch p x (record { tail = behind; whole = m.product (whole_at scratch (p - 1)) (m.image x) })
    pair_longer {behind} b = record {
      class =
          subst (λ (w : List ℕ). NextClassOf m (w ++ (x ∷ [])) (value_of behind) (m.product (whole_at scratch (p - 1)) (m.image x))) word_before
          (subst (λ (v : Value). NextClassOf m (word_at scratch (suc (p - 1)) ++ (x ∷ [])) v (m.product (whole_at scratch (p - 1)) (m.image x))) (sym b.is)
          (longer_class law word letter class_before));
      tail_small = omega (arith, b.inside);
      whole_small = omega (arith, law.closed (whole_at scratch (p - 1)) (m.image x) before_whole (law.images x letter));
    }

-- ---- the class is added

module _ {m : Morphism} (law : Lawful m) {entry : List ℕ} {count p x : ℕ} (l : Listing m entry count p x) (inside : p ≤ count) (letter : x < m.letters)
    {pair : Pair} (b : PairBehind m entry p x pair) where
  pub pair_place : AddNeeds entry count p x pair.tail pair.whole
  pair_place = record {
    few = l.search.few;
    entry_there = inside;
    letter_small = omega (arith, l.search.few_letters);
    tail_small = b.tail_small;
    whole_small = b.whole_small;
    room = l.room;
  }

  -- a class with other values is another
  other_class : {i : ℕ} → i < count → (HasPair entry i pair.tail pair.whole → ⊥) → SameNextClass m (word_at entry p ++ (x ∷ [])) (word_at entry (suc i)) → ⊥
  other_class {i} h f s = let e = same_pair b.class (l.pairs i h) s in f (record { same_tail = sym e.0; same_whole = sym e.1 })

  -- to a class that is there
  known_grown : {exit : List ℕ} → length exit ≡ length entry → StepKnown entry exit count p x pair.tail pair.whole → Listing m exit count p (x + 1)
  known_grown {exit} same k =
      let r = k.recorded in
      let few = l.search.few in
      let small = l.search.few_letters in
      record {
        search = search_known l.search inside letter r k.below (pair_same b.class (l.pairs k.number k.below) (sym k.same.same_tail) (sym k.same.same_whole));
        pairs = λ j h.
            rw (word_recorded l.search inside letter r (suc j) (omega arith), r.others (28672 + j) (omega arith) (omega arith) (omega arith), r.others (28736 + j) (omega arith) (omega arith) (omega arith))
            (l.pairs j h);
        room = omega (arith, l.room);
      }

  -- to a new one
  new_grown : {exit : List ℕ} → length exit ≡ length entry → StepNew entry exit count p x pair.tail pair.whole → Listing m exit (count + 1) p (x + 1)
  new_grown {exit} same k =
      let s = search_kept l.search inside k.records in
      let c = tail_congruence law in
      let r = k.recorded in
      let words : (i : ℕ) → i ≤ count → word_at k.mid i ≡ word_at entry i = word_kept l.search inside k.records in
      let fresh : (i : ℕ) → i < count → SameNextClass m (word_at k.mid p ++ (x ∷ [])) (word_at k.mid (suc i)) → ⊥ =
      λ i h q. other_class h (k.new.none i h) (subst₂ (λ (w v : List ℕ). SameNextClass m (w ++ (x ∷ [])) v) (words p inside) (words (suc i) (omega arith)) q) in
      record {
        search = search_new s inside letter r c refl k.place fresh;
        pairs = λ j h. go (word_new s inside letter r c refl k.place fresh ∙ ap (λ (w : List ℕ). w ++ (x ∷ [])) (words p inside))
            (λ i g. word_recorded s inside letter r i g ∙ words i g) j h (ℕ_discrete j count);
        room = omega (arith, l.room);
      }
    where
      go : word_at exit (suc count) ≡ word_at entry p ++ (x ∷ []) → ((i : ℕ) → i ≤ count → word_at exit i ≡ word_at entry i) → (j : ℕ) → j < count + 1 → Dec (j ≡ count)
          → NextClassOf m (word_at exit (suc j)) (value_of (tail_at exit j)) (whole_at exit j)
      go new old j h (yes e) =
          subst (λ (i : ℕ). NextClassOf m (word_at exit (suc i)) (value_of (tail_at exit i)) (whole_at exit i)) (sym e) (rw (new, k.its_tail, k.its_whole) b.class)
      go new old j h (no f) =
          let f' : j ≢ count = f in
          let g : j < count = omega arith in
          rw (old (suc j) (omega arith), k.tails j g, k.wholes j g) (l.pairs j g)

  added_grown : {exit : List ℕ} {total : ℕ} → length exit ≡ length entry → AddedTo entry exit count p x pair.tail pair.whole total → Grown m exit count p (x + 1) total
  added_grown {exit} same (known e k) = record { listing = subst (λ (t : ℕ). Listing m exit t p (x + 1)) (sym e) (known_grown same k); more = omega arith }
  added_grown {exit} same (added e k) = record { listing = subst (λ (t : ℕ). Listing m exit t p (x + 1)) (sym e) (new_grown same k); more = omega arith }

  full_more : Full entry count pair.tail pair.whole → MoreNextClasses m 64
  full_more f =
      let w : MoreWords m.letters (SameNextClass m) 64 =
      subst (MoreWords m.letters (SameNextClass m)) f.full (search_full (tail_congruence law) l.search inside letter (λ i h. other_class h (f.new.none i h))) in
      record { word = w.word; over = λ i h. (w.words i h).over; some = λ i h. (w.words i h).some; apart = w.apart }

  pub followed_pair : {exit : List ℕ} (answer : Option ℕ) → Added entry exit count p x pair.tail pair.whole answer → Followed m entry exit count p x answer
  followed_pair (Some total) a = record { kept = a.kept; says = added_grown a.kept.same_length a.says }
  followed_pair None a = record { kept = a.kept; says = full_more a.says }
