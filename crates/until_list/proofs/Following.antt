-- A letter followed from an entry: the list goes on with the class that it leads to, or there are more than 64. Assumes nothing.
use Rattle.std.proofs.Common.{Option, Some, None}
use Prim.Native.Nat.{ℕ, suc, ◌+◌, ◌*◌, ◌≤◌, ◌<◌}
use native.Mathlib.Omega.{arith}
use native.Mathlib.Decide.{ℕ_discrete}
use mathlib.Core.Path.{◌≡◌, refl, sym, ap, subst, subst₂, ◌∙◌}
use mathlib.Core.Logic.{◌≢◌}
use mathlib.Core.List.{List, [], ◌∷◌, ◌++◌}
use lib.ListN.{length}
use Rattle.theory.specs.Rules.{Morphism}
use Rattle.theory.proofs.Values.{element_same}
use Rattle.temporal.specs.Clamps.{UntilClassOf, SameUntilClass, MoreUntilClasses}
use Rattle.temporal.proofs.WordClasses.{Congruence, MoreWords}
use Rattle.temporal.proofs.UntilClasses.{classes_same, class_congruence}
use Rattle.word_steps.specs.Records.{word_at}
use Rattle.word_steps.proofs.Searching.{search_kept, word_kept, word_recorded, search_known, search_new, word_new, search_full}
use Rattle.until_clamps.specs.Clamps.{low_of, high_of}
use Rattle.until_clamps.proofs.Clamps.{ends_same}
use Rattle.until_step.specs.Bytes.{new_at, class_at}
use Rattle.until_search.specs.Searching.{ClassSame}
use Rattle.until_list.specs.Listing.{ClassHeld, Listing, Stepped}
use Rattle.until_list.specs.Adding.{TablesKept, StepKnown, StepNew, AddedTo, known, added, Full, AddAnswer}
use Rattle.until_list.specs.Following.{Grown, GrownAnswer}
use Rattle.until_list.proofs.Keeping.{tables_kept, held_same, stepped_kept}

module _ {m : Morphism} {first second : ℕ → ℕ → ℕ} {entry classes : List ℕ} {count p x pair : ℕ} (l : Listing m first second entry classes count p x) (st : Stepped m first second entry p)
    (inside : p ≤ count) (letter : x < m.letters)
    (class : UntilClassOf m first second (word_at entry p ++ (x ∷ [])) pair (λ t z. low_of (new_at entry t z)) (λ t z. high_of (new_at entry t z))) where
  congruence : Congruence m.letters (SameUntilClass m first second)
  congruence = class_congruence l.tables.lawful l.tables.second_small

  -- the class that is there is that of the word
  same_related : {number : ℕ} → number < count → ClassSame m.size entry classes number pair → SameUntilClass m first second (word_at entry p ++ (x ∷ [])) (word_at entry (suc number))
  same_related {number} h s =
      classes_same class (held_same (class_at classes number) (new_at entry) refl (sym s.same_pair) (λ t z ht hz. sym ((s.same_rows.each t ht).each z hz)) (l.held number h))

  -- and a class of the word is the one that is worked out
  related_same : {i : ℕ} → i < count → SameUntilClass m first second (word_at entry p ++ (x ∷ [])) (word_at entry (suc i)) → ClassSame m.size entry classes i pair
  related_same {i} h s =
      let c = l.held i h in
      record {
        same_pair = element_same (sym c.its_value ∙ sym s.same_value ∙ class.its_value);
        same_rows = record {
          each = λ t ht. record {
            each = λ z hz.
                ends_same (class_at classes i t z) (new_at entry t z) (c.its_low t z ht hz ∙ sym (s.same_low t z ht hz) ∙ sym (class.its_low t z ht hz))
                (c.its_high t z ht hz ∙ sym (s.same_high t z ht hz) ∙ sym (class.its_high t z ht hz));
          };
        };
      }

  module _ (exit classes' : List ℕ) (kept : TablesKept entry exit) (long : length classes' ≡ length classes) where
    -- to a class that is there
    known_grown : StepKnown m.size entry exit classes classes' count p x pair → Grown m first second exit classes' count p (x + 1) count
    known_grown k =
        let r = k.recorded in
        let few = l.search.few in
        let small = l.search.few_letters in
        let words = word_recorded l.search inside letter r in
        record {
          listing = record {
            tables = tables_kept kept small l.tables;
            search = search_known l.search inside letter r k.below (same_related k.below k.same);
            held = λ j h. held_same (class_at classes j) (class_at classes' j) (sym (words (suc j) (omega arith))) (r.others (28672 + j) (omega arith) (omega arith) (omega arith))
                (λ t z ht hz. ap (λ (c : List ℕ). class_at c j t z) k.classes_kept) (l.held j h);
            room = rw kept.same_length l.room;
            classes_room = rw long l.classes_room;
          };
          stepped = stepped_kept (λ i h. kept.behind i (omega arith)) (words p inside) st;
          more = omega arith;
        }

    -- to a new one
    new_grown : StepNew m.size entry exit classes classes' count p x pair → Grown m first second exit classes' count p (x + 1) (count + 1)
    new_grown k =
        let s = search_kept l.search inside k.records in
        let r = k.recorded in
        let words : (i : ℕ) → i ≤ count → word_at k.mid i ≡ word_at entry i = word_kept l.search inside k.records in
        let fresh : (i : ℕ) → i < count → SameUntilClass m first second (word_at k.mid p ++ (x ∷ [])) (word_at k.mid (suc i)) → ⊥ =
        λ i h q. k.new.none i h (related_same h (subst₂ (λ (w v : List ℕ). SameUntilClass m first second (w ++ (x ∷ [])) v) (words p inside) (words (suc i) (omega arith)) q)) in
        let all : (i : ℕ) → i ≤ count → word_at exit i ≡ word_at entry i = λ i g. word_recorded s inside letter r i g ∙ words i g in
        record {
          listing = record {
            tables = tables_kept kept l.search.few_letters l.tables;
            search = search_new s inside letter r congruence refl k.place fresh;
            held = λ j h. go (word_new s inside letter r congruence refl k.place fresh ∙ ap (λ (w : List ℕ). w ++ (x ∷ [])) (words p inside)) all j h (ℕ_discrete j count);
            room = rw kept.same_length l.room;
            classes_room = rw long l.classes_room;
          };
          stepped = stepped_kept (λ i h. kept.behind i (omega arith)) (all p inside) st;
          more = omega arith;
        }
      where
        go : word_at exit (suc count) ≡ word_at entry p ++ (x ∷ []) → ((i : ℕ) → i ≤ count → word_at exit i ≡ word_at entry i) → (j : ℕ) → j < count + 1 → Dec (j ≡ count)
            → ClassHeld m first second exit classes' j (word_at exit (suc j))
        go new old j h (yes e) =
            subst (λ (i : ℕ). ClassHeld m first second exit classes' i (word_at exit (suc i))) (sym e)
            (held_same (new_at entry) (class_at classes' count) (sym new) k.its_pair (λ t z ht hz. k.stored.filled t z ht hz) class)
        go new old j h (no f) =
            let f' : j ≢ count = f in
            let g : j < count = omega arith in
            held_same (class_at classes j) (class_at classes' j) (sym (old (suc j) (omega arith))) (k.pairs j g)
            (λ t z ht hz. k.stored.kept.before (j * 4096 + (t * 64 + z)) (omega (arith, l.tables.few_pairs))) (l.held j g)

    added_grown : {total : ℕ} → AddedTo m.size entry exit classes classes' count p x pair total → Grown m first second exit classes' count p (x + 1) total
    added_grown (known e k) = subst (Grown m first second exit classes' count p (x + 1)) (sym e) (known_grown k)
    added_grown (added e k) = subst (Grown m first second exit classes' count p (x + 1)) (sym e) (new_grown k)

    full_more : Full m.size entry classes count pair → MoreUntilClasses m first second 64
    full_more f =
        let w : MoreWords m.letters (SameUntilClass m first second) 64 =
        subst (MoreWords m.letters (SameUntilClass m first second)) f.full (search_full congruence l.search inside letter (λ i h q. f.new.none i h (related_same h q))) in
        record { word = w.word; over = λ i h. (w.words i h).over; some = λ i h. (w.words i h).some; apart = w.apart }

    pub letter_grown : (answer : Option ℕ) → AddAnswer m.size entry exit classes classes' count p x pair answer → GrownAnswer m first second exit classes' count p (x + 1) answer
    letter_grown (Some total) a = added_grown a
    letter_grown None a = full_more a
