-- The search and what an entry makes of the grades, while other bytes change. Assumes nothing.
use Prim.Native.Nat.{ℕ, suc, ◌+◌, ◌*◌, ◌≤◌, ◌<◌}
use native.Mathlib.Omega.{arith}
use mathlib.Core.Path.{◌≡◌, refl, sym, ap, subst, ◌∙◌}
use mathlib.Core.List.{List}
use lib.ListN.{length, get_or}
use Rattle.theory.specs.Rules.{Morphism, element}
use Rattle.temporal.specs.Clamps.{UntilClassOf}
use Rattle.scratch.specs.Map.{laid_products_base, laid_images_base, until_pairs_base, until_grades_base, until_class_base, until_step_base}
use Rattle.scratch.proofs.Rows.{pair_small}
use Rattle.word_steps.specs.Records.{word_at, RecordsKept}
use Rattle.word_steps.proofs.Searching.{search_kept, word_kept}
use Rattle.until_clamps.specs.Clamps.{low_of, high_of}
use Rattle.until_step.specs.Bytes.{class_at}
use Rattle.until_list.specs.Listing.{UntilTables, Listing, Stepped}
use Rattle.until_list.specs.Adding.{TablesKept}

-- the tables and the grades are as they were
pub tables_kept : {m : Morphism} {first second : ℕ → ℕ → ℕ} {entry exit : List ℕ} → TablesKept entry exit → m.letters ≤ 16 → UntilTables m first second entry → UntilTables m first second exit
tables_kept {m} k few t = record {
  lawful = t.lawful;
  few_pairs = t.few_pairs;
  products = λ s u hs hu. k.between (laid_products_base + (s * m.size + u)) (omega arith) (omega (arith, pair_small m.size s u t.few_pairs hs hu)) ∙ t.products s u hs hu;
  images = λ x h. k.between (laid_images_base + x) (omega arith) (omega arith) ∙ t.images x h;
  grades = λ u z hu hz. k.behind (until_grades_base + (u * 64 + z)) (omega arith) ∙ t.grades u z hu hz;
  first_small = t.first_small;
  second_small = t.second_small;
}

-- a class whose pair and clamps are the same is of the same word
pub held_same : {m : Morphism} {first second : ℕ → ℕ → ℕ} {w v : List ℕ} {pair pair' : ℕ} (f g : ℕ → ℕ → ℕ) → w ≡ v → pair' ≡ pair → ((t z : ℕ) → t < m.size → z < m.size → g t z ≡ f t z)
    → UntilClassOf m first second w pair (λ t z. low_of (f t z)) (λ t z. high_of (f t z)) → UntilClassOf m first second v pair' (λ t z. low_of (g t z)) (λ t z. high_of (g t z))
held_same {m} {first} {second} {pair = pair} {pair'} f g e q same c =
    subst (λ v. UntilClassOf m first second v pair' (λ t z. low_of (g t z)) (λ t z. high_of (g t z))) e
    (record {
      its_value = c.its_value ∙ ap element (sym q);
      its_low = λ t z ht hz. ap low_of (same t z ht hz) ∙ c.its_low t z ht hz;
      its_high = λ t z ht hz. ap high_of (same t z ht hz) ∙ c.its_high t z ht hz;
    })

-- bytes before the class that is worked out are as they were
pub record FrontKept (entry exit : List ℕ) : Type 0 where
  pub same_length : length exit ≡ length entry
  pub front : (i : ℕ) → i < until_class_base → get_or exit i 0 ≡ get_or entry i 0

module _ {m : Morphism} {first second : ℕ → ℕ → ℕ} {entry exit classes : List ℕ} {count p x : ℕ} (l : Listing m first second entry classes count p x) (inside : p ≤ count) (k : FrontKept entry exit) where
  records : RecordsKept entry exit
  records = record { same = λ i h g. k.front i (omega arith) }

  pub front_words : (i : ℕ) → i ≤ count → word_at exit i ≡ word_at entry i
  front_words = word_kept l.search inside records

  pub listing_front : Listing m first second exit classes count p x
  listing_front =
      let few = l.search.few_letters in
      let t = l.tables in
      record {
        tables = record {
          lawful = t.lawful;
          few_pairs = t.few_pairs;
          products = λ s u hs hu. k.front (laid_products_base + (s * m.size + u)) (omega (arith, pair_small m.size s u t.few_pairs hs hu)) ∙ t.products s u hs hu;
          images = λ y h. k.front (laid_images_base + y) (omega arith) ∙ t.images y h;
          grades = λ u z hu hz. k.front (until_grades_base + (u * 64 + z)) (omega (arith, t.few_pairs)) ∙ t.grades u z hu hz;
          first_small = t.first_small;
          second_small = t.second_small;
        };
        search = search_kept l.search inside records;
        held = λ j h. held_same (class_at classes j) (class_at classes j) (sym (front_words (suc j) (omega arith))) (k.front (until_pairs_base + j) (omega (arith, l.search.few))) (λ u z hu hz. refl) (l.held j h);
        room = rw k.same_length l.room;
        classes_room = l.classes_room;
      }

-- what an entry makes of the grades
pub stepped_kept : {m : Morphism} {first second : ℕ → ℕ → ℕ} {entry exit : List ℕ} {p : ℕ} → ((i : ℕ) → until_step_base ≤ i → get_or exit i 0 ≡ get_or entry i 0) → word_at exit p ≡ word_at entry p
    → Stepped m first second entry p → Stepped m first second exit p
stepped_kept {m} {first} {second} {entry} {exit} {p} k e s = record {
  low = λ u z hu hz. rw e (ap low_of (k (until_step_base + (u * 64 + z)) (omega arith)) ∙ s.low u z hu hz);
  high = λ u z hu hz. rw e (ap high_of (k (until_step_base + (u * 64 + z)) (omega arith)) ∙ s.high u z hu hz);
}
