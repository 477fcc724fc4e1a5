-- The class of an entry's word with a letter behind it, worked out in bytes. Assumes nothing.
use Prim.Native.Nat.{ℕ, zero, suc, ◌+◌, ◌*◌, ◌-◌, max, ◌≤◌, ◌<◌}
use native.Mathlib.Omega.{arith}
use mathlib.Core.Path.{◌≡◌, refl, sym, ap, ap₂, ◌∙◌}
use mathlib.Core.List.{List, [], ◌∷◌, ◌++◌}
use lib.ListN.{get_or}
use borrow.Author.Tests.{eq-eqb, ne_eqb}
use Rattle.theory.specs.Words.{Over, over_nil, over_cons}
use Rattle.theory.specs.Rules.{Morphism, Lawful, element, join, value}
use Rattle.theory.proofs.Values.{value_append, inside_of}
use Rattle.temporal.specs.Clamps.{through, clamp, UntilClassOf}
use Rattle.temporal.proofs.Clamps.{through_small, step_low, step_high}
use Rattle.finite.proofs.Shortlex.{over_snoc}
use Rattle.scratch.proofs.Rows.{pair_small}
use Rattle.until_step.proofs.Rows.{pair_letter, pair_longer}
use Rattle.scratch.specs.Map.{until_class_base, until_step_base}
use Rattle.scratch.specs.Rows.{RowsFilled}
use Rattle.word_steps.specs.Records.{word_at}
use Rattle.word_steps.proofs.Words.{word_empty, word_over, word_is}
use Rattle.word_steps.proofs.Searching.{search_rooted}
use Rattle.until_clamps.specs.Clamps.{low_of, high_of}
use Rattle.until_clamps.proofs.Clamps.{low_of_lem, high_of_lem, over_low, over_high}
use Rattle.until_step.specs.Bytes.{product_byte, image_byte, grades_at, step_at, new_at, pair_at, class_at, entry_byte, stepped_byte, letter_byte, pair_behind, StepNeeds, LetterNeeds, PairNeeds}
use Rattle.until_list.specs.Listing.{Listing, Stepped}
use Rattle.until_list.proofs.Keeping.{FrontKept}

-- the value of a word with a letter behind it
longer_value : {m : Morphism} (w : List ℕ) (x : ℕ) {pair : ℕ} → Lawful m → Over m.letters w → x < m.letters → value m w ≡ element pair → value m (w ++ (x ∷ [])) ≡ element (m.product pair (m.image x))
unfolding value join
longer_value {m} w x law o h e = value_append law o (over_cons h over_nil) ∙ ap (λ v. join m v (element (m.image x))) e

-- the ways to an entry's clamp
entry_empty_is : (classes : List ℕ) (p s z : ℕ) → p ≡ 0 → entry_byte classes p s z ≡ 12
unfolding entry_byte
entry_empty_is classes p s z e = simp (eq-eqb p 0 e)

entry_class_is : (classes : List ℕ) (p s z j : ℕ) → p ≡ suc j → entry_byte classes p s z ≡ class_at classes j s z
unfolding entry_byte
entry_class_is classes p s z j e =
    let b : entry_byte classes p s z ≡ class_at classes (p - 1) s z = simp (ne_eqb p 0 (λ f. omega arith)) in
    b ∙ ap (λ (i : ℕ). class_at classes i s z) (let q : p - 1 ≡ j = omega arith in q)

empty_word : (m : Morphism) (first second : ℕ → ℕ → ℕ) (w : List ℕ) (s z r : ℕ) → w ≡ [] → through m first second w s z r ≡ r
unfolding through
empty_word m first second w s z r e = ap (λ (v : List ℕ). through m first second v s z r) e

module _ {m : Morphism} {first second : ℕ → ℕ → ℕ} {scratch classes : List ℕ} {count p x : ℕ} (l : Listing m first second scratch classes count p x) (inside : p ≤ count) where
  -- the word of an entry
  entry_over : Over m.letters (word_at scratch p)
  entry_over = word_over (search_rooted l.search) l.search.letters p inside

  -- the clamp of an entry at a context has its ends
  entry_ends : (s z : ℕ) → s < m.size → z < m.size
      → (low_of (entry_byte classes p s z) ≡ through m first second (word_at scratch p) s z 0) × (high_of (entry_byte classes p s z) ≡ through m first second (word_at scratch p) s z 3)
  entry_ends s z hs hz = go p refl
    where
      go : (q : ℕ) → p ≡ q → (low_of (entry_byte classes p s z) ≡ through m first second (word_at scratch p) s z 0) × (high_of (entry_byte classes p s z) ≡ through m first second (word_at scratch p) s z 3)
      go zero e = (ap low_of (empty_byte e) ∙ sym (empty_through e 0), ap high_of (empty_byte e) ∙ sym (empty_through e 3))
        where
          empty_byte : p ≡ 0 → entry_byte classes p s z ≡ 12
          empty_byte e = entry_empty_is classes p s z e

          empty_through : p ≡ 0 → (r : ℕ) → through m first second (word_at scratch p) s z r ≡ r
          empty_through e r = empty_word m first second (word_at scratch p) s z r (ap (word_at scratch) e ∙ word_empty scratch)
      go (suc j) e =
          let h : j < count = omega arith in
          let c = l.held j h in
          let b : entry_byte classes p s z ≡ class_at classes j s z = entry_class_is classes p s z j e in
          let w : word_at scratch (suc j) ≡ word_at scratch p = ap (word_at scratch) (sym e) in
          (ap low_of b ∙ c.its_low s z hs hz ∙ ap (λ (v : List ℕ). through m first second v s z 0) w, ap high_of b ∙ c.its_high s z hs hz ∙ ap (λ (v : List ℕ). through m first second v s z 3) w)

  -- and is a byte of two grades
  entry_small : (s z : ℕ) → s < m.size → z < m.size → entry_byte classes p s z < 16
  entry_small s z hs hz =
      let h = through_small m first second l.tables.lawful l.tables.second_small entry_over hs hz (let a : 3 ≤ 3 = omega arith in a) in
      omega (arith, (entry_ends s z hs hz).1)

  grades_small : (s z : ℕ) → s < m.size → z < m.size → grades_at scratch s z < 16
  grades_small s z hs hz =
      let a = l.tables.first_small s z hs hz in
      let b = l.tables.second_small s z hs hz in
      omega (arith, l.tables.grades s z hs hz)

  pub step_place_lem : StepNeeds m.size p scratch classes
  step_place_lem = record {
    few_pairs = l.tables.few_pairs;
    entry_small = omega (arith, l.search.few);
    grades = grades_small;
    clamps = entry_small;
    room = l.room;
    classes_room = l.classes_room;
  }

  -- the entry over the grades
  module _ {exit : List ℕ} (r : RowsFilled (λ s z byte. byte ≡ stepped_byte classes scratch p s z) until_step_base 64 m.size m.size scratch exit) where
    pub step_front : FrontKept scratch exit
    step_front = record { same_length = r.kept.same_length; front = λ i h. r.kept.before i (omega arith) }

    pub step_stepped : word_at exit p ≡ word_at scratch p → Stepped m first second exit p
    unfolding stepped_byte
    step_stepped e = record {
      low = λ s z hs hz.
          (let b = entry_ends s z hs hz in
          let g = l.tables.grades s z hs hz in
          let small = l.tables.second_small s z hs hz in
          ap low_of (r.filled s z hs hz) ∙ over_low (entry_byte classes p s z) (grades_at scratch s z) (entry_small s z hs hz)
          ∙ ap (clamp (low_of (entry_byte classes p s z)) (high_of (entry_byte classes p s z))) (ap low_of g ∙ low_of_lem (second s z) (max (second s z) (first s z)) small)
          ∙ ap₂ (λ (a c : ℕ). clamp a c (second s z)) (b.0 ∙ ap (λ (w : List ℕ). through m first second w s z 0) (sym e)) (b.1 ∙ ap (λ (w : List ℕ). through m first second w s z 3) (sym e)));
      high = λ s z hs hz.
          (let b = entry_ends s z hs hz in
          let g = l.tables.grades s z hs hz in
          let small = l.tables.second_small s z hs hz in
          ap high_of (r.filled s z hs hz) ∙ over_high (entry_byte classes p s z) (grades_at scratch s z) (entry_small s z hs hz)
          ∙ ap (clamp (low_of (entry_byte classes p s z)) (high_of (entry_byte classes p s z))) (ap high_of g ∙ high_of_lem (second s z) (max (second s z) (first s z)) small)
          ∙ ap₂ (λ (a c : ℕ). clamp a c (max (second s z) (first s z))) (b.0 ∙ ap (λ (w : List ℕ). through m first second w s z 0) (sym e)) (b.1 ∙ ap (λ (w : List ℕ). through m first second w s z 3) (sym e)));
    }

  -- ---- a letter

  module _ (st : Stepped m first second scratch p) (letter : x < m.letters) where
    element_inside : image_byte scratch x < m.size
    element_inside = rw (l.tables.images x letter) (l.tables.lawful.images x letter)

    pub letter_place_lem : LetterNeeds m.size (image_byte scratch x) scratch
    letter_place_lem = record {
      few_pairs = l.tables.few_pairs;
      inside = element_inside;
      products = λ t h. rw (l.tables.products (image_byte scratch x) t element_inside h) (l.tables.lawful.closed (image_byte scratch x) t element_inside h);
      room = l.room;
    }

    module _ {b : List ℕ} (r : RowsFilled (λ t z byte. byte ≡ letter_byte scratch m.size (image_byte scratch x) t z) until_class_base 64 m.size m.size scratch b) where
      pub class_front : FrontKept scratch b
      class_front = record { same_length = r.kept.same_length; front = λ i h. r.kept.before i h }

      pub class_steps : (i : ℕ) → until_step_base ≤ i → get_or b i 0 ≡ get_or scratch i 0
      class_steps i h = r.kept.after i (omega (arith, l.tables.few_pairs))

      -- the clamps of the word with the letter
      moved : (t : ℕ) → t < m.size → product_byte scratch m.size (image_byte scratch x) t ≡ m.product (m.image x) t
      moved t h = l.tables.products (image_byte scratch x) t element_inside h ∙ ap (λ (a : ℕ). m.product a t) (l.tables.images x letter)

      at : (t z : ℕ) → t < m.size → z < m.size → new_at b t z ≡ step_at scratch (m.product (m.image x) t) z
      unfolding letter_byte
      at t z ht hz = r.filled t z ht hz ∙ ap (λ (s : ℕ). step_at scratch s z) (moved t ht)

      context : (t : ℕ) → t < m.size → m.product (m.image x) t < m.size
      context t h = l.tables.lawful.closed (m.image x) t (l.tables.lawful.images x letter) h

      low_is : (t z : ℕ) → t < m.size → z < m.size → low_of (new_at b t z) ≡ through m first second (word_at scratch p ++ (x ∷ [])) t z 0
      low_is t z ht hz =
          ap low_of (at t z ht hz) ∙ st.low (m.product (m.image x) t) z (context t ht) hz
          ∙ sym (step_low m first second (word_at scratch p) x t z (l.tables.second_small (m.product (m.image x) t) z (context t ht) hz))

      high_is : (t z : ℕ) → t < m.size → z < m.size → high_of (new_at b t z) ≡ through m first second (word_at scratch p ++ (x ∷ [])) t z 3
      high_is t z ht hz =
          ap high_of (at t z ht hz) ∙ st.high (m.product (m.image x) t) z (context t ht) hz
          ∙ sym (step_high m first second (word_at scratch p) x t z (l.tables.second_small (m.product (m.image x) t) z (context t ht) hz) (l.tables.first_small (m.product (m.image x) t) z (context t ht) hz))

      -- ---- its pair

      pair_inside : (j : ℕ) → j < count → pair_at scratch j < m.size
      pair_inside j h = inside_of l.tables.lawful (word_is (search_rooted l.search) l.search.letters j h).over (l.held j h).its_value

      pair_kept : (j : ℕ) → j < count → pair_at b j ≡ pair_at scratch j
      pair_kept j h = class_front.front (28672 + j) (omega (arith, l.search.few))

      pub pair_needs : PairNeeds m.size p (image_byte scratch x) b
      pair_needs = record {
        few_pairs = l.tables.few_pairs;
        entry_small = omega (arith, l.search.few);
        inside = element_inside;
        pair_inside = λ h. rw (pair_kept (p - 1) (omega arith)) (pair_inside (p - 1) (omega arith));
        room = rw r.kept.same_length l.room;
      }

      letter_value : value m (x ∷ []) ≡ element (m.image x)
      unfolding value join
      letter_value = refl

      product_kept : (s t : ℕ) → s < m.size → t < m.size → product_byte b m.size s t ≡ m.product s t
      product_kept s t hs ht =
          class_front.front (16384 + (s * m.size + t)) (omega (arith, pair_small m.size s t l.tables.few_pairs hs ht)) ∙ l.tables.products s t hs ht

      value_is : value m (word_at scratch p ++ (x ∷ [])) ≡ element (pair_behind b m.size p (image_byte scratch x))
      value_is = go p refl
        where
          go : (q : ℕ) → p ≡ q → value m (word_at scratch p ++ (x ∷ [])) ≡ element (pair_behind b m.size p (image_byte scratch x))
          go zero e =
              ap (λ (w : List ℕ). value m (w ++ (x ∷ []))) (ap (word_at scratch) e ∙ word_empty scratch) ∙ letter_value
              ∙ ap element (sym (l.tables.images x letter) ∙ pair_letter b m.size p (image_byte scratch x) e)
          go (suc j) e =
              let h : j < count = omega arith in
              let w : word_at scratch p ≡ word_at scratch (suc j) = ap (word_at scratch) e in
              let q : p - 1 ≡ j = omega arith in
              ap (λ (v : List ℕ). value m (v ++ (x ∷ []))) w
              ∙ longer_value (word_at scratch (suc j)) x l.tables.lawful (word_is (search_rooted l.search) l.search.letters j h).over letter (l.held j h).its_value
              ∙ ap element (sym (ap₂ (product_byte b m.size) (ap (pair_at b) q ∙ pair_kept j h) (l.tables.images x letter)
              ∙ product_kept (pair_at scratch j) (m.image x) (pair_inside j h) (l.tables.lawful.images x letter)) ∙ pair_longer b m.size p (image_byte scratch x) (λ f. omega arith))

      -- the class that is worked out is that of the word with the letter
      pub new_class : {pair : ℕ} → pair ≡ pair_behind b m.size p (image_byte scratch x)
          → UntilClassOf m first second (word_at scratch p ++ (x ∷ [])) pair (λ t z. low_of (new_at b t z)) (λ t z. high_of (new_at b t z))
      new_class e = record { its_value = value_is ∙ ap element (sym e); its_low = low_is; its_high = high_is }

      pub pair_below : {pair : ℕ} → pair ≡ pair_behind b m.size p (image_byte scratch x) → pair < m.size
      pair_below e = inside_of l.tables.lawful (over_snoc entry_over letter) (new_class e).its_value
