-- Following letters and entries, from what the functions leave in bytes. Assumes nothing.
use Rattle.std.proofs.Common.{Option, Some, None}
use Prim.Native.Nat.{ℕ, ◌+◌, ◌≤◌, ◌<◌}
use native.Mathlib.Omega.{arith}
use mathlib.Core.Path.{◌≡◌, refl, sym, subst, ◌∙◌}
use mathlib.Core.List.{List, [], ◌∷◌, ◌++◌}
use lib.ListN.{length}
use Rattle.temporal.specs.Clamps.{UntilClassOf}
use Rattle.scratch.specs.Map.{until_class_base, until_step_base}
use Rattle.scratch.specs.Rows.{RowsFilled}
use Rattle.word_steps.specs.Records.{word_at}
use Rattle.word_steps.proofs.Searching.{search_next, search_end_lem}
use Rattle.until_clamps.specs.Clamps.{low_of, high_of}
use Rattle.until_step.specs.Bytes.{image_byte, new_at, stepped_byte, letter_byte, pair_behind, StepNeeds, LetterNeeds, PairNeeds}
use Rattle.until_list.specs.Listing.{pairs_table, Listing, Stepped}
use Rattle.until_list.specs.Adding.{AddNeeds, Added}
use Rattle.until_list.specs.Following.{LetterReady, EntryReady, EntryListed, ListReady, Grown, GrownAnswer, Followed, EntryFollowed, EntryGrown, UntilListed}
use Rattle.until_list.proofs.Keeping.{front_words, listing_front, stepped_kept}
use Rattle.until_list.proofs.Classes.{step_place_lem, step_front, step_stepped, letter_place_lem, class_front, class_steps, pair_needs, new_class, pair_below}
use Rattle.until_list.proofs.Following.{letter_grown}

-- ---- one letter

module _ {np k : ℕ} {scratch classes : List ℕ} {count p x : ℕ} (r : LetterReady np k scratch classes count p x) where
  pub image_room : 20480 + x < length scratch
  image_room = omega (arith, r.letter, r.listing.search.few_letters, r.listing.room)

  pub image_small : x < 16
  image_small = omega (arith, r.letter, r.listing.search.few_letters)

  pub rows_place : LetterNeeds np (image_byte scratch x) scratch
  rows_place = letter_place_lem r.listing r.inside r.stepped r.letter

  module _ {b : List ℕ} (w : RowsFilled (λ t z byte. byte ≡ letter_byte scratch np (image_byte scratch x) t z) until_class_base 64 np np scratch b) where
    pub behind_place : PairNeeds np p (image_byte scratch x) b
    behind_place = pair_needs r.listing r.inside r.stepped r.letter w

    pub add_place : {pair : ℕ} → pair ≡ pair_behind b np p (image_byte scratch x) → AddNeeds np count p x pair b classes
    add_place e =
        let few = r.listing.tables.few_pairs in
        let below = pair_below r.listing r.inside r.stepped r.letter w e in
        record {
          few_pairs = few;
          few = r.listing.search.few;
          entry_there = r.inside;
          letter_small = image_small;
          pair_small = omega arith;
          room = rw w.kept.same_length r.listing.room;
          classes_room = r.listing.classes_room;
        }

module _ {np k : ℕ} {scratch b exit classes classes' : List ℕ} {count p x pair : ℕ} (w : RowsFilled (λ t z byte. byte ≡ letter_byte scratch np (image_byte scratch x) t z) until_class_base 64 np np scratch b)
    (e : pair ≡ pair_behind b np p (image_byte scratch x)) where
  pub letter_followed : (answer : Option ℕ) → Added np b exit classes classes' count p x pair answer → Followed np k scratch exit classes classes' count p x answer
  letter_followed answer a = record {
    same_length = a.kept.same_length ∙ w.kept.same_length;
    classes_length = a.classes_length;
    says = λ product image first second l st inside letter.
        let m = pairs_table np k product image in
        let front = class_front l inside st letter w in
        let words = front_words l inside front in
        let l' = listing_front l inside front in
        let class : UntilClassOf m first second (word_at b p ++ (x ∷ [])) pair (λ t z. low_of (new_at b t z)) (λ t z. high_of (new_at b t z)) =
        subst (λ (v : List ℕ). UntilClassOf m first second (v ++ (x ∷ [])) pair (λ t z. low_of (new_at b t z)) (λ t z. high_of (new_at b t z))) (sym (words p inside)) (new_class l inside st letter w e) in
        letter_grown l' (stepped_kept (class_steps l inside st letter w) (words p inside) st) inside letter class exit classes' a.kept a.classes_length answer a.says;
  }

-- ---- the letters of an entry

-- the letters before x were followed from entry p
pub record FollowingLetters (np k : ℕ) (entry now classes classes' : List ℕ) (count p total x : ℕ) : Type 0 where
  pub same_length : length now ≡ length entry
  pub classes_length : length classes' ≡ length classes
  pub within : x ≤ k
  pub grown : (product : ℕ → ℕ → ℕ) (image : ℕ → ℕ) (first second : ℕ → ℕ → ℕ) → Listing (pairs_table np k product image) first second entry classes count p 0
      → Stepped (pairs_table np k product image) first second entry p → p ≤ count → Grown (pairs_table np k product image) first second now classes' count p x total

pub following_start : (np k : ℕ) (entry classes : List ℕ) (count p : ℕ) → FollowingLetters np k entry entry classes classes count p count 0
following_start np k entry classes count p = record {
  same_length = refl;
  classes_length = refl;
  within = omega arith;
  grown = λ product image first second l st inside. record { listing = l; stepped = st; more = omega arith };
}

module _ {np k : ℕ} {entry now classes classes' : List ℕ} {count p total x : ℕ} (f : FollowingLetters np k entry now classes classes' count p total x) where
  pub letter_ready : EntryReady np k entry classes count p → x < k → LetterReady np k now classes' total p x
  letter_ready r h =
      let g = f.grown r.product r.image r.first r.second r.listing r.stepped r.inside in
      record {
        product = r.product;
        image = r.image;
        first = r.first;
        second = r.second;
        listing = g.listing;
        stepped = g.stepped;
        inside = omega (arith, r.inside, g.more);
        letter = h;
      }

  module _ {next classes'' : List ℕ} {answer : Option ℕ} (s : Followed np k now next classes' classes'' total p x answer) (h : x < k) where
    pub following_next : {c : ℕ} → answer ≡ Some c → FollowingLetters np k entry next classes classes'' count p c (x + 1)
    following_next {c} e = record {
      same_length = s.same_length ∙ f.same_length;
      classes_length = s.classes_length ∙ f.classes_length;
      within = omega arith;
      grown = λ product image first second l st inside.
          let g = f.grown product image first second l st inside in
          let g' : Grown (pairs_table np k product image) first second next classes'' total p (x + 1) c =
          subst (GrownAnswer (pairs_table np k product image) first second next classes'' total p (x + 1)) e
          (s.says product image first second g.listing g.stepped (omega (arith, inside, g.more)) h) in
          record { listing = g'.listing; stepped = g'.stepped; more = omega (arith, g.more, g'.more) };
    }

    pub following_full : answer ≡ None → EntryFollowed np k entry next classes classes'' count p None
    following_full e = record {
      same_length = s.same_length ∙ f.same_length;
      classes_length = s.classes_length ∙ f.classes_length;
      says = λ product image first second l st inside.
          let g = f.grown product image first second l st inside in
          subst (GrownAnswer (pairs_table np k product image) first second next classes'' total p (x + 1)) e
          (s.says product image first second g.listing g.stepped (omega (arith, inside, g.more)) h);
    }

  pub following_done : k ≤ x → EntryFollowed np k entry now classes classes' count p (Some total)
  following_done h =
      let q : x ≡ k = omega (arith, f.within) in
      record {
        same_length = f.same_length;
        classes_length = f.classes_length;
        says = λ product image first second l st inside. subst (λ (y : ℕ). Grown (pairs_table np k product image) first second now classes' count p y total) q (f.grown product image first second l st inside);
      }

-- ---- an entry

module _ {np k : ℕ} {scratch classes : List ℕ} {count p : ℕ} (r : EntryListed np k scratch classes count p) where
  pub entry_place : StepNeeds np p scratch classes
  entry_place = step_place_lem r.listing r.inside

  pub entry_ready : {b : List ℕ} → RowsFilled (λ s z byte. byte ≡ stepped_byte classes scratch p s z) until_step_base 64 np np scratch b → EntryReady np k b classes count p
  entry_ready w =
      let front = step_front r.listing r.inside w in
      record {
        product = r.product;
        image = r.image;
        first = r.first;
        second = r.second;
        listing = listing_front r.listing r.inside front;
        stepped = step_stepped r.listing r.inside w (front_words r.listing r.inside front p r.inside);
        inside = r.inside;
      }

pub entry_grown : {np k : ℕ} {scratch b exit classes classes' : List ℕ} {count p : ℕ} {answer : Option ℕ}
    → RowsFilled (λ s z byte. byte ≡ stepped_byte classes scratch p s z) until_step_base 64 np np scratch b → EntryFollowed np k b exit classes classes' count p answer
    → EntryGrown np k scratch exit classes classes' count p answer
entry_grown {p = p} w f = record {
  same_length = f.same_length ∙ w.kept.same_length;
  classes_length = f.classes_length;
  says = λ product image first second l inside.
      let front = step_front l inside w in
      f.says product image first second (listing_front l inside front) (step_stepped l inside w (front_words l inside front p inside)) inside;
}

-- ---- the entries

-- the entries before p were followed
pub record Entries (np k : ℕ) (entry now classes classes' : List ℕ) (count p : ℕ) : Type 0 where
  pub same_length : length now ≡ length entry
  pub classes_length : length classes' ≡ length classes
  pub few : count ≤ 64
  pub listed : (product : ℕ → ℕ → ℕ) (image : ℕ → ℕ) (first second : ℕ → ℕ → ℕ) → Listing (pairs_table np k product image) first second entry classes 0 0 0
      → Listing (pairs_table np k product image) first second now classes' count p 0

pub entries_start : (np k : ℕ) (entry classes : List ℕ) → Entries np k entry entry classes classes 0 0
entries_start np k entry classes = record { same_length = refl; classes_length = refl; few = omega arith; listed = λ product image first second l. l }

module _ {np k : ℕ} {entry now classes classes' : List ℕ} {count p : ℕ} (f : Entries np k entry now classes classes' count p) (r : ListReady np k entry classes) where
  pub entry_listed : p ≤ count → EntryListed np k now classes' count p
  entry_listed h = record {
    product = r.product;
    image = r.image;
    first = r.first;
    second = r.second;
    listing = f.listed r.product r.image r.first r.second r.listing;
    inside = h;
  }

  module _ {next classes'' : List ℕ} {answer : Option ℕ} (s : EntryGrown np k now next classes' classes'' count p answer) (h : p ≤ count) where
    pub entries_next : {c : ℕ} → answer ≡ Some c → Entries np k entry next classes classes'' c (p + 1)
    entries_next {c} e = record {
      same_length = s.same_length ∙ f.same_length;
      classes_length = s.classes_length ∙ f.classes_length;
      few = (at r.product r.image r.first r.second r.listing).search.few;
      listed = at;
    }
      where
        at : (product : ℕ → ℕ → ℕ) (image : ℕ → ℕ) (first second : ℕ → ℕ → ℕ) → Listing (pairs_table np k product image) first second entry classes 0 0 0
            → Listing (pairs_table np k product image) first second next classes'' c (p + 1) 0
        at product image first second l =
            let g : Grown (pairs_table np k product image) first second next classes'' count p k c =
            subst (GrownAnswer (pairs_table np k product image) first second next classes'' count p k) e (s.says product image first second (f.listed product image first second l) h) in
            record {
              tables = g.listing.tables;
              search = search_next g.listing.search (omega arith);
              held = g.listing.held;
              room = g.listing.room;
              classes_room = g.listing.classes_room;
            }

    pub entries_full : answer ≡ None → UntilListed np k entry next classes classes'' None
    entries_full e = record {
      same_length = s.same_length ∙ f.same_length;
      classes_length = s.classes_length ∙ f.classes_length;
      says = λ product image first second l.
          subst (GrownAnswer (pairs_table np k product image) first second next classes'' count p k) e (s.says product image first second (f.listed product image first second l) h);
    }

  pub entries_done : count < p → UntilListed np k entry now classes classes' (Some count)
  entries_done h = record {
    same_length = f.same_length;
    classes_length = f.classes_length;
    says = λ product image first second l.
        let g = f.listed product image first second l in
        record { tables = g.tables; search = search_end_lem g.search h; held = g.held; room = g.room; classes_room = g.classes_room };
  }
