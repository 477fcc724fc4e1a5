-- Bytes in chunks of 96, and a byte kept for each of the 96 places: none of the bytes at its place is above it, or none is below.
-- Assumes nothing.
use Prim.Native.Nat.{ℕ, ◌+◌, ◌*◌, ◌/◌, ◌%◌, ◌≤◌, ◌<◌}
use mathlib.Core.Path.{◌≡◌, sym, ◌∙◌, subst}
use mathlib.Core.List.{List}
use native.Mathlib.Omega.{arith}
use native.Mathlib.Decide.{ℕ_discrete}
use borrow.Author.Count.{below_more}
use lib.ListN.{length, get_or, set, length-set}
use lib.Seq.{get_or-set_same, get_or-set_other}
use Rattle.section_columns.specs.Triples.{PlaceIn, PlacesIn, SomeTriplesIn}

abbrev pub NotAbove : ℕ → ℕ → Type 0
NotAbove kept byte = byte ≤ kept

abbrev pub NotBelow : ℕ → ℕ → Type 0
NotBelow kept byte = kept ≤ byte

-- the bytes of the first c chunks, and the first j of the next, stand so to the byte that is kept for their place
pub record Kept (R : ℕ → ℕ → Type 0) (rest places : List ℕ) (c j : ℕ) : Type 0 where
  pub room : length places ≡ 96
  pub each : (d k : ℕ) → k < 96 → 96 * d + k < 96 * c + j → R (get_or places k 0) (get_or rest (2 + (96 * d + k)) 0)

-- no byte yet
pub none_kept : (R : ℕ → ℕ → Type 0) (rest places : List ℕ) → length places ≡ 96 → Kept R rest places 0 0
none_kept R rest places room = record { room = room; each = λ d k l h. absurd (let z : ⊥ = omega arith in z) }

module _ {R : ℕ → ℕ → Type 0} {rest places : List ℕ} {c j : ℕ} (so_far : Kept R rest places c j) where
  -- a chunk more
  pub chunk_kept : 96 ≤ j → Kept R rest places (c + 1) 0
  chunk_kept h = record { room = so_far.room; each = λ d k l g. so_far.each d k l (omega arith) }

  -- a byte more
  module _ (small : j < 96) (v : ℕ) (carry : (x : ℕ) → R (get_or places j 0) x → R v x) (new : R v (get_or rest (2 + (96 * c + j)) 0)) where
    same : get_or (set places j v) j 0 ≡ v
    same = get_or-set_same places j v 0 (omega (arith, so_far.room))

    here : (d : ℕ) → 96 * d + j < 96 * c + (j + 1) → Dec (d ≡ c) → R v (get_or rest (2 + (96 * d + j)) 0)
    here d h (yes e) = subst (λ (x : ℕ). R v (get_or rest (2 + (96 * x + j)) 0)) (sym e) new
    here d h (no f) = carry _ (so_far.each d j small (omega arith))

    at : (d k : ℕ) → k < 96 → 96 * d + k < 96 * c + (j + 1) → Dec (k ≡ j) → R (get_or (set places j v) k 0) (get_or rest (2 + (96 * d + k)) 0)
    at d k l h (yes q) =
        subst (λ (x : ℕ). R (get_or (set places j v) x 0) (get_or rest (2 + (96 * d + x)) 0)) (sym q)
        (subst (λ (x : ℕ). R x (get_or rest (2 + (96 * d + j)) 0)) (sym same) (here d (omega arith) (ℕ_discrete d c)))
    at d k l h (no f) =
        subst (λ (x : ℕ). R x (get_or rest (2 + (96 * d + k)) 0)) (sym (get_or-set_other places j k v 0 f))
        (so_far.each d k l (omega arith))

    pub byte_kept : Kept R rest (set places j v) c (j + 1)
    byte_kept = record { room = length-set places j v ∙ so_far.room; each = λ d k l h. at d k l h (ℕ_discrete k j) }

-- the places of a triple more
pub no_place : (low top : List ℕ) (first second third least : ℕ) → PlacesIn low top first second third least 0
no_place low top first second third least = record { each = λ i h. absurd (let z : ⊥ = omega arith in z) }

pub one_place : {low top : List ℕ} {first second third least i : ℕ} → PlacesIn low top first second third least i → PlaceIn low top first second third least i
    → PlacesIn low top first second third least (i + 1)
one_place t h = record { each = below_more _ _ t.each h }

pub all_places : {low top : List ℕ} {first second third least some : ℕ} → PlacesIn low top first second third least some → {all : ℕ} → all ≤ some
    → PlacesIn low top first second third least all
all_places t l = record { each = λ i h. t.each i (omega arith) }

-- no triple
pub none_in : (rest : List ℕ) (count first second third least : ℕ) → SomeTriplesIn rest count first second third least 0
none_in rest count first second third least = record { within = omega arith; each = λ i h. absurd (let z : ⊥ = omega arith in z) }

-- the byte kept for a place of a triple in the chunks
of_place : {R : ℕ → ℕ → Type 0} {rest places : List ℕ} {c j : ℕ} → Kept R rest places c j → (i k a : ℕ) → i < 32 * c → k < 96 → 96 * (i / 32) + k ≡ a
    → R (get_or places k 0) (get_or rest (2 + a) 0)
of_place {R} {rest} {places} kept i k a l h e =
    subst (λ (x : ℕ). R (get_or places k 0) (get_or rest (2 + x) 0)) e (kept.each (i / 32) k h (omega arith))

-- where all places are in their ranges, the triples of the chunks are
pub chunks_in : {rest low top : List ℕ} {c j first second third least : ℕ} (count : ℕ) → Kept NotAbove rest top c j → Kept NotBelow rest low c j
    → PlacesIn low top first second third least 32 → {chunks : ℕ} → chunks ≤ c → 32 * chunks ≤ count
    → SomeTriplesIn rest count first second third least (32 * chunks)
chunks_in {rest} {low} {top} {c} {j} {first} {second} {third} {least} count above below places many within = record {
  within = within;
  each = λ i h.
      let p : PlaceIn low top first second third least (i % 32) = places.each (i % 32) (omega arith) in
      record {
        first_in = omega (arith, p.first_below, of_place above i (3 * (i % 32)) (3 * i) (omega arith) (omega arith) (omega arith));
        second_in = omega (arith, p.second_below, of_place above i (3 * (i % 32) + 1) (3 * i + 1) (omega arith) (omega arith) (omega arith));
        third_in = record {
          above = omega (arith, p.third_above, of_place below i (3 * (i % 32) + 2) (3 * i + 2) (omega arith) (omega arith) (omega arith));
          below = omega (arith, p.third_below, of_place above i (3 * (i % 32) + 2) (3 * i + 2) (omega arith) (omega arith) (omega arith));
        };
      };
}
