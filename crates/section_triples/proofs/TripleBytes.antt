-- The bytes of triples, each in its range: what going through them triple by triple shows. Assumes nothing.
use Prim.Native.Nat.{ℕ, ◌+◌, ◌*◌, ◌%◌, ◌≤◌, ◌<◌}
use mathlib.Core.Path.{◌≡◌, refl, sym, ap, subst}
use mathlib.Core.Bool.{cond}
use mathlib.Core.Logic.{◌⊎◌, inr}
use mathlib.Core.List.{List}
use native.Mathlib.Omega.{arith}
use lib.Dec.{eqb}
use lib.ListN.{get_or}
use Rattle.formats.specs.Sections.{InRange}
use Rattle.formats.proofs.Sections.{FirstOut, AllInRange}
use Rattle.section_bounds.proofs.Laws.{one_more_in, out_first, from_zero, found_at}
use Rattle.std.specs.Prelude.{Option, Some}
use Rattle.formats.proofs.Triples.{first_of, second_of, third_of, by_triples}
use Rattle.section_columns.specs.Triples.{SomeTriplesIn}
use Rattle.section_triples.specs.Ranges.{TripleRanges, TriplesFound}

-- a number by the byte's place in its triple
unfoldable by_place : ℕ → ℕ → ℕ → ℕ → ℕ
by_place a b c i = cond (eqb (i % 3) 0) a (cond (eqb (i % 3) 1) b c)

module _ (a b c i : ℕ) where
  at_first : by_place a b c (3 * i) ≡ a
  unfolding by_place
  at_first = ap (λ (x : ℕ). cond (eqb x 0) a (cond (eqb x 1) b c)) (first_of i)

  at_second : by_place a b c (3 * i + 1) ≡ b
  unfolding by_place
  at_second = ap (λ (x : ℕ). cond (eqb x 0) a (cond (eqb x 1) b c)) (second_of i)

  at_third : by_place a b c (3 * i + 2) ≡ c
  unfolding by_place
  at_third = ap (λ (x : ℕ). cond (eqb x 0) a (cond (eqb x 1) b c)) (third_of i)

some_ranges : (first second third least : ℕ) → TripleRanges (by_place 0 0 least) (by_place first second third) first second third least
some_ranges first second third least = record {
  bound_first = at_first first second third;
  bound_second = at_second first second third;
  bound_third = at_third first second third;
  floor_first = at_first 0 0 least;
  floor_second = at_second 0 0 least;
  floor_third = at_third 0 0 least;
}

-- a byte that was found out of its range is one of the triples', whatever the ranges are
pub found_below : (rest : List ℕ) (count first second third least : ℕ) (found : Option ℕ) → TriplesFound rest count first second third least found
    → {i : ℕ} → found ≡ Some i → i < 3 * count
found_below rest count first second third least found answer e =
    (found_at found (answer _ _ (some_ranges first second third least)) e).below

-- a byte is in its range, where the range is known
known_in : (floor bound : ℕ → ℕ) (index : ℕ) {f b : ℕ} → floor index ≡ f → bound index ≡ b → {byte : ℕ} → InRange f b byte → InRange (floor index) (bound index) byte
known_in floor bound index {f} {b} ef eb {byte} h =
    subst (λ (x : ℕ). InRange x (bound index) byte) (sym ef) (subst (λ (x : ℕ). InRange f x byte) (sym eb) h)

-- one more byte in its range, or the first that is not, where the range is known
module _ {rest : List ℕ} {floor bound : ℕ → ℕ} {index f b : ℕ} (t : AllInRange rest 2 index floor bound) (ef : floor index ≡ f) (eb : bound index ≡ b) where
  one_more : InRange f b (get_or rest (2 + index) 0) → {size : ℕ} → index + 1 ≡ size → AllInRange rest 2 size floor bound
  one_more h n =
      subst (λ (x : ℕ). AllInRange rest 2 x floor bound) n
      (one_more_in t (known_in floor bound index ef eb h))

  beyond : {size : ℕ} → (get_or rest (2 + index) 0 < f) ⊎ (b ≤ get_or rest (2 + index) 0) → index < size → FirstOut rest 2 size floor bound index
  beyond h l =
      out_first t l
      (subst (λ (x : ℕ). (get_or rest (2 + index) 0 < x) ⊎ (bound index ≤ get_or rest (2 + index) 0)) (sym ef)
      (subst (λ (x : ℕ). (get_or rest (2 + index) 0 < f) ⊎ (x ≤ get_or rest (2 + index) 0)) (sym eb) h))

-- the triples before the i-th are in their ranges, whatever the ranges are
abbrev pub TriplesPassed : List ℕ → ℕ → ℕ → ℕ → ℕ → ℕ → Type 0
TriplesPassed rest first second third least i =
    (floor bound : ℕ → ℕ) → TripleRanges floor bound first second third least → AllInRange rest 2 (3 * i) floor bound

-- triples that are known to be in range are
pub known_passed : {rest : List ℕ} {count first second third least known : ℕ} → SomeTriplesIn rest count first second third least known
    → TriplesPassed rest first second third least known
known_passed {rest} {count} {first} {second} {third} {least} {known} t floor bound r = record {
  each = by_triples (λ j. InRange (floor j) (bound j) (get_or rest (2 + j) 0)) known
      (λ i h. known_in floor bound (3 * i) (r.floor_first i) (r.bound_first i) (from_zero (t.each i h).first_in))
      (λ i h. known_in floor bound (3 * i + 1) (r.floor_second i) (r.bound_second i) (from_zero (t.each i h).second_in))
      (λ i h. known_in floor bound (3 * i + 2) (r.floor_third i) (r.bound_third i) (t.each i h).third_in);
}

module _ {rest : List ℕ} (first second third least i : ℕ) (t : TriplesPassed rest first second third least i) (count : ℕ) (l : i < count)
    (floor bound : ℕ → ℕ) (r : TripleRanges floor bound first second third least) where
  -- the first byte is out of its range
  pub beyond_first : first ≤ get_or rest (2 + 3 * i) 0 → FirstOut rest 2 (3 * count) floor bound (3 * i)
  beyond_first h = beyond (t floor bound r) (r.floor_first i) (r.bound_first i) (inr h) (omega arith)

  module _ (h₁ : get_or rest (2 + 3 * i) 0 < first) where
    after_first : AllInRange rest 2 (3 * i + 1) floor bound
    after_first = one_more (t floor bound r) (r.floor_first i) (r.bound_first i) (from_zero h₁) refl

    -- the second is
    pub beyond_second : second ≤ get_or rest (2 + (3 * i + 1)) 0 → FirstOut rest 2 (3 * count) floor bound (3 * i + 1)
    beyond_second h = beyond after_first (r.floor_second i) (r.bound_second i) (inr h) (omega arith)

    module _ (h₂ : get_or rest (2 + (3 * i + 1)) 0 < second) where
      after_second : AllInRange rest 2 (3 * i + 2) floor bound
      after_second = one_more after_first (r.floor_second i) (r.bound_second i) (from_zero h₂) (omega arith)

      -- the third is
      pub beyond_third : (get_or rest (2 + (3 * i + 2)) 0 < least) ⊎ (third ≤ get_or rest (2 + (3 * i + 2)) 0) → FirstOut rest 2 (3 * count) floor bound (3 * i + 2)
      beyond_third h = beyond after_second (r.floor_third i) (r.bound_third i) h (omega arith)

      -- the triple is good
      pub triple_good : InRange least third (get_or rest (2 + (3 * i + 2)) 0) → AllInRange rest 2 (3 * (i + 1)) floor bound
      triple_good h = one_more after_second (r.floor_third i) (r.bound_third i) h (omega arith)
