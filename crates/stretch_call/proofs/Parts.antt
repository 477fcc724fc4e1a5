-- What a stretch is on each way through the lengths and the position. Assumes nothing.
use Prim.Native.Nat.{ℕ, ◌+◌, ◌-◌, ◌%◌, ◌≤◌, ◌<◌}
use mathlib.Core.Path.{◌≡◌, refl, sym, ap, ◌∙◌}
use mathlib.Core.Bool.{Bool, true, false, cond, ◌&&◌}
use mathlib.Core.List.{List, []}
use borrow.Author.Tests.{le-leb, lt-leb, lt-ltb, le-ltb}
use lib.Dec.{leb}
use lib.ListN.{length, take, drop}
use denote.Ref.{Bor}
use denote.Slice.{shr_slice_vals}
use Rattle.promises.specs.Stretch.{word_fits, lasso_fits, unread, stretch_of, Pointer, unread_place, stretch_place}
use Rattle.formats.specs.WordChecks.{shortest_start, shortest_cycle, longest_word}
use Rattle.formats.proofs.SectionList.{rest_of}

-- a length that refusal 11 names, for a word of at least `shortest` letters
pub data Unfit (shortest : ℕ) (w : List ℕ) : Type 0 where
  empty : length w < shortest → Unfit shortest w
  long : longest_word < length w → Unfit shortest w

and_false : (a : Bool) {b : Bool} → b ≡ false → a && b ≡ false
and_false true e = e
and_false false e = refl

unfit : {shortest : ℕ} {w : List ℕ} → Unfit shortest w → word_fits shortest w ≡ false
unfit {shortest} {w} (empty h) = simp (lt-leb shortest (length w) h)
unfit {shortest} {w} (long h) = and_false (leb shortest (length w)) (lt-leb (length w) longest_word h)

-- a bad length of the start
pub start_unfit : {u : List ℕ} (v : List ℕ) (at : ℕ) → Unfit shortest_start u → [] ≡ stretch_of u v at
unfolding stretch_of
start_unfit {u} v at h = simp (unfit h)

-- a bad length of the cycle
pub cycle_unfit : (u : List ℕ) {v : List ℕ} (at : ℕ) → Unfit shortest_cycle v → [] ≡ stretch_of u v at
unfolding stretch_of
cycle_unfit u {v} at h = sym (ap (λ (b : Bool). cond b (unread u v at) []) (and_false (word_fits shortest_start u) (unfit h)))

-- a length that the calls take
pub record Fit (shortest : ℕ) (w : List ℕ) : Type 0 where
  pub some : shortest ≤ length w
  pub short : length w ≤ longest_word

fit : {shortest : ℕ} {w : List ℕ} → Fit shortest w → word_fits shortest w ≡ true
fit {shortest} {w} f = simp (le-leb shortest (length w) f.some, le-leb (length w) longest_word f.short)

module _ {u v : List ℕ} (fu : Fit shortest_start u) (fv : Fit shortest_cycle v) (at : ℕ) where
  inside : stretch_of u v at ≡ unread u v at
  unfolding stretch_of
  inside = simp (fit fu, fit fv)

  -- inside u
  pub in_start : at < length u → take (length u - at) (drop at u) ≡ stretch_of u v at
  unfolding unread
  in_start h = rest_of u at ∙ sym (simp (lt-ltb at (length u) h)) ∙ sym inside

  -- past u
  pub in_cycle : length u ≤ at → take (length v - (at - length u) % length v) (drop ((at - length u) % length v) v) ≡ stretch_of u v at
  unfolding unread
  in_cycle h = rest_of v ((at - length u) % length v) ∙ sym (simp (le-ltb at (length u) h)) ∙ sym inside

-- where the part begins, for a u that begins at p and a v that begins at q
module _ (p q : Pointer) where
  pub start_unfit_place : {u : List ℕ} (v : List ℕ) (at : ℕ) → Unfit shortest_start u → p ≡ stretch_place p q u v at
  unfolding stretch_place
  start_unfit_place v at h = simp (unfit h)

  pub cycle_unfit_place : (u : List ℕ) {v : List ℕ} (at : ℕ) → Unfit shortest_cycle v → p ≡ stretch_place p q u v at
  unfolding stretch_place
  cycle_unfit_place u {v} at h = sym (ap (λ (b : Bool). cond b (unread_place p q u v at) p) (and_false (word_fits shortest_start u) (unfit h)))

  module _ {u v : List ℕ} (fu : Fit shortest_start u) (fv : Fit shortest_cycle v) (at : ℕ) where
    inside_place : stretch_place p q u v at ≡ unread_place p q u v at
    unfolding stretch_place
    inside_place = simp (fit fu, fit fv)

    -- the code's count of bytes is the offset, by whichever sum
    pub in_start_place : {o : ℕ} → at < length u → o ≡ p.1 + at → (p.0, o) ≡ stretch_place p q u v at
    unfolding unread_place
    in_start_place h e =
        ap {B = Pointer} (λ (x : ℕ). (p.0, x)) e ∙ sym (simp (lt-ltb at (length u) h)) ∙ sym inside_place

    pub in_cycle_place : {o : ℕ} → length u ≤ at → o ≡ q.1 + (at - length u) % length v → (q.0, o) ≡ stretch_place p q u v at
    unfolding unread_place
    in_cycle_place h e =
        ap {B = Pointer} (λ (x : ℕ). (q.0, x)) e ∙ sym (simp (le-ltb at (length u) h)) ∙ sym inside_place

-- two answers to one call are one slice of the machine: its pointer and its number of elements
pub one_part : (p q : Pointer) (u v : List ℕ) (at : ℕ) (r s : Bor (List ℕ)) → r.now ≡ stretch_of u v at → s.now ≡ stretch_of u v at
    → r.ref_ptr ≡ stretch_place p q u v at → s.ref_ptr ≡ stretch_place p q u v at → shr_slice_vals r ≡ shr_slice_vals s
one_part p q u v at r s letters-r letters-s place-r place-s =
    let letters : r.now ≡ s.now = cc in
    let place : r.ref_ptr ≡ s.ref_ptr = cc in
    cc

-- whether both lengths are taken
pub fits_not_start : (u v : List ℕ) → Unfit shortest_start u → false ≡ lasso_fits u v
fits_not_start u v h = sym (ap (λ (b : Bool). b && word_fits shortest_cycle v) (unfit h))

pub fits_not_cycle : (u v : List ℕ) → Unfit shortest_cycle v → false ≡ lasso_fits u v
fits_not_cycle u v h = sym (and_false (word_fits shortest_start u) (unfit h))

pub fits_by_cycle : (u v : List ℕ) → Fit shortest_start u → 1 ≤ length v → leb (length v) longest_word ≡ lasso_fits u v
fits_by_cycle u v fu some = sym (simp (fit fu, le-leb 1 (length v) some))
