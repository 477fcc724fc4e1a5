-- A part of a buffer that is filled with zeros from its front. Assumes nothing.
use Prim.Native.Nat.{ℕ, ◌+◌, ◌≤◌, ◌<◌}
use mathlib.Core.Path.{◌≡◌, refl, sym, ◌∙◌, subst}
use mathlib.Core.Logic.{⊎_elim}
use mathlib.Core.List.{List}
use native.Mathlib.Omega.{arith}
use native.Mathlib.Nat.{eq-or-lt_of_le}
use lib.ListN.{length, get_or, set, replicate, length-set, length-replicate, get_or-replicate}
use lib.Seq.{get_or-set_same, get_or-set_other, ext_get_or}
use Rattle.sections.specs.Answers.{PartZeroed}

-- no byte of the part yet
pub part_start : (from : ℕ) (entry : List ℕ) → PartZeroed from from entry entry
part_start from entry = record {
  zeros = λ i l h. absurd (let z : ⊥ = omega arith in z);
  outside = record { same_length = refl; before = λ i h. refl; after = λ i h. refl };
}

-- one byte more
pub part_next : {from at : ℕ} {entry now : List ℕ} → from ≤ at → PartZeroed from at entry now → at < length now
    → PartZeroed from (at + 1) entry (set now at 0)
part_next {from} {at} {entry} {now} g z l = record {
  zeros = λ i k h. ⊎_elim
      (λ (e : i ≡ at). subst (λ (x : ℕ). get_or (set now at 0) x 0 ≡ 0) (sym e) (get_or-set_same now at 0 0 l))
      (λ (b : i < at). get_or-set_other now at i 0 0 (λ e. omega arith) ∙ z.zeros i k b)
      (eq-or-lt_of_le (let b : i ≤ at = omega arith in b));
  outside = record {
    same_length = length-set now at 0 ∙ z.outside.same_length;
    before = λ i h. get_or-set_other now at i 0 0 (λ e. omega arith) ∙ z.outside.before i h;
    after = λ i h. get_or-set_other now at i 0 0 (λ e. omega arith) ∙ z.outside.after i (omega arith);
  };
}

-- all of the part
pub part_all : {from at to : ℕ} {entry now : List ℕ} → at ≤ to → to ≤ at → PartZeroed from at entry now → PartZeroed from to entry now
part_all {from} {at} {to} {entry} {now} h l = subst (λ (x : ℕ). PartZeroed from x entry now) (let e : at ≡ to = omega arith in e)

-- the whole buffer
pub all_zeros : {entry now : List ℕ} {at : ℕ} → PartZeroed 0 at entry now → length entry ≤ at → now ≡ replicate (length entry) 0
all_zeros {entry} {now} z l =
    let e : length now ≡ length entry = z.outside.same_length in
    ext_get_or 0 now (replicate (length entry) 0) (e ∙ sym (length-replicate (length entry) 0))
    (λ i h. z.zeros i (omega arith) (omega arith) ∙ sym (get_or-replicate (length entry) i 0 0 (omega arith)))
