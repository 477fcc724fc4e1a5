-- Bytes that are stored one after the other, as far as there is room. Assumes nothing.
use Prim.Native.Nat.{ℕ, suc, ◌+◌, ◌≤◌}
use mathlib.Core.Path.{◌≡◌, refl, sym, ap, ◌∙◌}
use mathlib.Core.Logic.{by_cases}
use mathlib.Core.List.{List, [], ◌∷◌, ◌++◌}
use native.Mathlib.Omega.{arith}
use native.Mathlib.Decide.{dec_le}
use native.Mathlib.Nat.{add-zero}
use lib.ListN.{length, take, drop, set, length-set, length-append}
use lib.Seq.{sets, set_out, length-sets, length-take-le, take-nil}
use Rattle.example_lists.specs.Storing.{Stored, ListStored}

sets_append : (x y d : List ℕ) (i : ℕ) → sets d i (x ++ y) ≡ sets (sets d i x) (i + length x) y
sets_append [] y d i = ap (λ (k : ℕ). sets d k y) (sym (add-zero i))
sets_append (a ∷ x) y d i =
    sets_append x y (set d i a) (suc i)
    ∙ ap (λ (k : ℕ). sets (sets (set d i a) (suc i) x) k y) (let q : suc i + length x ≡ i + suc (length x) = omega arith in q)

-- no room
sets_out : (y d : List ℕ) (i : ℕ) → length d ≤ i → sets d i y ≡ d
sets_out [] d i h = refl
sets_out (a ∷ y) d i h = sets_out y (set d i a) (suc i) (omega (arith, length-set d i a)) ∙ set_out d i a h

sets_behind : (y d : List ℕ) (b i : ℕ) → sets (b ∷ d) (suc i) y ≡ b ∷ sets d i y
sets_behind [] d b i = refl
sets_behind (a ∷ y) d b i = sets_behind y (set d i a) b (suc i)

-- from the front on
sets_front : (y d : List ℕ) → sets d 0 y ≡ take (length d) y ++ drop (length y) d
sets_front [] d = rw take-nil
sets_front (a ∷ y) [] = sets_out y [] 1 (omega arith)
sets_front (a ∷ y) (b ∷ d) = sets_behind y d a 0 ∙ ap (λ (t : List ℕ). a ∷ t) (sets_front y d)

pub stored_none : {d : List ℕ} {at : ℕ} → at ≤ length d → Stored d at [] d at
stored_none h = record { holds = refl; ends = omega arith }

-- a byte that there is no room for
pub stored_past : {d : List ℕ} {at : ℕ} (byte : ℕ) → length d ≤ at → Stored d at (byte ∷ []) d (length d)
stored_past {d} {at} byte h = record { holds = sym (set_out d at byte h); ends = omega arith }

module _ {d : List ℕ} {at : ℕ} {x e : List ℕ} {mid : ℕ} (s : Stored d at x e mid) where
  pub stored_length : length e ≡ length d
  stored_length = ap length s.holds ∙ length-sets d at x

  pub stored_inside : mid ≤ length e
  stored_inside = omega (arith, stored_length, s.ends)

  -- y after x
  pub stored_more : {y f : List ℕ} {end : ℕ} → Stored e mid y f end → Stored d at (x ++ y) f end
  stored_more {y} {f} {end} t = record {
    holds = t.holds ∙ after_both ∙ sym (sets_append x y d at);
    ends = omega (arith, t.ends, s.ends, stored_length, length-append x y);
  }
    where
      after_both : sets e mid y ≡ sets (sets d at x) (at + length x) y
      after_both = by_cases (dec_le (at + length x) (length d))
          (λ l.
          ap (λ (k : ℕ). sets e k y) (let q : mid ≡ at + length x = omega (arith, s.ends) in q)
          ∙ ap (λ (b : List ℕ). sets b (at + length x) y) s.holds)
          (λ l.
          sets_out y e mid (omega (arith, s.ends, stored_length))
          ∙ s.holds
          ∙ sym (sets_out y (sets d at x) (at + length x) (omega (arith, length-sets d at x))))

-- all that was stored from the front on
pub stored_listed : {d x e : List ℕ} {end : ℕ} → Stored d 0 x e end → ListStored d x e end
stored_listed {d} {x} s = record { holds = s.holds ∙ sets_front x d; counts = omega (arith, s.ends) }

-- the answer counts bytes of the buffer
pub stored_counts : {d : List ℕ} {at : ℕ} {x e : List ℕ} {end : ℕ} → Stored d at x e end → end ≡ length (take end e)
stored_counts {e = e} {end = end} s = sym (length-take-le end e (stored_inside s))
