-- Bytes put into a buffer at a place: the buffer keeps its length, bytes put after others or before them stand in one row,
-- and a store puts one byte. Assumes nothing.
use Prim.Native.Nat.{ℕ, ◌+◌, ◌≤◌, ◌<◌}
use mathlib.Core.Path.{◌≡◌, refl, sym, ap, ap₂, ◌∙◌}
use mathlib.Core.List.{List, [], ◌∷◌, ◌++◌, append_assoc}
use native.Mathlib.Omega.{arith}
use native.Mathlib.Nat.{add-zero, zero-add, add_assoc}
use native.Mathlib.Numerals.{add-one}
use lib.ListN.{length, take, drop, set, length-set, length-append, length-drop, take-append-drop}
use lib.Seq.{length-take-le, take_at, drop_at, take-append-le, take-take, drop-drop, set_split}
use Rattle.formats.specs.Front.{AtFront}
use Rattle.rule_bytes.specs.Writing.{placed, Written}

-- nothing put anywhere
placed_none : (d : List ℕ) (at : ℕ) → placed d at [] ≡ d
unfolding placed
placed_none d at = rw add-zero (take-append-drop at d)

pub placed_length : (d : List ℕ) (at : ℕ) (x : List ℕ) → at + length x ≤ length d → length (placed d at x) ≡ length d
unfolding placed
placed_length d at x h = simp (length-append, length-drop) (omega (arith, length-take-le at d (let l : at ≤ length d = omega arith in l)))

-- what follows both
after_both : (d : List ℕ) (at : ℕ) (x y : List ℕ) → drop (at + length x + length y) d ≡ drop (at + length (x ++ y)) d
after_both d at x y = ap (λ (n : ℕ). drop n d) (add_assoc at (length x) (length y) ∙ ap (λ (n : ℕ). at + n) (sym (length-append x y)))

-- y after x
placed_after : (d : List ℕ) (at : ℕ) (x y : List ℕ) → at + (length x + length y) ≤ length d
    → placed (placed d at x) (at + length x) y ≡ placed d at (x ++ y)
unfolding placed
placed_after d at x y h =
    ap₂ (λ (a b : List ℕ). a ++ (y ++ b)) front back ∙ rearrange
  where
    r : List ℕ
    r = drop (at + length x) d

    long : length (take at d ++ x) ≡ at + length x
    long = length-append (take at d) x ∙ ap (λ (n : ℕ). n + length x) (length-take-le at d (omega arith))

    front : take (at + length x) (take at d ++ (x ++ r)) ≡ take at d ++ x
    front = rw (← append_assoc (take at d) x r) (take_at (take at d ++ x) r (at + length x) long)

    back : drop (at + length x + length y) (take at d ++ (x ++ r)) ≡ drop (at + length (x ++ y)) d
    back =
        sym (drop-drop (length y) (at + length x) (take at d ++ (x ++ r)))
        ∙ ap (drop (length y)) (ap (drop (at + length x)) (sym (append_assoc (take at d) x r)) ∙ drop_at (take at d ++ x) r (at + length x) long)
        ∙ drop-drop (length y) (at + length x) d
        ∙ after_both d at x y

    rearrange : (take at d ++ x) ++ (y ++ drop (at + length (x ++ y)) d) ≡ take at d ++ ((x ++ y) ++ drop (at + length (x ++ y)) d)
    rearrange = simp append_assoc

-- x before y
placed_before : (d : List ℕ) (at : ℕ) (x y : List ℕ) → at + (length x + length y) ≤ length d
    → placed (placed d (at + length x) y) at x ≡ placed d at (x ++ y)
unfolding placed
placed_before d at x y h =
    ap₂ (λ (a b : List ℕ). a ++ (x ++ b)) front back ∙ rearrange
  where
    r : List ℕ
    r = y ++ drop (at + length x + length y) d

    long : length (take (at + length x) d) ≡ at + length x
    long = length-take-le (at + length x) d (omega arith)

    front : take at (take (at + length x) d ++ r) ≡ take at d
    front = take-append-le at (take (at + length x) d) r (omega (arith, long)) ∙ take-take at (at + length x) d (omega arith)

    back : drop (at + length x) (take (at + length x) d ++ r) ≡ y ++ drop (at + length (x ++ y)) d
    back = drop_at (take (at + length x) d) r (at + length x) long ∙ ap (λ (t : List ℕ). y ++ t) (after_both d at x y)

    rearrange : take at d ++ (x ++ (y ++ drop (at + length (x ++ y)) d)) ≡ take at d ++ ((x ++ y) ++ drop (at + length (x ++ y)) d)
    rearrange = simp append_assoc

-- one byte
placed_one : (d : List ℕ) (at a : ℕ) → at < length d → set d at a ≡ placed d at (a ∷ [])
unfolding placed
placed_one d at a h = rw add-one (set_split d at a h)

-- nothing was written
pub written_none : (d : List ℕ) (at : ℕ) → Written d at [] d at
written_none d at = record { holds = sym (placed_none d at); ends = sym (add-zero at) }

-- a store wrote one byte
pub written_store : (d : List ℕ) (at a : ℕ) → at < length d → Written d at (a ∷ []) (set d at a) (at + 1)
written_store d at a h = record { holds = placed_one d at a h; ends = refl }

module _ {d : List ℕ} {at : ℕ} {x : List ℕ} {e : List ℕ} {mid : ℕ} (w : Written d at x e mid) where
  -- a buffer keeps its length
  pub written_length : at + length x ≤ length d → length e ≡ length d
  written_length h = ap length w.holds ∙ placed_length d at x h

  -- y was written after x
  pub written_more : {y : List ℕ} {f : List ℕ} {end : ℕ} → Written e mid y f end → at + (length x + length y) ≤ length d → Written d at (x ++ y) f end
  written_more {y} {f} {end} v h = record {
    holds = v.holds ∙ ap₂ (λ (l : List ℕ) (i : ℕ). placed l i y) w.holds w.ends ∙ placed_after d at x y h;
    ends = omega (arith, v.ends, w.ends, length-append x y);
  }

-- what was written at place 0 is at the front
pub written_at_front : {before bytes after : List ℕ} {end : ℕ} → Written before 0 bytes after end → AtFront bytes before after end
unfolding placed
written_at_front {before} {bytes} w =
    record { holds = w.holds ∙ ap (λ (k : ℕ). bytes ++ drop k before) (zero-add (length bytes)); counts = w.ends ∙ zero-add (length bytes) }

-- two stores in a row wrote two bytes
pub written_two : (d : List ℕ) (at a b : ℕ) → at + 2 ≤ length d → Written d at (a ∷ b ∷ []) (set (set d at a) (at + 1) b) (at + 2)
written_two d at a b h =
    let w =
    written_more (written_store d at a (omega arith)) (written_store (set d at a) (at + 1) b (simp length-set (omega arith))) (omega arith)
    in
    record { holds = w.holds; ends = refl }

pub written_three : (d : List ℕ) (at a b c : ℕ) → at + 3 ≤ length d → Written d at (a ∷ b ∷ c ∷ []) (set (set (set d at a) (at + 1) b) (at + 2) c) (at + 3)
written_three d at a b c h =
    let w =
    written_more (written_two d at a b (omega arith)) (written_store (set (set d at a) (at + 1) b) (at + 2) c (simp length-set (omega arith))) (omega arith)
    in
    record { holds = w.holds; ends = refl }

-- two bytes were written before y
pub written_front : {d e : List ℕ} {at end : ℕ} {y : List ℕ} → Written d (at + 2) y e end → at + (2 + length y) ≤ length d
    → (a b : ℕ) → Written d at (a ∷ b ∷ y) (set (set e at a) (at + 1) b) end
written_front {d} {e} {at} {end} {y} w h a b =
    let l : at + 2 ≤ length e = omega (arith, written_length w (omega arith)) in
    record {
      holds =
          (written_two e at a b l).holds ∙ ap (λ (z : List ℕ). placed z at (a ∷ b ∷ [])) w.holds ∙ placed_before d at (a ∷ b ∷ []) y (omega arith);
      ends = omega (arith, w.ends);
    }
