-- Periodic endless words and the endless words of lassos: an endless word with a period p from position i on is that of the
-- lasso of its first i letters and the p letters behind them. So the lassos of one endless word are known by their segments.
-- Assumes nothing.
use mathlib.Core.Path.{◌≡◌, refl, sym, ap, ◌∙◌}
use mathlib.Core.List.{List, [], ◌++◌, append-nil}
use Prim.Native.Nat.{ℕ, zero, suc, ◌+◌, ◌-◌, ◌*◌, ◌/◌, ◌%◌, ◌≤◌, ◌<◌, zero-le, suc-le-suc}
use native.Mathlib.Nat.{zero-mul, one-mul, suc-mul, mul-pos, mul_comm, mod-lt, mod-eq_of_lt, add-mod_right, div-add-mod', add-sub_cancel_left, zero-add, le_trans}
use native.Mathlib.Decide.{dec_lt}
use native.Mathlib.Omega.{arith}
use lib.ListN.{length, get_or, take, drop, length-append}
use lib.Seq.{ext_get_or, take-append_seam, drop-append_seam}
use borrow.Author.Tests.{lt-ltb, le-ltb}
use Rattle.theory.specs.Words.{Over, endless}
use Rattle.theory.proofs.Words.{over_at, over_from, seg, seg_length, seg_at, seg_append, seg_shift, seg_take, seg_drop, repeat}

-- ---- periodic endless words

-- from position i on, the letters come again after p places
pub record Periodic (α : ℕ → ℕ) (i p : ℕ) : Type 0 where
  pub some : 0 < p
  pub again : (j : ℕ) → i ≤ j → α (j + p) ≡ α j

-- from a later position on
pub periodic_later : {α : ℕ → ℕ} {i p : ℕ} → Periodic α i p → (i' : ℕ) → i ≤ i' → Periodic α i' p
periodic_later d i' l = record { some = d.some; again = λ j h. d.again j (le_trans l h) }

-- the letters come again after m periods
pub periodic_again : {α : ℕ → ℕ} {i p : ℕ} → Periodic α i p → (m j : ℕ) → i ≤ j → α (j + m * p) ≡ α j
periodic_again {α} {i} {p} d zero j l = ap α (omega (arith, zero-mul p))
periodic_again {α} {i} {p} d (suc m) j l =
    let e : j + suc m * p ≡ j + m * p + p = omega (arith, suc-mul m p) in
    ap α e ∙ d.again (j + m * p) (omega arith) ∙ periodic_again d m j l

-- a multiple of a period is a period
pub periodic_times : {α : ℕ → ℕ} {i p : ℕ} → Periodic α i p → (m : ℕ) → 0 < m → Periodic α i (m * p)
periodic_times d m h = record { some = mul-pos h d.some; again = periodic_again d m }

-- an endless word with the same letters has the same period
pub periodic_same : {α β : ℕ → ℕ} {i p : ℕ} → Periodic α i p → ((j : ℕ) → β j ≡ α j) → Periodic β i p
periodic_same {p = p} d f = record { some = d.some; again = λ j l. f (j + p) ∙ d.again j l ∙ sym (f j) }

-- a place past i and the place left of it after whole periods have the same letter
pub periodic_mod : {α : ℕ → ℕ} {i p : ℕ} → Periodic α i p → (j : ℕ) → α (i + j % p) ≡ α (i + j)
periodic_mod {α} {i} {p} d j =
    let e : i + j % p + j / p * p ≡ i + j = omega (arith, div-add-mod' j p) in
    sym (periodic_again d (j / p) (i + j % p) (omega arith)) ∙ ap α e

-- a segment comes again after t periods
pub seg_periodic_shift : {α : ℕ → ℕ} {i p : ℕ} → Periodic α i p → (t n : ℕ) → seg α (i + t * p) n ≡ seg α i n
seg_periodic_shift {α} {i} {p} d t n =
    seg_shift α α (i + t * p) i n (λ j l.
    let e : i + t * p + j ≡ i + j + t * p = omega arith in
    ap α e ∙ periodic_again d t (i + j) (omega arith))

-- the letters of m periods are m times the letters of one
pub seg_repeat : {α : ℕ → ℕ} {i p : ℕ} → Periodic α i p → (m : ℕ) → seg α i (m * p) ≡ repeat m (seg α i p)
unfolding repeat seg
seg_repeat {α} {i} {p} d zero = ap (seg α i) (zero-mul p)
seg_repeat {α} {i} {p} d (suc m) =
    let e : suc m * p ≡ p + m * p = omega (arith, suc-mul m p) in
    let s : seg α (i + p) (m * p) ≡ seg α i (m * p) = rw one-mul at (seg_periodic_shift d 1 (m * p)) in
    ap (seg α i) e ∙ seg_append α i p (m * p) ∙ ap (λ (w : List ℕ). seg α i p ++ w) (s ∙ seg_repeat d m)

-- two periods from one position on: the words of the periods have a common repetition
pub common_period : {α : ℕ → ℕ} {i p q : ℕ} → Periodic α i p → Periodic α i q → repeat q (seg α i p) ≡ repeat p (seg α i q)
common_period {α} {i} {p} {q} d e = sym (seg_repeat d q) ∙ ap (seg α i) (mul_comm q p) ∙ seg_repeat e p

-- ---- the endless word of a lasso

-- what holds at the places below n and at the places n + i holds everywhere
below_or_past : (n : ℕ) (P : ℕ → Type 0) → ((i : ℕ) → i < n → P i) → ((i : ℕ) → P (n + i)) → (i : ℕ) → P i
below_or_past n P f g i = pick (dec_lt i n)
  where
    pick : Dec (i < n) → P i
    pick (yes l) = f i l
    pick (no h) =
        let e : n + (i - n) ≡ i = omega arith in
        rw e at (g (i - n))

-- inside u
pub endless_inside : (u v : List ℕ) (i : ℕ) → i < length u → endless u v i ≡ get_or u i 0
unfolding endless
endless_inside u v i l = rw (lt-ltb i (length u) l)

-- past u
pub endless_past : (u v : List ℕ) (i : ℕ) → endless u v (length u + i) ≡ get_or v (i % length v) 0
unfolding endless
endless_past u v i =
    let h : length u ≤ length u + i = omega arith in
    rw (le-ltb (length u + i) (length u) h, add-sub_cancel_left (length u) i)

-- past u, in the first round
pub endless_round : (u v : List ℕ) (i : ℕ) → i < length v → endless u v (length u + i) ≡ get_or v i 0
endless_round u v i l = endless_past u v i ∙ ap (λ (k : ℕ). get_or v k 0) (mod-eq_of_lt l)

-- u followed by v for ever comes again after v
pub endless_periodic : (u v : List ℕ) → 0 < length v → Periodic (endless u v) (length u) (length v)
endless_periodic u v h = record {
  some = h;
  again = λ j l.
      let d : ℕ = j - length u in
      let e : j + length v ≡ length u + (d + length v) = omega arith in
      let e' : length u + d ≡ j = omega arith in
      ap (endless u v) e
      ∙ endless_past u v (d + length v)
      ∙ ap (λ (k : ℕ). get_or v k 0) (add-mod_right d (length v))
      ∙ sym (endless_past u v d)
      ∙ ap (endless u v) e';
}

-- a segment of an endless word is w if its letters are w's
seg_is : (α : ℕ → ℕ) (i : ℕ) (w : List ℕ) → ((j : ℕ) → j < length w → α (i + j) ≡ get_or w j 0) → seg α i (length w) ≡ w
seg_is α i w f =
    let e : length (seg α i (length w)) ≡ length w = seg_length α i (length w) in
    ext_get_or 0 (seg α i (length w)) w e (λ j l. let h : j < length w = omega arith in seg_at α i (length w) j h ∙ f j h)

-- it begins with u
pub endless_start : (u v : List ℕ) → seg (endless u v) 0 (length u) ≡ u
endless_start u v = seg_is (endless u v) 0 u (λ j l. ap (endless u v) (zero-add j) ∙ endless_inside u v j l)

-- then comes v
pub endless_cycle : (u v : List ℕ) → 0 < length v → seg (endless u v) (length u) (length v) ≡ v
endless_cycle u v h = seg_is (endless u v) (length u) v (endless_round u v)

-- the letters of u and v are all it has
pub endless_below : {k : ℕ} {u v : List ℕ} → Over k u → Over k v → 0 < length v → (i : ℕ) → endless u v i < k
endless_below {k} {u} {v} ou ov h =
    below_or_past (length u) (λ i. endless u v i < k)
    (λ i l. rw (endless_inside u v i l) (over_at k u ou i l))
    (λ i. rw (endless_past u v i) (over_at k v ov (i % length v) (mod-lt i h)))

-- ---- the lassos of one endless word

-- a periodic endless word is that of u followed by v for ever, where u is its letters before i and v those of one period
pub lasso_of_cuts : {α : ℕ → ℕ} {i p : ℕ} {u v : List ℕ}
    → Periodic α i p → seg α 0 i ≡ u → seg α i p ≡ v → (j : ℕ) → endless u v j ≡ α j
lasso_of_cuts {α} {i} {p} {u} {v} d eu ev =
    let lu : i ≡ length u = sym (seg_length α 0 i) ∙ ap length eu in
    let lv : length v ≡ p = ap length (sym ev) ∙ seg_length α i p in
    below_or_past i (λ j. endless u v j ≡ α j)
    (λ j l. endless_inside u v j (omega arith) ∙ rw (← eu) (seg_at α 0 i j l) ∙ ap α (zero-add j))
    (λ j. ap (λ (n : ℕ). endless u v (n + j)) lu
    ∙ endless_past u v j
    ∙ ap (λ (n : ℕ). get_or v (j % n) 0) lv
    ∙ rw (← ev) (seg_at α i p (j % p) (mod-lt j d.some))
    ∙ periodic_mod d j)

-- a periodic endless word is that of its own letters before i, followed by those of one period for ever
pub periodic_lasso : {α : ℕ → ℕ} {i p : ℕ} → Periodic α i p → (j : ℕ) → endless (seg α 0 i) (seg α i p) j ≡ α j
periodic_lasso d = lasso_of_cuts d refl refl

-- behind u come the first letters of v
cycle_take : (u v : List ℕ) (j : ℕ) → 0 < length v → j ≤ length v → seg (endless u v) (length u) j ≡ take j v
cycle_take u v j h l = sym (seg_take (endless u v) (length u) j (length v) l) ∙ ap (take j) (endless_cycle u v h)

-- the endless word of u and v up to a place j of the first v
pub cut_start : (u v : List ℕ) (j : ℕ) → 0 < length v → j ≤ length v → seg (endless u v) 0 (length u + j) ≡ u ++ take j v
cut_start u v j h l = seg_append (endless u v) 0 (length u) j ∙ rw (zero-add, endless_start u v, cycle_take u v j h l)

-- one period of it from there on
pub cut_cycle : (u v : List ℕ) (j : ℕ) → 0 < length v → j ≤ length v
    → seg (endless u v) (length u + j) (length v) ≡ drop j v ++ take j v
cut_cycle u v j h l =
    let e : length v ≡ length v - j + j = omega arith in
    ap (seg (endless u v) (length u + j)) e
    ∙ seg_append (endless u v) (length u + j) (length v - j) j
    ∙ rw (first, last)
  where
    first : seg (endless u v) (length u + j) (length v - j) ≡ drop j v
    first = sym (seg_drop (endless u v) (length u) j (length v) l) ∙ ap (drop j) (endless_cycle u v h)

    last : seg (endless u v) (length u + j + (length v - j)) j ≡ take j v
    last =
        let e : length u + j + (length v - j) ≡ length u + 1 * length v = omega arith in
        ap (λ (n : ℕ). seg (endless u v) n j) e ∙ seg_periodic_shift (endless_periodic u v h) 1 j ∙ cycle_take u v j h l

-- m rounds earlier in the start, and c rounds at a time
pub same_unrolled_repeated : (u v : List ℕ) (m c : ℕ) → 0 < length v → 0 < c
    → (i : ℕ) → endless (u ++ repeat m v) (repeat c v) i ≡ endless u v i
same_unrolled_repeated u v m c h hc =
    lasso_of_cuts (periodic_later (periodic_times d c hc) (length u + m * length v) (omega arith)) start cycle
  where
    d : Periodic (endless u v) (length u) (length v)
    d = endless_periodic u v h

    rounds : (n : ℕ) → seg (endless u v) (length u) (n * length v) ≡ repeat n v
    rounds n = seg_repeat d n ∙ ap (repeat n) (endless_cycle u v h)

    start : seg (endless u v) 0 (length u + m * length v) ≡ u ++ repeat m v
    start = seg_append (endless u v) 0 (length u) (m * length v) ∙ rw (zero-add, endless_start u v, rounds m)

    cycle : seg (endless u v) (length u + m * length v) (c * length v) ≡ repeat c v
    cycle = seg_periodic_shift d m (c * length v) ∙ rounds c

-- c rounds at a time
pub same_repeated : (u v : List ℕ) (c : ℕ) → 0 < length v → 0 < c → (i : ℕ) → endless u (repeat c v) i ≡ endless u v i
unfolding repeat
same_repeated u v c h hc = rw append-nil at (same_unrolled_repeated u v 0 c h hc)

-- one round earlier in the start
pub same_unrolled : (u v : List ℕ) → 0 < length v → (i : ℕ) → endless (u ++ v) v i ≡ endless u v i
unfolding repeat
same_unrolled u v h = rw (append-nil v) at (same_unrolled_repeated u v 1 1 h (suc-le-suc zero-le))

-- v alone for ever
pub same_cycle : (v : List ℕ) → 0 < length v → (i : ℕ) → endless v v i ≡ endless [] v i
same_cycle v h = same_unrolled [] v h

-- the first part of the cycle goes to the start, and the cycle turns
pub same_turned : (u x y : List ℕ) → 0 < length (x ++ y) → (i : ℕ) → endless (u ++ x) (y ++ x) i ≡ endless u (x ++ y) i
same_turned u x y h =
    let l : length x ≤ length (x ++ y) = omega (arith, length-append x y) in
    lasso_of_cuts (periodic_later (endless_periodic u (x ++ y) h) (length u + length x) (omega arith))
    (cut_start u (x ++ y) (length x) h l ∙ rw take-append_seam)
    (cut_cycle u (x ++ y) (length x) h l ∙ rw (take-append_seam, drop-append_seam))

-- the letters of both parts of a lasso
pub record BothOver (k : ℕ) (u v : List ℕ) : Type 0 where
  pub start_over : Over k u
  pub cycle_over : Over k v

-- every lasso of an endless word over k letters is over k letters
pub same_over : {k : ℕ} (p w u v : List ℕ)
    → ((i : ℕ) → endless p w i ≡ endless u v i) → 0 < length w → Over k u → Over k v → 0 < length v → BothOver k p w
same_over {k} p w u v f hw ou ov hv = record {
  start_over = over_from k p (λ i l. rw (← endless_inside p w i l, f i) (endless_below ou ov hv i));
  cycle_over = over_from k w (λ i l. rw (← endless_round p w i l, f (length p + i)) (endless_below ou ov hv (length p + i)));
}
