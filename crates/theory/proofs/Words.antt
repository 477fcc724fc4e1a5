-- Words: which are written with k letters, a word cut out of an endless word (`seg`), and a word repeated (`repeat`).
-- Assumes nothing.
use mathlib.Core.Path.{◌≡◌, refl, sym, ap, ◌∙◌}
use mathlib.Core.List.{List, [], ◌∷◌, ◌++◌, append_assoc}
use Prim.Native.Nat.{ℕ, zero, suc, ◌+◌, ◌-◌, ◌*◌, ◌≤◌, ◌<◌, suc-le-suc}
use native.Mathlib.Nat.{not-suc-le-zero, le_of_suc-le-suc, zero-lt-suc, zero-add, add-zero, add-suc, suc-add, add_comm, zero-mul, suc-mul}
use native.Mathlib.Omega.{arith}
use lib.ListN.{length, get_or, take, drop, length-append}
use lib.Seq.{take_at, drop_at}
use Rattle.theory.specs.Words.{Over, over_nil, over_cons}

-- ---- words over k letters

-- a word followed by a word
pub over_append : {k : ℕ} {x y : List ℕ} → Over k x → Over k y → Over k (x ++ y)
over_append over_nil o = o
over_append (over_cons h r) o = over_cons h (over_append r o)

-- the first part of a word
pub over_head : {k a : ℕ} {w : List ℕ} → Over k (a ∷ w) → a < k
over_head (over_cons h o) = h

pub over_left : {k : ℕ} (x y : List ℕ) → Over k (x ++ y) → Over k x
over_left [] y o = over_nil
over_left (a ∷ x) y (over_cons h o) = over_cons h (over_left x y o)

-- the last part of a word
pub over_right : {k : ℕ} (x y : List ℕ) → Over k (x ++ y) → Over k y
over_right [] y o = o
over_right (a ∷ x) y (over_cons h o) = over_right x y o

-- the first n letters
pub over_take : {k : ℕ} {w : List ℕ} (n : ℕ) → Over k w → Over k (take n w)
over_take zero o = over_nil
over_take (suc n) over_nil = over_nil
over_take (suc n) (over_cons h o) = over_cons h (over_take n o)

-- all but the first n letters
pub over_drop : {k : ℕ} {w : List ℕ} (n : ℕ) → Over k w → Over k (drop n w)
over_drop zero o = o
over_drop (suc n) over_nil = over_nil
over_drop (suc n) (over_cons h o) = over_drop n o

-- each letter of a word over k letters is below k
pub over_at : (k : ℕ) (w : List ℕ) → Over k w → (i : ℕ) → i < length w → get_or w i 0 < k
over_at k [] o i l = absurd (not-suc-le-zero l)
over_at k (a ∷ w) (over_cons h o) zero l = h
over_at k (a ∷ w) (over_cons h o) (suc i) l = over_at k w o i (le_of_suc-le-suc l)

-- a word whose letters are all below k is over k letters
pub over_from : (k : ℕ) (w : List ℕ) → ((i : ℕ) → i < length w → get_or w i 0 < k) → Over k w
over_from k [] f = over_nil
over_from k (a ∷ w) f = over_cons (f 0 (zero-lt-suc (length w))) (over_from k w (λ i l. f (suc i) (suc-le-suc l)))

-- ---- words cut out of an endless word

-- the n letters of α from position i on
unfoldable pub seg : (ℕ → ℕ) → ℕ → ℕ → List ℕ
seg α i zero = []
seg α i (suc n) = α i ∷ seg α (suc i) n

pub seg_length : (α : ℕ → ℕ) (i n : ℕ) → length (seg α i n) ≡ n
unfolding seg
seg_length α i zero = refl
seg_length α i (suc n) = ap suc (seg_length α (suc i) n)

-- the letter at place j of the segment stands at place i + j of the endless word
pub seg_at : (α : ℕ → ℕ) (i n j : ℕ) → j < n → get_or (seg α i n) j 0 ≡ α (i + j)
unfolding seg
seg_at α i zero j l = absurd (not-suc-le-zero l)
seg_at α i (suc n) zero l = ap α (sym (add-zero i))
seg_at α i (suc n) (suc j) l = seg_at α (suc i) n j (le_of_suc-le-suc l) ∙ ap α (omega arith)

-- two segments in a row
pub seg_append : (α : ℕ → ℕ) (i m n : ℕ) → seg α i (m + n) ≡ seg α i m ++ seg α (i + m) n
unfolding seg
seg_append α i zero n = rw (zero-add, add-zero)
seg_append α i (suc m) n = rw (suc-add m n, add-suc i m, ← suc-add i m) (ap (λ (w : List ℕ). α i ∷ w) (seg_append α (suc i) m n))

-- segments with the same letters, place by place, are equal
pub seg_shift : (α β : ℕ → ℕ) (i i' n : ℕ) → ((j : ℕ) → j < n → α (i + j) ≡ β (i' + j)) → seg α i n ≡ seg β i' n
unfolding seg
seg_shift α β i i' zero f = refl
seg_shift α β i i' (suc n) f =
    let head : α i ≡ β i' = ap α (sym (add-zero i)) ∙ f 0 (zero-lt-suc n) ∙ ap β (add-zero i') in
    let tail : seg α (suc i) n ≡ seg β (suc i') n = seg_shift α β (suc i) (suc i') n (λ j l. simp suc-add (simp add-suc at (f (suc j) (suc-le-suc l)))) in
    cc

-- endless words that agree from i to i + n have the same segment there
pub seg_same : (α β : ℕ → ℕ) (i n : ℕ) → ((j : ℕ) → i ≤ j → j < i + n → α j ≡ β j) → seg α i n ≡ seg β i n
seg_same α β i n f = seg_shift α β i i n (λ j l. f (i + j) (omega arith) (omega arith))

-- endless words that agree everywhere have the same segments
pub seg_same_all : (α β : ℕ → ℕ) (i n : ℕ) → ((j : ℕ) → α j ≡ β j) → seg α i n ≡ seg β i n
seg_same_all α β i n f = seg_same α β i n (λ j l h. f j)

-- a segment of an endless word over k letters is over k letters
pub seg_over : {k : ℕ} (α : ℕ → ℕ) (i n : ℕ) → ((j : ℕ) → α j < k) → Over k (seg α i n)
unfolding seg
seg_over α i zero f = over_nil
seg_over α i (suc n) f = over_cons (f i) (seg_over α (suc i) n f)

-- the first m letters of a segment
pub seg_take : (α : ℕ → ℕ) (i m n : ℕ) → m ≤ n → take m (seg α i n) ≡ seg α i m
seg_take α i m n l =
    let e : n ≡ m + (n - m) = omega arith in
    ap (λ (k : ℕ). take m (seg α i k)) e
    ∙ ap (take m) (seg_append α i m (n - m))
    ∙ take_at (seg α i m) (seg α (i + m) (n - m)) m (seg_length α i m)

-- what is left of a segment behind its first m letters
pub seg_drop : (α : ℕ → ℕ) (i m n : ℕ) → m ≤ n → drop m (seg α i n) ≡ seg α (i + m) (n - m)
seg_drop α i m n l =
    let e : n ≡ m + (n - m) = omega arith in
    ap (λ (k : ℕ). drop m (seg α i k)) e
    ∙ ap (drop m) (seg_append α i m (n - m))
    ∙ drop_at (seg α i m) (seg α (i + m) (n - m)) m (seg_length α i m)

-- ---- repeated words

-- m times w
unfoldable pub repeat : ℕ → List ℕ → List ℕ
repeat zero w = []
repeat (suc m) w = w ++ repeat m w

pub repeat_length : (m : ℕ) (w : List ℕ) → length (repeat m w) ≡ m * length w
unfolding repeat
repeat_length zero w = sym (zero-mul (length w))
repeat_length (suc m) w = omega (arith, length-append w (repeat m w), repeat_length m w, suc-mul m (length w))

pub repeat_over : {k : ℕ} {w : List ℕ} (m : ℕ) → Over k w → Over k (repeat m w)
unfolding repeat
repeat_over zero o = over_nil
repeat_over (suc m) o = over_append o (repeat_over m o)

pub repeat_add : (m n : ℕ) (w : List ℕ) → repeat (m + n) w ≡ repeat m w ++ repeat n w
unfolding repeat
repeat_add zero n w = rw zero-add
repeat_add (suc m) n w = rw (suc-add m n, append_assoc) (ap (λ (x : List ℕ). w ++ x) (repeat_add m n w))

pub repeat_mul : (m n : ℕ) (w : List ℕ) → repeat (m * n) w ≡ repeat m (repeat n w)
unfolding repeat
repeat_mul zero n w = rw zero-mul
repeat_mul (suc m) n w = rw (suc-mul m n, add_comm (m * n) n, repeat_add n (m * n) w) (ap (λ (x : List ℕ). repeat n w ++ x) (repeat_mul m n w))

-- a word that is not empty, repeated at least once, is not empty
pub repeat_some : (m : ℕ) (w : List ℕ) → 0 < m → 0 < length w → 0 < length (repeat m w)
unfolding repeat
repeat_some zero w h l = absurd (not-suc-le-zero h)
repeat_some (suc m) w h l = omega (arith, length-append w (repeat m w))
