-- Places in a list: which element stands at which number, and what a longer list keeps of it. Assumes nothing.
use mathlib.Core.Path.{◌≡◌, refl, sym, ap, ◌∙◌}
use mathlib.Core.Logic.{◌⊎◌, inl, inr}
use mathlib.Core.Option.{none, some}
use mathlib.Core.List.{List, [], ◌∷◌, ◌++◌, append-nil, append_assoc, Memᴰ}
use Prim.Native.Nat.{ℕ, zero, suc, ◌≤◌, ◌<◌}
use native.Mathlib.Nat.{not-suc-le-zero, le_of_suc-le-suc}
use native.Mathlib.Omega.{arith}
use lib.ListN.{length, length-append, get_or, get_elem?}

-- x stands at place n of the list
pub data At {A : Type 0} (x : A) : List A → ℕ → Type 0 where
  at_head : {y : A} {l : List A} → x ≡ y → At x (y ∷ l) zero
  at_tail : {y : A} {l : List A} {n : ℕ} → At x l n → At x (y ∷ l) (suc n)

-- x stands before place j of the list
pub record Among {A : Type 0} (x : A) (l : List A) (j : ℕ) : Type 0 where
  pub at : ℕ
  pub below : at < j
  pub stands : At x l at

-- l' is l with elements added behind it
pub record Extends {A : Type 0} (l l' : List A) : Type 0 where
  pub rest : List A
  pub same : l' ≡ l ++ rest

-- what `get_elem?` reads: nothing behind the end, or the element that stands there
pub data Read {A : Type 0} (l : List A) (i : ℕ) : Type 0 where
  read_none : length l ≤ i → get_elem? l i ≡ none → Read l i
  read_some : (x : A) → At x l i → get_elem? l i ≡ some x → Read l i

module _ {A : Type 0} where
  pub at_below : {x : A} {l : List A} {n : ℕ} → At x l n → n < length l
  at_below (at_head e) = omega arith
  at_below (at_tail p) = omega (arith, at_below p)

  pub at_mem : {x : A} {l : List A} {n : ℕ} → At x l n → Memᴰ x l
  at_mem (at_head e) = Memᴰ.head e
  at_mem (at_tail p) = Memᴰ.tail (at_mem p)

  pub mem_among : {x : A} {l : List A} → Memᴰ x l → Among x l (length l)
  mem_among (Memᴰ.head e) = record { at = 0; below = omega arith; stands = at_head e }
  mem_among {x} (Memᴰ.tail {x = y} {xs = l} m) = go (mem_among m)
    where
      go : Among x l (length l) → Among x (y ∷ l) (suc (length l))
      go p = record { at = suc p.at; below = omega arith; stands = at_tail p.stands }

  -- one element stands at a place
  pub at_same : {x y : A} {l : List A} {n : ℕ} → At x l n → At y l n → x ≡ y
  at_same (at_head e) (at_head e') = e ∙ sym e'
  at_same (at_tail p) (at_tail p') = at_same p p'

  pub at_cast : {x y : A} {l : List A} {n : ℕ} → x ≡ y → At y l n → At x l n
  at_cast e (at_head e') = at_head (e ∙ e')
  at_cast e (at_tail p) = at_tail (at_cast e p)

  -- what `get_or` reads
  pub at_get_d : {x : A} {l : List A} {n : ℕ} (d : A) → At x l n → get_or l n d ≡ x
  at_get_d d (at_head e) = sym e
  at_get_d d (at_tail p) = at_get_d d p

  pub get_d_at : (l : List A) (n : ℕ) (d : A) → n < length l → At (get_or l n d) l n
  get_d_at [] n d h = absurd (not-suc-le-zero h)
  get_d_at (x ∷ l) zero d h = at_head refl
  get_d_at (x ∷ l) (suc n) d h = at_tail (get_d_at l n d (le_of_suc-le-suc h))

  pub read_place : (l : List A) (i : ℕ) → Read l i
  read_place [] i = read_none (omega arith) refl
  read_place (y ∷ l) zero = read_some y (at_head refl) refl
  read_place (y ∷ l) (suc i) = go (read_place l i)
    where
      go : Read l i → Read (y ∷ l) (suc i)
      go (read_none h e) = read_none (omega arith) e
      go (read_some x p e) = read_some x (at_tail p) e

  -- a longer list
  pub at_append : {x : A} {l : List A} {n : ℕ} (m : List A) → At x l n → At x (l ++ m) n
  at_append m (at_head e) = at_head e
  at_append m (at_tail p) = at_tail (at_append m p)

  pub at_front : {x : A} (l m : List A) {n : ℕ} → n < length l → At x (l ++ m) n → At x l n
  at_front [] m h p = absurd (not-suc-le-zero h)
  at_front (y ∷ l) m h (at_head e) = at_head e
  at_front (y ∷ l) m h (at_tail p) = at_tail (at_front l m (le_of_suc-le-suc h) p)

  pub at_last : (l : List A) (y : A) → At y (l ++ (y ∷ [])) (length l)
  at_last [] y = at_head refl
  at_last (x ∷ l) y = at_tail (at_last l y)

  pub at_snoc_cases : {x y : A} (l : List A) {n : ℕ} → At x (l ++ (y ∷ [])) n → At x l n ⊎ ((n ≡ length l) × (x ≡ y))
  at_snoc_cases [] (at_head e) = inr (refl, e)
  at_snoc_cases [] (at_tail p) = absurd (not-suc-le-zero (at_below p))
  at_snoc_cases (z ∷ l) (at_head e) = inl (at_head e)
  at_snoc_cases {x} {y} (z ∷ l) (at_tail {n = n} p) = go (at_snoc_cases l p)
    where
      go : At x l n ⊎ ((n ≡ length l) × (x ≡ y)) → At x (z ∷ l) (suc n) ⊎ ((suc n ≡ suc (length l)) × (x ≡ y))
      go (inl q) = inl (at_tail q)
      go (inr q) = inr (ap suc q.0, q.1)

  pub extends_refl : (l : List A) → Extends l l
  extends_refl l = record { rest = []; same = sym (append-nil l) }

  pub extends_more : (l m : List A) → Extends l (l ++ m)
  extends_more l m = record { rest = m; same = refl }

  pub extends_trans : {l l' l'' : List A} → Extends l l' → Extends l' l'' → Extends l l''
  extends_trans {l} e f = record {
    rest = e.rest ++ f.rest;
    same = f.same ∙ ap (λ (m : List A). m ++ f.rest) e.same ∙ append_assoc l e.rest f.rest;
  }

  pub extends_length : {l l' : List A} → Extends l l' → length l ≤ length l'
  extends_length {l} {l'} e = omega (arith, ap length e.same, length-append l e.rest)

  pub extends_at : {x : A} {l l' : List A} {n : ℕ} → Extends l l' → At x l n → At x l' n
  extends_at e p = rw e.same (at_append e.rest p)

  pub extends_front : {x : A} {l l' : List A} {n : ℕ} → Extends l l' → n < length l → At x l' n → At x l n
  extends_front {l = l} e h p = at_front l e.rest h (rw e.same at p)

  pub extends_among : {x : A} {l l' : List A} {j j' : ℕ} → Extends l l' → j ≤ j' → Among x l j → Among x l' j'
  extends_among e h p = record { at = p.at; below = omega arith; stands = extends_at e p.stands }
