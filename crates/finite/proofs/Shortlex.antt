-- Laws of the shortlex order, and words with a letter more at their end. Assumes nothing.
use mathlib.Core.Path.{◌≡◌, refl, sym, ap, ap₂, subst, ◌∙◌}
use mathlib.Core.Logic.{◌⊎◌, inl, inr}
use mathlib.Core.List.{List, [], ◌∷◌, ◌++◌, append-nil, append_assoc, head-eq_of_cons-eq, tail-eq_of_cons-eq}
use Prim.Native.Nat.{ℕ, suc, ◌<◌}
use native.Mathlib.Nat.{lt_irrefl}
use native.Mathlib.Omega.{arith}
use lib.ListN.{length, length-append}
use Rattle.finite.proofs.Numbers.{Compared, lesser, level, greater, compared_numbers}
use Rattle.finite.specs.Shortlex.{Smaller, here, there, Before, shorter, smaller, NotAfter}
use Rattle.finite.specs.Letters.{Over, over_nil, over_cons}

-- a word with one letter more at its end
abbrev pub snoc : List ℕ → ℕ → List ℕ
snoc w a = w ++ (a ∷ [])

pub length_snoc : (w : List ℕ) (a : ℕ) → length (snoc w a) ≡ suc (length w)
length_snoc w a = omega (arith, length-append w (a ∷ []))

-- what holds of the empty word and is kept by a letter more at the end holds of every word
pub snoc_induction {ℓ} : (P : List ℕ → Type ℓ) → P [] → ((w : List ℕ) (a : ℕ) → P w → P (snoc w a)) → (w : List ℕ) → P w
snoc_induction P base step w = go [] w base
  where
    go : (u v : List ℕ) → P u → P (u ++ v)
    go u [] h = rw append-nil h
    go u (a ∷ v) h = rw append_assoc at (go (snoc u a) v (step u a h))

module _ {k : ℕ} where
  pub over_snoc : {w : List ℕ} {a : ℕ} → Over k w → a < k → Over k (snoc w a)
  over_snoc over_nil l = over_cons l over_nil
  over_snoc (over_cons h o) l = over_cons h (over_snoc o l)

  pub over_front : (w : List ℕ) (a : ℕ) → Over k (snoc w a) → Over k w
  over_front [] a o = over_nil
  over_front (b ∷ w) a (over_cons h o) = over_cons h (over_front w a o)

  pub over_last : (w : List ℕ) (a : ℕ) → Over k (snoc w a) → a < k
  over_last [] a (over_cons h o) = h
  over_last (b ∷ w) a (over_cons h o) = over_last w a o

smaller_length : {u v : List ℕ} → Smaller u v → length u ≡ length v
smaller_length (here l e) = ap suc e
smaller_length (there e s) = ap suc (smaller_length s)

smaller_irrefl : {u v : List ℕ} → u ≡ v → ¬ Smaller u v
smaller_irrefl e (here l h) = omega (arith, head-eq_of_cons-eq e)
smaller_irrefl e (there h s) = smaller_irrefl (tail-eq_of_cons-eq e) s

smaller_trans : {u v w : List ℕ} → Smaller u v → Smaller v w → Smaller u w
smaller_trans (here {a = x} l e) (here {b = z} l' e') = here {a = x} {b = z} (omega arith) (e ∙ e')
smaller_trans (here {a = x} l e) (there {b = z} h s) = here {a = x} {b = z} (omega arith) (e ∙ smaller_length s)
smaller_trans (there {a = x} h s) (here {b = z} l e) = here {a = x} {b = z} (omega arith) (smaller_length s ∙ e)
smaller_trans (there h s) (there h' s') = there (h ∙ h') (smaller_trans s s')

-- the order is irreflexive and transitive
pub before_irrefl : {w : List ℕ} → ¬ Before w w
before_irrefl (shorter l) = lt_irrefl _ l
before_irrefl (smaller s) = smaller_irrefl refl s

pub before_trans : {u v w : List ℕ} → Before u v → Before v w → Before u w
before_trans (shorter l) (shorter r) = shorter (omega arith)
before_trans (shorter l) (smaller r) = shorter (omega (arith, smaller_length r))
before_trans (smaller l) (shorter r) = shorter (omega (arith, smaller_length l))
before_trans (smaller l) (smaller r) = smaller (smaller_trans l r)

-- a word is before another, equal to it, or after it
pub data Placed (u v : List ℕ) : Type 0 where
  earlier : Before u v → Placed u v
  equal : u ≡ v → Placed u v
  later : Before v u → Placed u v

before_cons : {x y : ℕ} {u v : List ℕ} → x ≡ y → Before u v → Before (x ∷ u) (y ∷ v)
before_cons e (shorter l) = shorter (omega arith)
before_cons e (smaller s) = smaller (there e s)

placed_cons : {x y : ℕ} {u v : List ℕ} → length u ≡ length v → Compared x y → Placed u v → Placed (x ∷ u) (y ∷ v)
placed_cons e (lesser l) p = earlier (smaller (here l e))
placed_cons e (level h) (earlier b) = earlier (before_cons h b)
placed_cons e (level h) (equal q) = equal (ap₂ ◌∷◌ h q)
placed_cons e (level h) (later b) = later (before_cons (sym h) b)
placed_cons e (greater l) p = later (smaller (here l (sym e)))

placed_level : (u v : List ℕ) → length u ≡ length v → Placed u v
placed_level [] [] e = equal refl
placed_level [] (y ∷ v) e = absurd (omega arith)
placed_level (x ∷ u) [] e = absurd (omega arith)
placed_level (x ∷ u) (y ∷ v) e = placed_cons (omega arith) (compared_numbers x y) (placed_level u v (omega arith))

-- the order is total
pub placed : (u v : List ℕ) → Placed u v
placed u v = go (compared_numbers (length u) (length v))
  where
    go : Compared (length u) (length v) → Placed u v
    go (lesser l) = earlier (shorter l)
    go (level e) = placed_level u v e
    go (greater l) = later (shorter l)

-- one letter more at the end keeps the order, and makes it between equal words
smaller_snoc : {u v : List ℕ} (a b : ℕ) → Smaller u v → Smaller (snoc u a) (snoc v b)
smaller_snoc a b (here {u = u} {v = v} l e) = here l (length_snoc u a ∙ ap suc e ∙ sym (length_snoc v b))
smaller_snoc a b (there h s) = there h (smaller_snoc a b s)

pub before_snoc : {u v : List ℕ} (a b : ℕ) → Before u v → Before (snoc u a) (snoc v b)
before_snoc {u} {v} a b (shorter l) = shorter (omega (arith, length_snoc u a, length_snoc v b))
before_snoc a b (smaller s) = smaller (smaller_snoc a b s)

smaller_last : (w : List ℕ) {a b : ℕ} → a < b → Smaller (snoc w a) (snoc w b)
smaller_last [] l = here l refl
smaller_last (x ∷ w) l = there refl (smaller_last w l)

pub before_last : (w : List ℕ) {a b : ℕ} → a < b → Before (snoc w a) (snoc w b)
before_last w l = smaller (smaller_last w l)

pub before_longer : (w : List ℕ) (a : ℕ) → Before w (snoc w a)
before_longer w a = shorter (omega (arith, length_snoc w a))

-- the empty word comes first
pub empty_first : (w : List ℕ) → NotAfter [] w
empty_first [] = inl refl
empty_first (a ∷ w) = inr (shorter (omega arith))

pub not_after_snoc : {u v : List ℕ} (a : ℕ) → NotAfter u v → NotAfter (snoc u a) (snoc v a)
not_after_snoc a (inl e) = inl (ap (λ (w : List ℕ). snoc w a) e)
not_after_snoc a (inr b) = inr (before_snoc a a b)

pub not_after_last : {u v : List ℕ} {a b : ℕ} → NotAfter u v → a < b → Before (snoc u a) (snoc v b)
not_after_last {u} {v} {a} {b} (inl e) l = rw e (before_last v l)
not_after_last {u} {v} {a} {b} (inr h) l = before_snoc a b h

pub before_not_after : {u v w : List ℕ} → Before u v → NotAfter v w → Before u w
before_not_after {u} h (inl e) = subst (Before u) e h
before_not_after h (inr l) = before_trans h l

-- of two words one letter longer, one is before the other as the words are, or as the letters where the words agree
pub before_snoc_cases : (u v : List ℕ) (a b : ℕ) → Before (snoc u a) (snoc v b) → Before u v ⊎ ((u ≡ v) × (a < b))
before_snoc_cases u v a b h = go (placed u v) (compared_numbers a b)
  where
    go : Placed u v → Compared a b → Before u v ⊎ ((u ≡ v) × (a < b))
    go (earlier l) c = inl l
    go (equal e) (lesser l) = inr (e, l)
    go (equal e) (level q) = absurd (before_irrefl (rw (e, q) at h))
    go (equal e) (greater l) = absurd (before_irrefl (before_trans (rw e at h) (before_last v l)))
    go (later l) c = absurd (before_irrefl (before_trans h (before_snoc b a l)))
