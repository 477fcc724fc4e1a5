-- A pair's number while factors x, y are tried one pair after the other: the number that a pair has before any are, the steps of
-- the code for one number, and the class's number once all were tried. Assumes nothing.
use Prim.Native.Nat.{ℕ, ◌+◌, ◌*◌, ◌≤◌, ◌<◌}
use mathlib.Core.Path.{◌≡◌, refl, sym, subst}
use native.Mathlib.Omega.{arith}
use lib.Arith.{digits_lt}
use Rattle.theory.specs.Rules.{Morphism, Lawful}
use Rattle.theory.specs.Pairs.{Linked, pair_number}
use Rattle.theory.proofs.Conjugacy.{conjugate_refl}
use Rattle.theory.proofs.BestConjugates.{Attained, of_conjugate, of_none, taken, as_it_was, best_none, best_all, better_not, better_taken}
use Rattle.promises.specs.Classes.{no_class, ClassNumber, least_conjugate, not_linked}
use Rattle.mark_class_numbers.specs.Cells.{least_number, Numbered, Lowest}
use Rattle.mark_class_numbers.proofs.Bytes.{pairs_small}

-- the number of a pair of elements is below 4,096
pub pair_below : (m : Morphism) {t f : ℕ} → m.size ≤ 64 → t < m.size → f < m.size → pair_number m t f < 4096
unfolding pair_number
pair_below m h ht hf = omega (arith, digits_lt ht hf, pairs_small h)

-- so two bytes hold it
pub attained_small : {m : Morphism} {s e number : ℕ} → m.size ≤ 64 → Attained m (least_number m) (pair_number m) s e number → number < 65536
attained_small {m} h (of_conjugate c q) = omega (arith, pair_below m h c.right_linked.inside c.right_linked.idempotent.inside)
attained_small h (of_none w) = omega (arith, w.1)

-- before any factors: a linked pair has its own number, and any other none
pub first_own : {m : Morphism} {s e : ℕ} → Lawful m → Linked m s e → Numbered m 0 s e (s * m.size + e)
unfolding pair_number
first_own law l = best_none (of_conjugate (conjugate_refl law l) refl)

pub first_none : {m : Morphism} {s e : ℕ} → (Linked m s e → ⊥) → Numbered m 0 s e no_class
first_none f = best_none (of_none (f, refl))

-- a lowered number is at most the old one
pub lowest_le : {m : Morphism} {x e f s old number : ℕ} → Lowest m x e f s old number → number ≤ old
lowest_le (taken p q h) = h
lowest_le (as_it_was g q) = omega arith

-- one number's step in the code where s·e = s: the number of (s·x, f) is compared with the old one
module _ (m : Morphism) (x e f s old : ℕ) {kept t : ℕ} (is-kept : kept ≡ m.product s e) (is-start : t ≡ m.product s x) where
  pub lowest_less : kept ≡ s → t * m.size + f < old → Lowest m x e f s old (t * m.size + f)
  unfolding pair_number
  lowest_less p h = better_taken is-kept is-start p refl (omega arith)

  pub lowest_not : old ≤ t * m.size + f → Lowest m x e f s old old
  unfolding pair_number
  lowest_not h = better_not is-kept is-start h

-- all factors were tried: the number is the class's
pub numbered_all : {m : Morphism} {s e number : ℕ} → Numbered m (m.size * m.size) s e number → ClassNumber m s e number
numbered_all {m} {s} {e} {number} b = go b.attained
  where
    go : Attained m (least_number m) (pair_number m) s e number → ClassNumber m s e number
    go (of_conjugate {t} {f} c q) =
        subst (ClassNumber m s e) (sym q)
        (least_conjugate (record { conjugate = c; least = λ t' f' d. subst (λ (a : ℕ). a ≤ pair_number m t' f') q (best_all b d) }))
    go (of_none w) = subst (ClassNumber m s e) (sym w.1) (not_linked w.0)
