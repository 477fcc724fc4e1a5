-- The counts of linked pairs and of classes, from the numbers as they are written. Assumes nothing.
use Prim.Native.Nat.{ℕ, ◌+◌, ◌*◌, ◌-◌, ◌/◌, ◌%◌, ◌≤◌, ◌<◌}
use mathlib.Core.Path.{◌≡◌, refl, sym, ◌∙◌, subst, subst₂}
use mathlib.Core.Logic.{◌↔◌}
use mathlib.Core.List.{List}
use native.Mathlib.Omega.{arith}
use native.Mathlib.Numerals.{add-one}
use native.Mathlib.Nat.{mod-lt, div-add-mod', div-lt_iff_lt-mul, le_antisymm}
use Rattle.finite.proofs.Numbers.{pair_same}
use Rattle.theory.specs.Rules.{Morphism}
use Rattle.theory.specs.Pairs.{Linked, LeastConjugate, pair_number, Counted, counted_none, counted_one, counted_other, LinkedPairs, Classes, ClassCounts}
use Rattle.formats.specs.Sections.{two_bytes}
use Rattle.promises.specs.Classes.{no_class, ClassNumber, least_conjugate, not_linked, ClassesWritten, class_place}
use Rattle.mark_class_numbers.specs.Cells.{Loaded, CellCounts}
use Rattle.mark_class_numbers.proofs.Factors.{pair_below}

-- no number was looked at
pub counts_none : (bytes : List ℕ) → CellCounts bytes 0 0 0
counts_none bytes = record { linked_cells = counted_none; own_cells = counted_none; fewer = omega arith }

-- one number more: that of a linked pair that is the least of its class, that of another linked pair, and that of no class
module _ {bytes : List ℕ} {i linked classes number : ℕ} (k : CellCounts bytes i linked classes) (l : Loaded bytes (2 * i) number) where
  pub counts_own : (number ≡ no_class → ⊥) → number ≡ i → CellCounts bytes (i + 1) (linked + 1) (classes + 1)
  counts_own f e = record {
    linked_cells = rw (add-one i, add-one linked) (counted_one (λ q. f (l.is_number ∙ q)) k.linked_cells);
    own_cells = rw (add-one i, add-one classes) (counted_one (sym l.is_number ∙ e) k.own_cells);
    fewer = omega (arith, k.fewer);
  }

  pub counts_linked : (number ≡ no_class → ⊥) → (number ≡ i → ⊥) → CellCounts bytes (i + 1) (linked + 1) classes
  counts_linked f g = record {
    linked_cells = rw (add-one i, add-one linked) (counted_one (λ q. f (l.is_number ∙ q)) k.linked_cells);
    own_cells = rw (add-one i) (counted_other (λ q. g (l.is_number ∙ q)) k.own_cells);
    fewer = omega (arith, k.fewer);
  }

  pub counts_other : i < 4096 → number ≡ no_class → CellCounts bytes (i + 1) linked classes
  counts_other h e = record {
    linked_cells = rw (add-one i) (counted_other (λ f. f (sym l.is_number ∙ e)) k.linked_cells);
    own_cells = rw (add-one i) (counted_other away k.own_cells);
    fewer = k.fewer;
  }
    where
      away : two_bytes bytes (2 * i) ≡ i → ⊥
      away q = omega (arith, l.is_number)

-- no more are counted than there are
pub counted_le : {P : ℕ → Type 0} {n c : ℕ} → Counted P n c → c ≤ n
counted_le counted_none = omega arith
counted_le (counted_one p k) = omega (arith, counted_le k)
counted_le (counted_other f k) = omega (arith, counted_le k)

-- a count of one property is that of another that holds of the same numbers
counted_map : {P Q : ℕ → Type 0} {n c : ℕ} → ((i : ℕ) → i < n → P i ↔ Q i) → Counted P n c → Counted Q n c
counted_map h counted_none = counted_none
counted_map h (counted_one {n} p k) = counted_one ((h n (omega arith)).0 p) (counted_map (λ i l. h i (omega arith)) k)
counted_map h (counted_other {n} f k) = counted_other (λ q. f ((h n (omega arith)).1 q)) (counted_map (λ i l. h i (omega arith)) k)

-- a pair is linked exactly if it has a class
class_linked : {m : Morphism} {s e number : ℕ} → m.size ≤ 64 → ClassNumber m s e number → (number ≡ no_class → ⊥) ↔ Linked m s e
class_linked {m} h (least_conjugate l) = (
  λ f. l.conjugate.left_linked,
  λ k q. omega (arith, pair_below m h l.conjugate.right_linked.inside l.conjugate.right_linked.idempotent.inside),
)
class_linked h (not_linked f) = (λ g. absurd (g refl), λ k. absurd (f k))

-- and is the least of its class exactly if the number is its own
class_own : {m : Morphism} {s e number : ℕ} → m.size ≤ 64 → s < m.size → e < m.size → ClassNumber m s e number
    → (number ≡ s * m.size + e) ↔ LeastConjugate m s e s e
unfolding pair_number
class_own {m} {s} {e} h hs he (least_conjugate {t} {f} l) = (
  λ q. let same = pair_same l.conjugate.right_linked.idempotent.inside he q in
      subst₂ (LeastConjugate m s e) same.0 same.1 l,
  λ k. le_antisymm (l.least s e k.conjugate) (k.least t f l.conjugate),
)
class_own {m} {s} {e} h hs he (not_linked f) =
    (λ q. absurd (omega (arith, pair_below m h hs he)), λ k. absurd (f k.conjugate.left_linked))

-- the counts that the numbers give are those of the rule's pairs
module _ {m : Morphism} {entry bytes : List ℕ} (some : 1 ≤ m.size) (small : m.size ≤ 64) (w : ClassesWritten m entry bytes) where
  row_inside : (i : ℕ) → i < m.size * m.size → i / m.size < m.size
  row_inside i h = (div-lt_iff_lt-mul {k = m.size} some).1 h

  numbered : (i : ℕ) → i < m.size * m.size → ClassNumber m (i / m.size) (i % m.size) (two_bytes bytes (2 * i))
  unfolding class_place
  numbered i h =
      subst (λ (j : ℕ). ClassNumber m (i / m.size) (i % m.size) (two_bytes bytes (2 * j))) (div-add-mod' i m.size)
      (w.classes (i / m.size) (i % m.size) (row_inside i h) (mod-lt i some))

  pub class_counts : {linked classes : ℕ} → CellCounts bytes (m.size * m.size) linked classes → ClassCounts m linked classes (linked - classes)
  unfolding LinkedPairs Classes
  class_counts k = record {
    linked_pairs = counted_map (λ i h. class_linked small (numbered i h)) k.linked_cells;
    class_count = counted_map (λ i h. own i h) k.own_cells;
    difference = omega (arith, k.fewer);
  }
    where
      own : (i : ℕ) → i < m.size * m.size
          → (two_bytes bytes (2 * i) ≡ i) ↔ LeastConjugate m (i / m.size) (i % m.size) (i / m.size) (i % m.size)
      own i h =
          let d = class_own small (row_inside i h) (mod-lt i some) (numbered i h) in
          let split = div-add-mod' i m.size in
          (λ q. d.0 (q ∙ sym split), λ l. d.1 l ∙ split)
