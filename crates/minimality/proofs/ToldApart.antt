-- Two elements in different blocks are told apart by a context: a value before them, one after them, and an element as the
-- other word of a lasso, with different outcomes. Assumes nothing.
use Prim.Native.Nat.{ℕ, zero, suc, ◌<◌}
use native.Mathlib.Decide.{ℕ_discrete}
use mathlib.Core.Path.{◌≡◌, subst₂}
use mathlib.Core.Logic.Dec
use mathlib.Core.Logic.{◌⊎◌, inl, inr, ⊎_elim, by_cases}
use Rattle.finite.proofs.Search.{First, least_dec}
use Rattle.theory.specs.Rules.{Morphism, Lawful, Value, none, join}
use Rattle.theory.proofs.Values.{Inside, inside_none, inside_element, join_inside}
use Rattle.theory.specs.Rounds.{SameOutcomes, Together}
use Rattle.minimality.proofs.Rounds.{together_dec}
use Rattle.minimality.proofs.Contexts.{after, ahead, around, around_around, Indistinct}

-- an element z that makes outcomes differ, as the cycle or as the start
pub data Differ (m : Morphism) (acc : ℕ → ℕ → ℕ) (s t : ℕ) : Type 0 where
  starts_differ : (z : ℕ) → z < m.size → (acc s z ≡ acc t z → ⊥) → Differ m acc s t
  cycles_differ : (z : ℕ) → z < m.size → (acc z s ≡ acc z t → ⊥) → Differ m acc s t

-- a context that tells s and t apart
pub record Distinguished (m : Morphism) (acc : ℕ → ℕ → ℕ) (s t : ℕ) : Type 0 where
  pub left : Value
  pub right : Value
  pub left_inside : Inside m left
  pub right_inside : Inside m right
  pub differ : Differ m acc (around m left s right) (around m left t right)

-- such elements are not indistinct
pub distinguished_apart : {m : Morphism} {acc : ℕ → ℕ → ℕ} {s t : ℕ} → Distinguished m acc s t → Indistinct m acc s t → ⊥
distinguished_apart {m} {acc} {s} {t} d i = go d.differ
  where
    same : SameOutcomes m acc (around m d.left s d.right) (around m d.left t d.right)
    same = i.in_context d.left d.right d.left_inside d.right_inside

    go : Differ m acc (around m d.left s d.right) (around m d.left t d.right) → ⊥
    go (starts_differ z h f) = f (same.as_start z h)
    go (cycles_differ z h f) = f (same.as_cycle z h)

-- every number below n has P, or the first that has not
all_or_fails : {P : ℕ → Type 0} (n : ℕ) → ((i : ℕ) → i < n → Dec (P i)) → ((i : ℕ) → i < n → P i) ⊎ First n (λ i. ¬ P i)
all_or_fails n d =
    ⊎_elim (λ f. inr f) (λ none. inl (λ i h. by_cases (d i h) (λ p. p) (λ f. absurd (none i h f))))
    (least_dec n (λ i h. Dec.not (d i h)))

-- outcomes that are not all the same differ somewhere
outcomes_differ : {m : Morphism} {acc : ℕ → ℕ → ℕ} {s t : ℕ} → (SameOutcomes m acc s t → ⊥) → Differ m acc s t
outcomes_differ {m} {acc} {s} {t} f =
    ⊎_elim
    (λ starts.
    ⊎_elim (λ cycles. absurd (f (record { as_start = starts; as_cycle = cycles })))
    (λ (k : First m.size (λ z. ¬ (acc z s ≡ acc z t))). cycles_differ k.at k.below k.holds)
    (all_or_fails m.size (λ z h. ℕ_discrete (acc z s) (acc z t))))
    (λ (k : First m.size (λ z. ¬ (acc s z ≡ acc t z))). starts_differ k.at k.below k.holds)
    (all_or_fails m.size (λ z h. ℕ_discrete (acc s z) (acc t z)))

module _ {m : Morphism} (law : Lawful m) {acc : ℕ → ℕ → ℕ} where
  -- what is told apart in a context is told apart
  pub distinguished_around : {x y : Value} {s t : ℕ} → Inside m x → Inside m y → s < m.size → t < m.size
      → Distinguished m acc (around m x s y) (around m x t y) → Distinguished m acc s t
  distinguished_around {x} {y} {s} {t} hx hy hs ht d = record {
    left = join m d.left x;
    right = join m y d.right;
    left_inside = join_inside law d.left_inside hx;
    right_inside = join_inside law hy d.right_inside;
    differ =
        subst₂ (Differ m acc) (around_around law hs d.left_inside hx d.right_inside hy)
        (around_around law ht d.left_inside hx d.right_inside hy) d.differ;
  }

  -- elements that do not stand together after some round are told apart: one letter of context a round
  pub told_apart : (i s t : ℕ) → s < m.size → t < m.size → (Together m acc i s t → ⊥) → Distinguished m acc s t
  unfolding Together around ahead after
  told_apart zero s t hs ht f = record {
    left = none;
    right = none;
    left_inside = inside_none;
    right_inside = inside_none;
    differ = outcomes_differ f;
  }
  told_apart (suc i) s t hs ht f =
      by_cases (together_dec m acc i s t)
      (λ before.
      ⊎_elim
      (λ right.
      ⊎_elim (λ left. absurd (f (record { before = before; on_right = right; on_left = left })))
      (λ (k : First m.letters (λ a. ¬ Together m acc i (m.product (m.image a) s) (m.product (m.image a) t))).
      (let ha : m.image k.at < m.size = law.images k.at k.below in
      distinguished_around (inside_element ha) inside_none hs ht
      (told_apart i _ _ (law.closed _ s ha hs) (law.closed _ t ha ht) k.holds)))
      (all_or_fails m.letters (λ a h. together_dec m acc i (m.product (m.image a) s) (m.product (m.image a) t))))
      (λ (k : First m.letters (λ a. ¬ Together m acc i (m.product s (m.image a)) (m.product t (m.image a)))).
      (let ha : m.image k.at < m.size = law.images k.at k.below in
      distinguished_around inside_none (inside_element ha) hs ht
      (told_apart i _ _ (law.closed s _ hs ha) (law.closed t _ ht ha) k.holds)))
      (all_or_fails m.letters (λ a h. together_dec m acc i (m.product s (m.image a)) (m.product t (m.image a)))))
      (λ apart. told_apart i s t hs ht apart)
