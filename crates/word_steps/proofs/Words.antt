-- The words along which the entries were found: of the entries they depend on what is recorded of them only. Assumes nothing.
use Prim.Native.Nat.{ℕ, zero, suc, ◌≤◌, ◌<◌}
use native.Mathlib.Omega.{arith}
use mathlib.Core.Path.{◌≡◌, refl, ap, ap₂, ◌∙◌}
use mathlib.Core.List.{List, [], ◌∷◌, ◌++◌}
use Rattle.finite.proofs.Numbers.{strong_induction}
use Rattle.finite.proofs.Shortlex.{over_snoc, length_snoc}
use Rattle.theory.specs.Words.{Over, over_nil}
use Rattle.temporal.proofs.WordClasses.{Word}
use Rattle.word_steps.specs.Records.{parent_at, letter_at, word_to, word_at}

-- each of the first count classes was found from an entry before it
pub record Rooted (scratch : List ℕ) (count : ℕ) : Type 0 where
  pub parents : (j : ℕ) → j < count → parent_at scratch j ≤ j

pub word_empty : (scratch : List ℕ) → word_at scratch 0 ≡ []
unfolding word_at word_to
word_empty scratch = refl

-- the first count classes were found alike in two
pub record SameSources (a b : List ℕ) (count : ℕ) : Type 0 where
  pub parents : (j : ℕ) → j < count → parent_at b j ≡ parent_at a j
  pub letters : (j : ℕ) → j < count → letter_at b j ≡ letter_at a j

pub same_sources : (a : List ℕ) (count : ℕ) → SameSources a a count
same_sources a count = record { parents = λ j h. refl; letters = λ j h. refl }

module _ {a b : List ℕ} {count : ℕ} (r : Rooted a count) (s : SameSources a b count) where
  -- whatever the depth, as long as it is enough
  enough : (d e i : ℕ) → i ≤ count → i ≤ d → i ≤ e → word_to b d i ≡ word_to a e i
  unfolding word_to
  enough zero zero i l h g = refl
  enough zero (suc e) zero l h g = refl
  enough zero (suc e) (suc i) l h g = absurd (omega arith)
  enough (suc d) zero zero l h g = refl
  enough (suc d) zero (suc i) l h g = absurd (omega arith)
  enough (suc d) (suc e) zero l h g = refl
  enough (suc d) (suc e) (suc i) l h g =
      let p = r.parents i (omega arith) in
      ap₂ (λ (w : List ℕ) (x : ℕ). w ++ (x ∷ []))
      (ap (word_to b d) (s.parents i (omega arith)) ∙ enough d e (parent_at a i) (omega arith) (omega arith) (omega arith)) (s.letters i (omega arith))

  -- bytes with the same records have the same words
  pub word_same : (i : ℕ) → i ≤ count → word_at b i ≡ word_at a i
  unfolding word_at
  word_same i h = enough i i i h (omega arith) (omega arith)

module _ {scratch : List ℕ} {count : ℕ} (r : Rooted scratch count) where
  -- an entry's word is that of the entry it was found from, and its letter
  pub word_step_lem : (j : ℕ) → j < count → word_at scratch (suc j) ≡ word_at scratch (parent_at scratch j) ++ (letter_at scratch j ∷ [])
  unfolding word_at word_to
  word_step_lem j h =
      let p = r.parents j h in
      ap₂ (λ (w : List ℕ) (x : ℕ). w ++ (x ∷ []))
      (enough r (same_sources scratch count) j (parent_at scratch j) (parent_at scratch j) (omega arith) (omega arith) (omega arith)) refl

  module _ {k : ℕ} (letters : (j : ℕ) → j < count → letter_at scratch j < k) where
    pub word_over : (i : ℕ) → i ≤ count → Over k (word_at scratch i)
    word_over = strong_induction (λ i. i ≤ count → Over k (word_at scratch i)) go
      where
        go : (i : ℕ) → ((j : ℕ) → j < i → j ≤ count → Over k (word_at scratch j)) → i ≤ count → Over k (word_at scratch i)
        go zero before h = rw (word_empty scratch) over_nil
        go (suc j) before h =
            let p = r.parents j (omega arith) in
            rw (word_step_lem j (omega arith)) (over_snoc (before (parent_at scratch j) (omega arith) (omega arith)) (letters j (omega arith)))

    -- that of a class is not empty
    pub word_is : (j : ℕ) → j < count → Word k (word_at scratch (suc j))
    word_is j h = record {
      over = word_over (suc j) (omega arith);
      some = rw (word_step_lem j h) (omega (arith, length_snoc (word_at scratch (parent_at scratch j)) (letter_at scratch j)));
    }
