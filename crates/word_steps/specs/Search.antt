-- A search in breadth for the classes of words under any relation, as far as it has come. Assumes nothing.
use Rattle.std.specs.Prelude.{ℕ, suc, ◌≤◌, ◌<◌, ◌≡◌, List, [], ◌∷◌, ◌++◌}
use Rattle.finite.proofs.FirstWords.{Sooner}
use Rattle.word_steps.specs.Records.{next_at, parent_at, letter_at, word_at}

-- the number recorded for letter y from entry q is that of the class of the entry's word with the letter behind it
pub record StepNumber (R : List ℕ → List ℕ → Type 0) (scratch : List ℕ) (count q y : ℕ) : Type 0 where
  pub below : next_at scratch q y < count
  pub related : R (word_at scratch q ++ (y ∷ [])) (word_at scratch (suc (next_at scratch q y)))

-- count classes were found, by the steps before letter x of entry p: each by a step after all that lead to classes before it, and no two of them are one
pub record Search (R : List ℕ → List ℕ → Type 0) (k : ℕ) (scratch : List ℕ) (count p x : ℕ) : Type 0 where
  pub few : count ≤ 64
  pub few_letters : k ≤ 16
  pub parents : (j : ℕ) → j < count → parent_at scratch j ≤ j
  pub letters : (j : ℕ) → j < count → letter_at scratch j < k
  pub found : (j : ℕ) → j < count → Sooner (parent_at scratch j) (letter_at scratch j) p x
  pub itself : (j : ℕ) → j < count → next_at scratch (parent_at scratch j) (letter_at scratch j) ≡ j
  pub earlier : (j q y : ℕ) → j < count → y < k → Sooner q y (parent_at scratch j) (letter_at scratch j) → next_at scratch q y < j
  pub steps : (q y : ℕ) → y < k → Sooner q y p x → StepNumber R scratch count q y
  pub apart : (i j : ℕ) → i < count → j < count → R (word_at scratch (suc i)) (word_at scratch (suc j)) → i ≡ j
