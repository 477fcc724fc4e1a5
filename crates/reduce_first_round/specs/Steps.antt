-- What each step of the reduction does to the bytes. Assumes nothing.
use Rattle.std.specs.Prelude.{ℕ, ◌+◌, ◌≤◌, ◌<◌, ◌≡◌, List}
use Rattle.theory.specs.Rules.{Morphism}
use Rattle.reduce_first_round.specs.Map.{outcome_of, outcome_at, BlocksAt}
use Rattle.scratch.specs.Bytes.{UnchangedOutside}
use Rattle.scratch.specs.Map.{blocks_base, outcomes_base}

-- r is the least element that is related to s
pub record LeastRelated (R : ℕ → ℕ → Type 0) (s r : ℕ) : Type 0 where
  pub at_most : r ≤ s
  pub related : R r s
  pub least : (t : ℕ) → t < r → R t s → ⊥

-- the outcomes of the values (s, z) stand there for the first elements s
pub record ColumnWritten (m : Morphism) (z rows : ℕ) (entry exit : List ℕ) : Type 0 where
  pub column : (s : ℕ) → s < rows → outcome_at exit s z ≡ outcome_of m entry s z
  pub others : (s y : ℕ) → y < 64 → (y ≡ z → ⊥) → outcome_at exit s y ≡ outcome_at entry s y
  pub kept : UnchangedOutside outcomes_base blocks_base entry exit

-- the outcomes of all values whose cycle is one of the first elements stand there
pub record OutcomesWritten (m : Morphism) (columns : ℕ) (entry exit : List ℕ) : Type 0 where
  pub outcomes : (s z : ℕ) → s < m.size → z < columns → outcome_at exit s z ≡ outcome_of m entry s z
  pub kept : UnchangedOutside outcomes_base blocks_base entry exit

-- the blocks of the first n elements stand from a base on
pub record BlocksWritten (n : ℕ) (R : ℕ → ℕ → Type 0) (base : ℕ) (entry exit : List ℕ) : Type 0 where
  pub blocks : BlocksAt n R exit base
  pub kept : UnchangedOutside base (base + 64) entry exit

-- the products of s and t with the letter a are related, on the right and on the left
pub record ProductsTogether (m : Morphism) (R : ℕ → ℕ → Type 0) (s t a : ℕ) : Type 0 where
  pub on_right : R (m.product s (m.image a)) (m.product t (m.image a))
  pub on_left : R (m.product (m.image a) s) (m.product (m.image a) t)
