-- Bytes as a map from the elements of one table to those of another: what each step of the test asks of them. Assumes nothing.
use Rattle.std.specs.Prelude.{ℕ, ◌<◌, ◌≡◌, List, length, get_or}
use Rattle.theory.specs.Rules.{Morphism}
use Rattle.formats.proofs.Tables.{Table}

-- where the bytes take an element
abbrev pub map_of : List ℕ → ℕ → ℕ
map_of map s = get_or map s 0

-- one of the first n elements goes to t
pub record TakenTo (to : ℕ → ℕ) (n t : ℕ) : Type 0 where
  pub from : ℕ
  pub below : from < n
  pub goes : to from ≡ t

-- the product of s and t goes to that of where they go
pub record ProductCarried (a b : Morphism) (to : ℕ → ℕ) (s t : ℕ) : Type 0 where
  pub carried : to (a.product s t) ≡ b.product (to s) (to t)

-- the element of a letter goes to that letter's element
pub record ImageCarried (a b : Morphism) (to : ℕ → ℕ) (x : ℕ) : Type 0 where
  pub carried : to (a.image x) ≡ b.image x

-- two tables over the same letters, and a byte for each element of the first that is an element of the second
pub record MapNeeds (first : List ℕ) (n₁ : ℕ) (second : List ℕ) (n₂ k : ℕ) (map : List ℕ) : Type 0 where
  pub first_is_table : Table first n₁ k
  pub second_is_table : Table second n₂ k
  pub bytes : length map ≡ n₁
  pub inside : (s : ℕ) → s < n₁ → get_or map s 0 < n₂
