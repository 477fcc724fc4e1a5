-- The lines 5 and 6 of document 01's table of refusals, for any morphism. Assumes nothing.
use Rattle.std.specs.Prelude.{ℕ, ◌+◌, ◌*◌, ◌<◌, ◌≡◌}
use Rattle.theory.specs.Rules.{Morphism, WordOf}

-- (a·b)·c = a·(b·c)
abbrev pub Associates : Morphism → ℕ → ℕ → ℕ → Type 0
Associates m a b c = m.product (m.product a b) c ≡ m.product a (m.product b c)

-- "the first triple, by a then b then c": the first triple stands before the second
pub data TripleBefore (a b c a' b' c' : ℕ) : Type 0 where
  by_a : a < a' → TripleBefore a b c a' b' c'
  by_b : a ≡ a' → b < b' → TripleBefore a b c a' b' c'
  by_c : a ≡ a' → b ≡ b' → c < c' → TripleBefore a b c a' b' c'

-- 5 "(a·b)·c differs from a·(b·c)", at "the first triple, by a then b then c, where it fails": place a·4,096 + b·64 + c
pub record NotAssociativeAt (m : Morphism) (place : ℕ) : Type 0 where
  pub a : ℕ
  pub b : ℕ
  pub c : ℕ
  pub a_inside : a < m.size
  pub b_inside : b < m.size
  pub c_inside : c < m.size
  pub differs : Associates m a b c → ⊥
  pub first : (a' b' c' : ℕ) → a' < m.size → b' < m.size → c' < m.size → TripleBefore a' b' c' a b c → Associates m a' b' c'
  pub is_place : place ≡ a * 4096 + b * 64 + c

-- 6 "an element is no word's value": "the least"
pub record UnreachedAt (m : Morphism) (place : ℕ) : Type 0 where
  pub inside : place < m.size
  pub no_word : WordOf m place → ⊥
  pub least : (s : ℕ) → s < place → WordOf m s
