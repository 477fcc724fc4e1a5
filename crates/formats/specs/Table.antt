-- The product table and the letters' elements as they stand in a rule file. Document 01, "The rule file and the automaton
-- file". Assumes nothing.
use Rattle.std.specs.Prelude.{ℕ, ◌+◌, ◌*◌, List, get_or}
use Rattle.theory.specs.Rules.{Morphism}

-- "a one-byte count n, .. then n × n bytes; byte a·n+b is the product a·b": the count is byte 0 of the file
unfoldable pub product_at : List ℕ → ℕ → ℕ → ℕ → ℕ
product_at bytes n a b = get_or bytes (1 + (a * n + b)) 0

-- "a one-byte count k, .. then k bytes, the element of each letter", after the elements
unfoldable pub image_at : List ℕ → ℕ → ℕ → ℕ
image_at bytes n a = get_or bytes (2 + n * n + a) 0

-- the morphism that the first two sections of a file give, for n elements and k letters
abbrev pub morphism_at : List ℕ → ℕ → ℕ → Morphism
morphism_at bytes n k = record { size = n; letters = k; product = product_at bytes n; image = image_at bytes n }
