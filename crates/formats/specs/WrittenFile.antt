-- The file that a rule is written as: its elements, its letters, and its marks by s, then by e. Document 01, "The rule file and
-- the automaton file"; document 02, Job 12, for the grades. Assumes nothing.
use Rattle.std.specs.Prelude.{ℕ, zero, suc, ◌*◌, ◌/◌, ◌%◌, ◌≤◌, ◌<◌, Bool, List, [], ◌∷◌, ◌++◌, length, ltb}
use Rattle.finite.specs.Select.{select}
use Rattle.theory.specs.Rules.{Morphism, Marking}

-- f at i, i + 1, .., n values
unfoldable pub tabulate : ℕ → ℕ → (ℕ → ℕ) → List ℕ
tabulate i zero f = []
tabulate i (suc n) f = f i ∷ tabulate (suc i) n f

-- "a one-byte count n, .. then n × n bytes; byte a·n+b is the product a·b"
unfoldable pub elements_bytes : Morphism → List ℕ
elements_bytes m = m.size ∷ tabulate 0 (m.size * m.size) (λ i. m.product (i / m.size) (i % m.size))

-- "a one-byte count k, .. then k bytes, the element of each letter"
unfoldable pub letters_bytes : Morphism → List ℕ
letters_bytes m = m.letters ∷ tabulate 0 m.letters m.image

-- the pair with the number s·n+e is marked
unfoldable pub is_marked : Morphism → Marking → ℕ → Bool
is_marked m marks i = ltb 0 (marks (i / m.size) (i % m.size))

-- the numbers s·n+e of the marked pairs, in rising order: by s, then by e
unfoldable pub mark_numbers : Morphism → Marking → List ℕ
mark_numbers m marks = select (m.size * m.size) (is_marked m marks) (λ i. i)

-- "pairs (s, e) of two bytes", each with "a third byte, its grade": the marks with these numbers
unfoldable pub mark_bytes : Morphism → Marking → List ℕ → List ℕ
mark_bytes m marks [] = []
mark_bytes m marks (i ∷ rest) = i / m.size ∷ i % m.size ∷ marks (i / m.size) (i % m.size) ∷ mark_bytes m marks rest

-- "a two-byte count, .. then pairs" with their grades, the count's low byte first
unfoldable pub marks_bytes : Morphism → Marking → List ℕ
marks_bytes m marks =
    length (mark_numbers m marks) % 256 ∷ length (mark_numbers m marks) / 256 ∷ mark_bytes m marks (mark_numbers m marks)

-- the whole file
unfoldable pub file_of : Morphism → Marking → List ℕ
file_of m marks = elements_bytes m ++ (letters_bytes m ++ marks_bytes m marks)

-- within the limits of the format
pub record FitsFormat (m : Morphism) : Type 0 where
  pub some : 1 ≤ m.size
  pub small : m.size ≤ 64
  pub letters_some : 1 ≤ m.letters
  pub letters_small : m.letters ≤ 16

-- "its grade 1 to 3": no number of a pair of elements is above the highest grade
pub record FitsGrades (m : Morphism) (marks : Marking) : Type 0 where
  pub grades : (s e : ℕ) → s < m.size → e < m.size → marks s e ≤ 3
