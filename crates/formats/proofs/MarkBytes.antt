-- The bytes of a list of marks: how many they are, which stands where, lists in a row, and when two are equal. Assumes nothing.
use Prim.Native.Nat.{ℕ, zero, suc, ◌+◌, ◌*◌, ◌/◌, ◌%◌, ◌<◌}
use mathlib.Core.Path.{◌≡◌, refl, ap, ap₂, ◌∙◌}
use mathlib.Core.List.{List, [], ◌∷◌, ◌++◌}
use native.Mathlib.Omega.{arith}
use lib.ListN.{length, get_or}
use Rattle.theory.specs.Rules.{Morphism, Marking}
use Rattle.formats.specs.RuleFile.{mark_width}
use Rattle.formats.specs.WrittenFile.{mark_bytes}

module _ (m : Morphism) (marks : Marking) where
  -- three bytes for each mark
  pub marks_length : (xs : List ℕ) → length (mark_bytes m marks xs) ≡ mark_width * length xs
  unfolding mark_bytes
  marks_length [] = refl
  marks_length (x ∷ xs) = omega (arith, marks_length xs)

  pub marks_append : (xs ys : List ℕ) → mark_bytes m marks (xs ++ ys) ≡ mark_bytes m marks xs ++ mark_bytes m marks ys
  unfolding mark_bytes
  marks_append [] ys = refl
  marks_append (x ∷ xs) ys = rw (marks_append xs ys)

  -- a byte of a later mark stands three bytes on
  later : (x : ℕ) (xs : List ℕ) (i j : ℕ) → i ≡ suc (suc (suc j)) → get_or (mark_bytes m marks (x ∷ xs)) i 0 ≡ get_or (mark_bytes m marks xs) j 0
  unfolding mark_bytes
  later x xs i j e = ap (λ (k : ℕ). get_or (mark_bytes m marks (x ∷ xs)) k 0) e

  -- the bytes of the j-th mark: its pair
  pub marked_start : (xs : List ℕ) (j : ℕ) → j < length xs → get_or (mark_bytes m marks xs) (mark_width * j) 0 ≡ get_or xs j 0 / m.size
  unfolding mark_bytes
  marked_start [] j h = absurd (let z : ⊥ = omega arith in z)
  marked_start (x ∷ xs) zero h = refl
  marked_start (x ∷ xs) (suc j) h = later x xs (mark_width * suc j) (mark_width * j) (omega arith) ∙ marked_start xs j (omega arith)

  pub marked_cycle : (xs : List ℕ) (j : ℕ) → j < length xs → get_or (mark_bytes m marks xs) (mark_width * j + 1) 0 ≡ get_or xs j 0 % m.size
  unfolding mark_bytes
  marked_cycle [] j h = absurd (let z : ⊥ = omega arith in z)
  marked_cycle (x ∷ xs) zero h = refl
  marked_cycle (x ∷ xs) (suc j) h = later x xs (mark_width * suc j + 1) (mark_width * j + 1) (omega arith) ∙ marked_cycle xs j (omega arith)

  -- and its grade
  pub mark_grade_lem : (xs : List ℕ) (j : ℕ) → j < length xs
      → get_or (mark_bytes m marks xs) (mark_width * j + 2) 0 ≡ marks (get_or xs j 0 / m.size) (get_or xs j 0 % m.size)
  unfolding mark_bytes
  mark_grade_lem [] j h = absurd (let z : ⊥ = omega arith in z)
  mark_grade_lem (x ∷ xs) zero h = refl
  mark_grade_lem (x ∷ xs) (suc j) h = later x xs (mark_width * suc j + 2) (mark_width * j + 2) (omega arith) ∙ mark_grade_lem xs j (omega arith)

-- they depend on the size only
pub marks_size : (m m' : Morphism) (marks : Marking) → m'.size ≡ m.size → (xs : List ℕ) → mark_bytes m' marks xs ≡ mark_bytes m marks xs
unfolding mark_bytes
marks_size m m' marks e [] = refl
marks_size m m' marks e (x ∷ xs) = ap₂ (λ (n : ℕ) (l : List ℕ). x / n ∷ x % n ∷ marks (x / n) (x % n) ∷ l) e (marks_size m m' marks e xs)

-- and on the numbers of the pairs in the list
pub marks_equal : (m : Morphism) (marks marks' : Marking) (xs : List ℕ)
    → ((j : ℕ) → j < length xs → marks' (get_or xs j 0 / m.size) (get_or xs j 0 % m.size) ≡ marks (get_or xs j 0 / m.size) (get_or xs j 0 % m.size))
    → mark_bytes m marks' xs ≡ mark_bytes m marks xs
unfolding mark_bytes
marks_equal m marks marks' [] h = refl
marks_equal m marks marks' (x ∷ xs) h =
    ap₂ (λ (g : ℕ) (l : List ℕ). x / m.size ∷ x % m.size ∷ g ∷ l) (h 0 (omega arith)) (marks_equal m marks marks' xs (λ j l. h (suc j) (omega arith)))
