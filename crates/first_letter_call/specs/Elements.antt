-- The elements of letters in the rule of a first letter. Assumes nothing.
use Rattle.std.specs.Prelude.{ℕ, ◌≤◌, ◌<◌, ◌≡◌, cond, List, T, eqb, length, get_or}
use Rattle.temporal_promises.specs.FirstLetter.{in_set, ForeignInSetAt}

-- 0 where the letter is in the set exactly if letter 0 is, else 1
unfoldable pub element_in : ℕ → ℕ → ℕ
element_in set a = cond (in_set set 0) (cond (in_set set a) 0 1) (cond (in_set set a) 1 0)

-- the grade of the element of the letters in the set, and 0 of the other
unfoldable pub grade_in : ℕ → ℕ → ℕ → ℕ
grade_in set grade s = cond (eqb s 0) (cond (in_set set 0) grade 0) (cond (in_set set 0) 0 grade)

-- the least letter of the set from `letters` on, below 64; or none is there
pub record FirstForeign (letters set r : ℕ) : Type 0 where
  pub here : r < 64 → ForeignInSetAt letters set r
  pub nowhere : 64 ≤ r → (a : ℕ) → letters ≤ a → a < 64 → T (in_set set a) → ⊥

-- the least of k letters with the element 1, or none has it
pub record FirstOther (set k r : ℕ) : Type 0 where
  pub within : r ≤ k
  pub before : (a : ℕ) → a < r → element_in set a ≡ 0
  pub here : r < k → element_in set r ≡ 1

-- the elements of the first letters stand in the list
pub record ElementsFilled (set letters : ℕ) (elements : List ℕ) : Type 0 where
  pub long : length elements ≡ 16
  pub filled : (a : ℕ) → a < letters → get_or elements a 0 ≡ element_in set a
