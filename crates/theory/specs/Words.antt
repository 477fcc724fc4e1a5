-- Words over the letters 0, 1, .., and the endless words that lassos write. A word is a list of letters.
-- Document 01, "What a rule means"; document 02, Job 4. Assumes nothing.
use Rattle.std.specs.Prelude.{ℕ, ◌-◌, ◌%◌, ◌<◌, cond, List, length, get_or, ltb}
pub use Rattle.finite.specs.Letters.{Over, over_nil, over_cons}

-- "A lasso is u followed by v for ever", here over k letters and of any length. Its start may be one "of no letters" (Job 4);
-- its cycle is not empty.
pub record Lasso (k : ℕ) (u v : List ℕ) : Type 0 where
  pub start_over : Over k u
  pub cycle_over : Over k v
  pub cycle_some : 0 < length v

-- "u followed by v for ever", position by position: first the letters of u, then those of v over and over. Where u is empty
-- "the lasso is then v for ever" (Job 4).
unfoldable pub endless : List ℕ → List ℕ → ℕ → ℕ
endless u v i = cond (ltb i (length u)) (get_or u i 0) (get_or v ((i - length u) % length v) 0)
