-- Words over the letters 0, 1, ..: lists of numbers. Assumes nothing.
use Rattle.std.specs.Prelude.{ℕ, ◌<◌, List, [], ◌∷◌}

-- every letter of the word is one of the k letters (document 01: a letter "of k or more" is a foreign one)
pub data Over (k : ℕ) : List ℕ → Type 0 where
  over_nil : Over k []
  over_cons : {a : ℕ} {w : List ℕ} → a < k → Over k w → Over k (a ∷ w)
