-- The shortlex order on words: a shorter word comes first, and of two words of one length the one whose first
-- differing letter is smaller. Assumes nothing.
use Rattle.std.specs.Prelude.{◌≡◌, ◌⊎◌, List, ◌∷◌, ℕ, ◌<◌, length}

-- words of one length, the first differing letter smaller in the first
pub data Smaller : List ℕ → List ℕ → Type 0 where
  here : {a b : ℕ} {u v : List ℕ} → a < b → length u ≡ length v → Smaller (a ∷ u) (b ∷ v)
  there : {a b : ℕ} {u v : List ℕ} → a ≡ b → Smaller u v → Smaller (a ∷ u) (b ∷ v)

-- u comes before v in the shortlex order
pub data Before (u v : List ℕ) : Type 0 where
  shorter : length u < length v → Before u v
  smaller : Smaller u v → Before u v

-- u comes before v or is v
abbrev pub NotAfter : List ℕ → List ℕ → Type 0
NotAfter u v = (u ≡ v) ⊎ Before u v
