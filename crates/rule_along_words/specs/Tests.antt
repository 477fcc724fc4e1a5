-- What the test along words answers. Assumes nothing.
use Rattle.std.specs.Prelude.{ℕ, ◌+◌, ◌-◌, ◌*◌, ◌≤◌, ◌<◌, ◌≡◌, Bool, true, false, List, get_or}
use Rattle.theory.specs.Rules.{Morphism}
use Rattle.formats.specs.Table.{morphism_at, image_at}

-- one of the sixteen columns, with elements only
pub record ColumnInside (columns : List ℕ) (n j : ℕ) : Type 0 where
  pub below : j < 16
  pub inside : (x : ℕ) → x < n → get_or columns (64 * j + x) 0 < n

-- (x·p)·h = x·s for every x
pub record Along (m : Morphism) (p h s : ℕ) : Type 0 where
  pub along : (x : ℕ) → x < m.size → m.product (m.product x p) h ≡ m.product x s

-- so with the products with h as they stand in a column
pub record ColumnAlong (m : Morphism) (columns : List ℕ) (j p s : ℕ) : Type 0 where
  pub along : (x : ℕ) → x < m.size → get_or columns (64 * j + m.product x p) 0 ≡ m.product x s

abbrev pub AlongAnswer : Morphism → List ℕ → ℕ → ℕ → ℕ → Bool → Type 0
AlongAnswer m columns j p s true = ColumnAlong m columns j p s
AlongAnswer m columns j p s false = Unit {0}

-- so for the element of an entry, with the element that it was found from and its letter's
abbrev pub WordAlong : List ℕ → ℕ → ℕ → List ℕ → ℕ → Type 0
WordAlong bytes n k queue i =
    Along (morphism_at bytes n k) (get_or queue (get_or queue (64 + i) 0 - 1) 0) (image_at bytes n (get_or queue (128 + i) 0)) (get_or queue i 0)

-- so for every entry from one number up to another
pub record WordsAlong (bytes : List ℕ) (n k : ℕ) (queue : List ℕ) (from to : ℕ) : Type 0 where
  pub word : (i : ℕ) → from ≤ i → i < to → WordAlong bytes n k queue i

abbrev pub WordsAnswer : List ℕ → ℕ → ℕ → List ℕ → ℕ → ℕ → Bool → Type 0
WordsAnswer bytes n k queue from to true = WordsAlong bytes n k queue from to
WordsAnswer bytes n k queue from to false = Unit {0}
