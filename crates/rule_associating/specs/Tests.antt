-- What the test between letters answers, and what both do. Assumes nothing.
use Rattle.std.specs.Prelude.{ℕ, ◌+◌, ◌*◌, ◌<◌, ◌≡◌, Bool, true, false, List, get_or}
use Rattle.theory.specs.Rules.{Morphism}
use Rattle.formats.specs.Table.{morphism_at}
use Rattle.formats.proofs.Tables.{AllAssociate}

-- (g·x)·h = g·(x·h) for every x
pub record Between (m : Morphism) (g h : ℕ) : Type 0 where
  pub between : (x : ℕ) → x < m.size → m.product (m.product g x) h ≡ m.product g (m.product x h)

-- so with the products with h as they stand in a column
pub record ColumnBetween (m : Morphism) (columns : List ℕ) (j g : ℕ) : Type 0 where
  pub between : (x : ℕ) → x < m.size → get_or columns (64 * j + m.product g x) 0 ≡ m.product g (get_or columns (64 * j + x) 0)

abbrev pub BetweenAnswer : Morphism → List ℕ → ℕ → ℕ → Bool → Type 0
BetweenAnswer m columns j g true = ColumnBetween m columns j g
BetweenAnswer m columns j g false = Unit {0}

-- so for the elements of two entries, the first below one number and the second below another
pub record LettersBetween (bytes : List ℕ) (n k : ℕ) (queue : List ℕ) (rows letters : ℕ) : Type 0 where
  pub letter : (i j : ℕ) → i < rows → j < letters → Between (morphism_at bytes n k) (get_or queue i 0) (get_or queue j 0)

abbrev pub LettersAnswer : List ℕ → ℕ → ℕ → List ℕ → ℕ → Bool → Type 0
LettersAnswer bytes n k queue letters true = LettersBetween bytes n k queue letters letters
LettersAnswer bytes n k queue letters false = Unit {0}

abbrev pub AssociatesAnswer : Morphism → Bool → Type 0
AssociatesAnswer m true = AllAssociate m
AssociatesAnswer m false = Unit {0}
