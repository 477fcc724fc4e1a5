-- What the answers of this crate's functions say. Assumes nothing.
use Rattle.std.specs.Prelude.{ℕ, List, Option, Some, None}
use Rattle.formats.specs.Table.{morphism_at}
use Rattle.formats.proofs.Tables.{AllAssociate, FirstTriple}

abbrev pub TripleAnswer : List ℕ → ℕ → ℕ → Option (ℕ × ℕ × ℕ) → Type 0
TripleAnswer bytes n k (Some (a, b, c)) = FirstTriple (morphism_at bytes n k) a b c
TripleAnswer bytes n k None = AllAssociate (morphism_at bytes n k)
