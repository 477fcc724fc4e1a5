-- The marks of the complement, worked out in place in the second table of marks. Assumes nothing.
use Rattle.std.specs.Prelude.{ℕ, ◌+◌, ◌*◌, ◌-◌, ◌≤◌, ◌<◌, ◌≡◌, cond, List, length, get_or}
use Rattle.theory.specs.Rules.{Morphism, Marking}
use Rattle.theory.proofs.Closure.{linked_test}
use Rattle.scratch.specs.Map.{second_base, tables_end, marks_from}
use Rattle.mark_closure.specs.Closing.{place}

-- 3 less the mark of a linked pair, 0 for every other
unfoldable pub turned_mark : Morphism → Marking → Marking
turned_mark m marks s e =
    let lacks = 3 - marks s e in
    cond (linked_test m s e) lacks 0

-- the second table has the marks of before turned; no byte has changed but those of pairs of elements there
pub record ComplementLaid (m : Morphism) (entry exit : List ℕ) : Type 0 where
  pub same_length : length exit ≡ length entry
  pub marks : (s e : ℕ) → s < m.size → e < m.size → marks_from exit second_base s e ≡ turned_mark m (marks_from entry second_base) s e
  pub before : (i : ℕ) → i < second_base → get_or exit i 0 ≡ get_or entry i 0
  pub after : (i : ℕ) → tables_end ≤ i → get_or exit i 0 ≡ get_or entry i 0
  pub between : (i : ℕ) → ((s e : ℕ) → s < m.size → e < m.size → i ≡ second_base + (s * 64 + e) → ⊥) → get_or exit i 0 ≡ get_or entry i 0

-- the byte that a pair is to have
abbrev pub ComplementByte : Morphism → List ℕ → ℕ → ℕ → ℕ → Type 0
ComplementByte m bytes s e byte = byte ≡ turned_mark m (marks_from bytes second_base) s e

-- the first pairs that begin with s have their bytes, and every other byte is as it was
pub record ComplementRow (m : Morphism) (s count : ℕ) (entry exit : List ℕ) : Type 0 where
  pub same_length : length exit ≡ length entry
  pub row : (e : ℕ) → e < count → ComplementByte m entry s e (get_or exit (place s e) 0)
  pub others : (i : ℕ) → ((e : ℕ) → e < count → i ≡ place s e → ⊥) → get_or exit i 0 ≡ get_or entry i 0

-- the pairs that begin with one of the first elements have their bytes, and every other byte is as it was
pub record ComplementRows (m : Morphism) (count : ℕ) (entry exit : List ℕ) : Type 0 where
  pub same_length : length exit ≡ length entry
  pub rows : (s e : ℕ) → s < count → e < m.size → ComplementByte m entry s e (get_or exit (place s e) 0)
  pub others : (i : ℕ) → ((s e : ℕ) → s < count → e < m.size → i ≡ place s e → ⊥) → get_or exit i 0 ≡ get_or entry i 0
