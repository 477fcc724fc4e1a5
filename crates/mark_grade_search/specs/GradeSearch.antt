-- What the search at every grade answers. `first` and `second` are the bytes where the two tables of marks begin. Assumes nothing.
use Rattle.std.specs.Prelude.{◌≡◌, ℕ, ◌+◌, ◌<◌, ◌≤◌, List, length, slice_index, Option, Some, None}
use Rattle.theory.specs.Rules.{Morphism, Marking, level}
use Rattle.theory.proofs.Escapes.{Escapes}
use Rattle.scratch.specs.Map.{MarkingAt, search_end, tables_end}
use Rattle.mark_search.specs.Search.{EscapedAt}
use Rattle.mark_grade_search.specs.declared.GradeEscape.{GradeEscape}

-- among the first bytes from `first` on no mark lies between r and the grade
pub record HighestBelow (bytes : List ℕ) (first count below r : ℕ) : Type 0 where
  pub less : r < below
  pub none_between : (i : ℕ) → i < count → slice_index bytes (first + i) < below → slice_index bytes (first + i) ≤ r

-- the search at a grade ended at an entry for a start value
pub record GradeEscapedAt (m : Morphism) (F S : Marking) (scratch : List ℕ) (g s i : ℕ) : Type 0 where
  pub some : 1 ≤ g
  pub small : g ≤ 3
  pub escaped : EscapedAt m (level g F) (level g S) s scratch i

-- a grade and a start value with a cycle that escapes, and the entry that ends its search; or there is none at any grade, where the first
-- marking has no mark above 3
abbrev pub GradeEscapeAnswer : Morphism → Marking → Marking → List ℕ → Option GradeEscape → Type 0
GradeEscapeAnswer m F S scratch (Some e) = GradeEscapedAt m F S scratch e.grade e.escape.start e.escape.entry
GradeEscapeAnswer m F S scratch None = ((s e : ℕ) → s < m.size → e < m.size → F s e ≤ 3)
    → (g : ℕ) → 1 ≤ g → (s : ℕ) → s < m.size → (v : List ℕ) → Escapes m (level g F) (level g S) s v → ⊥

-- the answer for any markings that stand in the tables; the tables of marks and the bytes behind the lists of preimages are as they were
pub record GradeEscaped (m : Morphism) (first second : ℕ) (entry exit : List ℕ) (answer : Option GradeEscape) : Type 0 where
  pub same_length : length exit ≡ length entry
  pub says : (F S : Marking) → MarkingAt m.size F entry first → MarkingAt m.size S entry second → GradeEscapeAnswer m F S exit answer
  pub marks : (i : ℕ) → i < tables_end → slice_index exit i ≡ slice_index entry i
  pub behind : (i : ℕ) → search_end ≤ i → slice_index exit i ≡ slice_index entry i
