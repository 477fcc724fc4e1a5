-- Markings that stand in tables of marks: their levels, and tables that stay as they were. Assumes nothing.
use Prim.Native.Nat.{ℕ, ◌+◌, ◌*◌, ◌≤◌, ◌<◌}
use mathlib.Core.Path.{◌≡◌, refl, sym, ap, ◌∙◌}
use mathlib.Core.List.{List}
use native.Mathlib.Omega.{arith}
use lib.ListN.{get_or}
use lib.Dec.{leb}
use Rattle.theory.specs.Rules.{Marking, level}
use Rattle.scratch.specs.Map.{mark_table_size, marks_from, MarkingAt}

-- a pair of the same mark is in the same levels
pub level_same : (least : ℕ) (F G : Marking) {s e : ℕ} → F s e ≡ G s e → level least F s e ≡ level least G s e
unfolding level
level_same least F G q = ap (leb least) q

-- a table has its own marks
pub marking_itself : (n : ℕ) (bytes : List ℕ) (base : ℕ) → MarkingAt n (marks_from bytes base) bytes base
marking_itself n bytes base = record { same = λ s e hs he. refl }

-- the mark of a pair in a table at the front
pub front_mark : (bytes : List ℕ) (s e : ℕ) → get_or bytes (s * 64 + e) 0 ≡ marks_from bytes 0 s e
unfolding marks_from
front_mark bytes s e = ap (λ (i : ℕ). get_or bytes i 0) (let z : s * 64 + e ≡ 0 + (s * 64 + e) = omega arith in z)

-- the levels of a marking that stands in a table are those of the table
pub level_at : {n : ℕ} {F : Marking} {bytes : List ℕ} {base : ℕ} (least : ℕ) → MarkingAt n F bytes base → {s e : ℕ} → s < n → e < n
    → level least F s e ≡ level least (marks_from bytes base) s e
level_at {F = F} {bytes} {base} least t hs he = level_same least F (marks_from bytes base) (t.same _ _ hs he)

-- a marking stays where the bytes of its table stay
pub marking_kept : {n : ℕ} {F : Marking} {entry exit : List ℕ} (base : ℕ) → n ≤ 64
    → ((i : ℕ) → base ≤ i → i < base + mark_table_size → get_or exit i 0 ≡ get_or entry i 0) → MarkingAt n F entry base → MarkingAt n F exit base
unfolding marks_from
marking_kept base small k t = record { same = λ s e hs he. t.same s e hs he ∙ sym (k (base + (s * 64 + e)) (omega arith) (omega arith)) }
