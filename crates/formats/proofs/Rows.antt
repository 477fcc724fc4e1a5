-- The sections of a written file as rows of bytes. Assumes nothing.
use Prim.Native.Nat.{ℕ, ◌*◌, ◌/◌, ◌%◌}
use mathlib.Core.List.{List, ◌∷◌}
use mathlib.Core.Path.{◌≡◌, sym, ap, ap₂, ◌∙◌}
use native.Mathlib.Omega.{arith}
use native.Mathlib.Nat.{mul-div_right}
use lib.Dec.{ltb}
use lib.ListN.{length}
use Rattle.finite.specs.Select.{select_from, select}
use Rattle.theory.specs.Rules.{Morphism, Marking}
use Rattle.formats.specs.RuleFile.{mark_width}
use Rattle.formats.specs.WrittenFile.{is_marked, mark_bytes, mark_numbers, marks_bytes}
use Rattle.formats.proofs.MarkBytes.{marks_length, marks_size}

-- n elements and nothing else: what the marks of a file look at
abbrev pub sized : ℕ → Morphism
sized n = record { size = n; letters = 0; product = λ a b. 0; image = λ a. 0 }

-- the bytes of the marked ones among `count` pairs of n elements, from the pair with the number `from` on
unfoldable pub marks_from : ℕ → Marking → ℕ → ℕ → List ℕ
marks_from n marks from count = mark_bytes (sized n) marks (select_from count from (is_marked (sized n) marks) (λ i. i))

-- the numbers of the marked pairs depend on the size only
numbers_are : (m : Morphism) (marks : Marking) (n : ℕ) → m.size ≡ n
    → mark_numbers m marks ≡ select_from (n * n) 0 (is_marked (sized n) marks) (λ i. i)
unfolding mark_numbers select is_marked
numbers_are m marks n e = ap (λ (k : ℕ). select_from (k * k) 0 (λ i. ltb 0 (marks (i / k) (i % k))) (λ i. i)) e

-- as many marks as their bytes hold
marks_count : (m : Morphism) (marks : Marking) (xs : List ℕ) → length xs ≡ length (mark_bytes m marks xs) / mark_width
marks_count m marks xs = sym (ap (λ (c : ℕ). c / mark_width) (marks_length m marks xs) ∙ mul-div_right (length xs) (omega arith))

-- all marks after their count are the marks' section
pub section_is : (m : Morphism) (marks : Marking) (n : ℕ) → m.size ≡ n
    → marks_bytes m marks
    ≡ (length (marks_from n marks 0 (n * n)) / mark_width % 256 ∷ length (marks_from n marks 0 (n * n)) / mark_width / 256 ∷ marks_from n marks 0 (n * n))
unfolding marks_bytes marks_from
section_is m marks n e =
    ap (λ (xs : List ℕ). length xs % 256 ∷ length xs / 256 ∷ mark_bytes m marks xs) (numbers_are m marks n e)
    ∙ ap₂ (λ (c : ℕ) (l : List ℕ). c % 256 ∷ c / 256 ∷ l) (marks_count (sized n) marks _) (marks_size (sized n) m marks e _)
