-- What `stretch` promises: the part of a lasso that is left to read at a position. Document 01, "Stretch"; document 02, Job 4. Assumes nothing.
use Rattle.std.specs.Prelude.{ℕ, ◌+◌, ◌-◌, ◌%◌, Bool, cond, ◌&&◌, List, [], length, drop, ltb, leb}
use Rattle.formats.specs.WordChecks.{shortest_start, shortest_cycle, longest_word}
use Rattle.promises.specs.declared.StretchPlace.{StretchPlace}

-- refusal 11 names every other length of a word of at least `shortest` letters
abbrev pub word_fits : ℕ → List ℕ → Bool
word_fits shortest w = leb shortest (length w) && leb (length w) longest_word

-- "Document 01's length for u becomes 0 to 4,224, also for a stretch" (Job 4); v has 1 to 4,224 letters
abbrev pub lasso_fits : List ℕ → List ℕ → Bool
lasso_fits u v = word_fits shortest_start u && word_fits shortest_cycle v

-- "the unread rest of u, or of v once u is used up; past u the place in v is the position less the length of u, modulo the
-- length of v"
unfoldable pub unread : List ℕ → List ℕ → ℕ → List ℕ
unread u v at = cond (ltb at (length u)) (drop at u) (drop ((at - length u) % length v) v)

-- "For lengths that refusal 11 names, the answer is the empty part of u."
unfoldable pub stretch_of : List ℕ → List ℕ → ℕ → List ℕ
stretch_of u v at = cond (lasso_fits u v) (unread u v at) []

-- Where a slice begins, its `.ptr` in the toolchain's logic (`denote.Ref`): a block of memory, and how many bytes into it. A slice is
-- its pointer and its number of elements, so the place and the letters of a part tell it from every other part.
abbrev pub Pointer : Type 0
Pointer = ℕ × ℕ

-- as many bytes further on in the same block
abbrev pub further : Pointer → ℕ → Pointer
further p bytes = (p.0, p.1 + bytes)

-- where the unread rest begins, for a u that begins at p and a v that begins at q
unfoldable pub unread_place : Pointer → Pointer → List ℕ → List ℕ → ℕ → Pointer
unread_place p q u v at = cond (ltb at (length u)) (further p at) (further q ((at - length u) % length v))

-- where the answer begins: "the empty part of u" lies where u does
unfoldable pub stretch_place : Pointer → Pointer → List ℕ → List ℕ → ℕ → Pointer
stretch_place p q u v at = cond (lasso_fits u v) (unread_place p q u v at) p

-- the same part in numbers, for callers who have no slices: 1 where it lies in u or 2 in v, where it begins there, and how many letters it has. Of lengths that
-- refusal 11 names it is the empty part at the beginning of u.
unfoldable pub stretch_numbers : List ℕ → List ℕ → ℕ → StretchPlace
stretch_numbers u v at = record {
  word = cond (lasso_fits u v) (cond (ltb at (length u)) 1 2) 1;
  from = cond (lasso_fits u v) (cond (ltb at (length u)) at ((at - length u) % length v)) 0;
  letters = length (stretch_of u v at);
}
