-- Reduction in rounds: which elements of a rule stand together after each round. An outcome is a number for each pair of
-- elements; the rounds do not look at what the numbers mean. The quoted words are of document 02, Job 9. Assumes nothing.
use Rattle.std.specs.Prelude.{ℕ, zero, suc, ◌≤◌, ◌<◌, ◌≡◌, ◌↔◌, List, length, get_or}
use Rattle.theory.specs.Words.{Over}
use Rattle.theory.specs.Rules.{Morphism, Marking, Rule, element, value, AllReached}
use Rattle.theory.specs.Grades.{LassosGraded}
use Rattle.theory.specs.Smallest.{Reduction}

-- "to agree in Job 9 means equal grades" (Job 12): the outcome of two elements is the grade of the lassos with those values
pub record GradesByValues (m : Morphism) (marks : Marking) (acc : ℕ → ℕ → ℕ) : Type 0 where
  pub graded : (s z : ℕ) → s < m.size → z < m.size → LassosGraded m marks (element s) z (acc s z)

-- "for each element z, lassos with values (s, z) and (t, z) agree, and those with (z, s) and (z, t) agree"
pub record SameOutcomes (m : Morphism) (acc : ℕ → ℕ → ℕ) (s t : ℕ) : Type 0 where
  pub as_start : (z : ℕ) → z < m.size → acc s z ≡ acc t z
  pub as_cycle : (z : ℕ) → z < m.size → acc z s ≡ acc z t

-- "keeps s and t together if they were, and for every letter their products with it, on the left and on the right, were
-- in one block too"
pub record StillTogether (m : Morphism) (R : ℕ → ℕ → Type 0) (s t : ℕ) : Type 0 where
  pub before : R s t
  pub on_right : (a : ℕ) → a < m.letters → R (m.product s (m.image a)) (m.product t (m.image a))
  pub on_left : (a : ℕ) → a < m.letters → R (m.product (m.image a) s) (m.product (m.image a) t)

-- s and t are in one block: "Round 0 puts s and t in one block if .. A further round keeps s and t together if .."
unfoldable pub Together : Morphism → (ℕ → ℕ → ℕ) → ℕ → ℕ → ℕ → Type 0
Together m acc zero s t = SameOutcomes m acc s t
Together m acc (suc i) s t = StillTogether m (Together m acc i) s t

-- the round after i changes nothing
pub record Stable (m : Morphism) (acc : ℕ → ℕ → ℕ) (i : ℕ) : Type 0 where
  pub kept : (s t : ℕ) → s < m.size → t < m.size → Together m acc i s t → Together m acc (suc i) s t

-- "a byte for each element, the least in its block": the list has for each of n elements the least that is related to it
pub record IsBlocks (n : ℕ) (R : ℕ → ℕ → Type 0) (blocks : List ℕ) : Type 0 where
  pub count : length blocks ≡ n
  pub at_most : (s : ℕ) → s < n → get_or blocks s 0 ≤ s
  pub related : (s : ℕ) → s < n → R (get_or blocks s 0) s
  pub least : (s t : ℕ) → s < n → t < get_or blocks s 0 → R t s → ⊥

-- words with the values s and t have one value in another table
pub record OneValueIn (m m' : Morphism) (s t : ℕ) : Type 0 where
  pub one : (u w : List ℕ) → Over m.letters u → Over m.letters w → value m u ≡ element s → value m w ≡ element t → value m' u ≡ value m' w

-- "whose blocks are the elements of the smallest rule": there is a reduction of the rule, and whichever it is, words of two elements have one
-- value there exactly if the elements are related, and each of its elements is some word's value
pub record ElementsOfReductions (r : Rule) (R : ℕ → ℕ → Type 0) : Type 0 where
  pub reduced : Rule
  pub reduction : Reduction r reduced
  pub related : (x : Rule) → Reduction r x → (s t : ℕ) → s < r.morphism.size → t < r.morphism.size → R s t ↔ OneValueIn r.morphism x.morphism s t
  pub reached : (x : Rule) → Reduction r x → AllReached x.morphism
