-- Rules that agree on their elements, letters and marks are written as the same bytes. Assumes nothing.
use Prim.Native.Nat.{ℕ, zero, suc, ◌*◌, ◌/◌, ◌%◌, ◌<◌}
use mathlib.Core.Path.{◌≡◌, refl, sym, ap, ap₂, ◌∙◌}
use mathlib.Core.List.{List, ◌∷◌, ◌++◌}
use native.Mathlib.Omega.{arith}
use native.Mathlib.Nat.{mod-lt, div-lt_iff_lt-mul}
use lib.Dec.{ltb}
use lib.ListN.{length}
use Rattle.theory.specs.Rules.{Morphism, Marking}
use Rattle.finite.specs.Select.{select_from}
use Rattle.formats.specs.RuleFile.{mark_width}
use Rattle.formats.specs.WrittenFile.{tabulate, elements_bytes, letters_bytes, is_marked, mark_bytes, marks_bytes, file_of}
use Rattle.formats.proofs.MarkBytes.{marks_equal}
use Rattle.formats.proofs.Rows.{sized, marks_from, section_is}
use Rattle.formats.proofs.Agree.{Agree}
use Rattle.formats.proofs.Tabulated.{tabulate_same}
use Rattle.formats.proofs.Listed.{select_listed, select_same}

-- the pairs of n elements have the same numbers
pub record SameMarks (n : ℕ) (marks marks' : Marking) : Type 0 where
  pub same : (s e : ℕ) → s < n → e < n → marks' s e ≡ marks s e

-- where there are pairs there are elements
some_element : (n i : ℕ) → i < n * n → 0 < n
some_element zero i h = absurd (let z : ⊥ = omega arith in z)
some_element (suc n) i h = omega arith

start_inside : (n i : ℕ) → i < n * n → i / n < n
start_inside n i h = (div-lt_iff_lt-mul (some_element n i h)).1 h

cycle_inside : (n i : ℕ) → i < n * n → i % n < n
cycle_inside n i h = mod-lt i (some_element n i h)

-- all marks have the same bytes
all_marks : (n : ℕ) (marks marks' : Marking) → SameMarks n marks marks' → marks_from n marks' 0 (n * n) ≡ marks_from n marks 0 (n * n)
unfolding marks_from is_marked
all_marks n marks marks' h =
    marks_equal (sized n) marks marks' (select_from (n * n) 0 (is_marked (sized n) marks') (λ i. i))
    (λ j l. of_pair _ (let a = (select_listed (is_marked (sized n) marks') 0 (n * n)).each j l in omega (arith, a.high)))
    ∙ ap (mark_bytes (sized n) marks)
    (select_same (is_marked (sized n) marks') (is_marked (sized n) marks) 0 (n * n) (λ x low high. ap (ltb 0) (of_pair x (omega arith))))
  where
    of_pair : (x : ℕ) → x < n * n → marks' (x / n) (x % n) ≡ marks (x / n) (x % n)
    of_pair x l = h.same _ _ (start_inside n x l) (cycle_inside n x l)

-- the marks' sections are the same
pub marks_same : (m m' : Morphism) (marks marks' : Marking) → m'.size ≡ m.size → SameMarks m.size marks marks'
    → marks_bytes m' marks' ≡ marks_bytes m marks
marks_same m m' marks marks' e h =
    section_is m' marks' m.size e
    ∙ ap (λ (l : List ℕ). length l / mark_width % 256 ∷ length l / mark_width / 256 ∷ l) (all_marks m.size marks marks' h)
    ∙ sym (section_is m marks m.size refl)

module _ {m m' : Morphism} (agree : Agree m m') where
  -- the elements' sections are the same
  pub elements_same : elements_bytes m' ≡ elements_bytes m
  unfolding elements_bytes
  elements_same =
      ap (λ (n : ℕ). n ∷ tabulate 0 (n * n) (λ i. m'.product (i / n) (i % n))) agree.same_size
      ∙ ap (λ (l : List ℕ). m.size ∷ l)
      (tabulate_same (m.size * m.size) _ _
      (λ i h. agree.same_product _ _ (start_inside m.size i h) (cycle_inside m.size i h)))

  -- the letters' sections are the same
  pub letters_same : letters_bytes m' ≡ letters_bytes m
  unfolding letters_bytes
  letters_same =
      ap (λ (k : ℕ). k ∷ tabulate 0 k m'.image) agree.same_letters
      ∙ ap (λ (l : List ℕ). m.letters ∷ l) (tabulate_same m.letters _ _ agree.same_image)

  -- the files are the same
  pub file_same : {marks marks' : Marking} → SameMarks m.size marks marks' → file_of m' marks' ≡ file_of m marks
  unfolding file_of
  file_same {marks} {marks'} h =
      ap₂ ◌++◌ elements_same (ap₂ ◌++◌ letters_same (marks_same m m' marks marks' agree.same_size h))
