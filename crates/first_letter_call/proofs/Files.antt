-- The three sections are those of the file of a rule whose products are their left factors. Assumes nothing.
use Prim.Native.Nat.{ℕ, zero, suc, ◌*◌, ◌≤◌, ◌<◌}
use native.Mathlib.Omega.{arith}
use native.Mathlib.Nat.{mul-le-mul}
use mathlib.Core.Path.{◌≡◌, refl, sym, ap, ap₂, ◌∙◌}
use mathlib.Core.Bool.{Bool, true, false, cond}
use mathlib.Core.List.{List, [], ◌∷◌, ◌++◌}
use lib.Dec.{eqb}
use lib.ListN.{length, get_or, take, replicate, get_or-replicate}
use lib.Seq.{length-take-le}
use Rattle.finite.specs.Select.{select_from, select}
use Rattle.formats.specs.RuleChecks.{rule_size}
use Rattle.formats.specs.WrittenFile.{tabulate, elements_bytes, letters_bytes, is_marked, mark_numbers, mark_bytes, marks_bytes, file_of}
use Rattle.formats.proofs.Tabulated.{tabulate_take}
use Rattle.formats.proofs.Front.{front_same}
use Rattle.rule_bytes.specs.Writing.{Written, CountedNeeds}
use Rattle.rule_bytes.proofs.Placed.{written_at_front}
use Rattle.rule_bytes.proofs.Counted.{counted_length, counted_end}
use Rattle.rule_writer.proofs.Parts.{three_parts}
use Rattle.temporal_promises.specs.FirstLetter.{in_set}
use Rattle.first_letter_rule.proofs.FirstLetters.{first_table, first_marks}
use Rattle.first_letter_call.specs.Elements.{element_in, grade_in, ElementsFilled}
use Rattle.first_letter_call.specs.Writing.{SectionsNeeds, SectionsWritten, RuleWritten}

-- ---- the sections written one after the other

abbrev table : List ℕ
table = 0 ∷ 0 ∷ 1 ∷ 1 ∷ []

module _ {n k : ℕ} {elements marks : List ℕ} {count size : ℕ} {before : List ℕ} (p : SectionsNeeds n k elements marks count size before) where
  pub first_letter_cells : n * n ≤ 4
  first_letter_cells = mul-le-mul p.few p.few

  pub elements_place : CountedNeeds (0 ∷ 0 ∷ 1 ∷ 1 ∷ []) n (n * n) before 0
  elements_place = record { small = omega (arith, p.few); enough = omega (arith, first_letter_cells); room = omega (arith, first_letter_cells, p.room) }

  module _ {now : List ℕ} {letters_at_lem : ℕ} (w : Written before 0 (n ∷ take (n * n) (0 ∷ 0 ∷ 1 ∷ 1 ∷ [])) now letters_at_lem) where
    kept : length now ≡ length before
    kept = counted_length elements_place w

    pub letters_place : CountedNeeds elements k k now letters_at_lem
    letters_place = record {
      small = omega (arith, p.letters_small);
      enough = p.elements_long;
      room = omega (arith, kept, counted_end elements_place w, first_letter_cells, p.letters_small, p.room);
    }

    module _ {then : List ℕ} {marks_at_lem : ℕ} (v : Written now letters_at_lem (k ∷ take k elements) then marks_at_lem) where
      kept_again : length then ≡ length before
      kept_again = counted_length letters_place v ∙ kept

      pub marks_place : CountedNeeds marks count size then marks_at_lem
      marks_place = record {
        small = omega (arith, p.count_small);
        enough = p.marks_long;
        room = omega (arith, kept_again, counted_end elements_place w, counted_end letters_place v, first_letter_cells, p.letters_small, p.size_small, p.room);
      }

      module _ {after : List ℕ} {end : ℕ} (u : Written then marks_at_lem (count ∷ take size marks) after end) where
        pub sections_kept : length after ≡ length before
        sections_kept = counted_length marks_place u ∙ kept_again

        pub sections_written : SectionsWritten n k elements marks count size before after end
        sections_written = record {
          front = written_at_front (three_parts w v u
              (omega (arith, first_letter_cells, p.room, p.letters_small, p.size_small, length-take-le (n * n) table (omega (arith, first_letter_cells)), length-take-le k elements p.elements_long, length-take-le size marks p.marks_long)));
        }

-- ---- they are the file's

-- what holds of 1, 2 and 3 holds of a grade from 1 on
three : (P : ℕ → Type 0) → P 1 → P 2 → P 3 → (g : ℕ) → 1 ≤ g → g ≤ 3 → P g
three P a b c zero h l = absurd (omega arith)
three P a b c (suc zero) h l = a
three P a b c (suc (suc zero)) h l = b
three P a b c (suc (suc (suc zero))) h l = c
three P a b c (suc (suc (suc (suc g)))) h l = absurd (omega arith)

letters_is : (n k : ℕ) (image : ℕ → ℕ) (elements : List ℕ) → k ≤ length elements → ((j : ℕ) → j < k → image j ≡ get_or elements j 0)
    → letters_bytes (first_table n k image) ≡ k ∷ take k elements
unfolding letters_bytes
letters_is n k image elements long same = ap (λ (l : List ℕ). k ∷ l) (tabulate_take k image elements long same)

module _ (k : ℕ) (image : ℕ → ℕ) where
  one_elements : elements_bytes (first_table 1 k image) ≡ 1 ∷ 0 ∷ []
  unfolding elements_bytes tabulate
  one_elements = refl

  two_elements : elements_bytes (first_table 2 k image) ≡ 2 ∷ 0 ∷ 0 ∷ 1 ∷ 1 ∷ []
  unfolding elements_bytes tabulate
  two_elements = refl

  one_none : marks_bytes (first_table 1 k image) (first_marks (λ s. 0)) ≡ 0 ∷ 0 ∷ []
  unfolding marks_bytes mark_numbers select select_from is_marked mark_bytes
  one_none = refl

  one_marked : (g : ℕ) → 1 ≤ g → g ≤ 3 → marks_bytes (first_table 1 k image) (first_marks (λ s. g)) ≡ 1 ∷ 0 ∷ 0 ∷ 0 ∷ g ∷ []
  unfolding marks_bytes mark_numbers select select_from is_marked mark_bytes
  one_marked = three (λ g. marks_bytes (first_table 1 k image) (first_marks (λ s. g)) ≡ 1 ∷ 0 ∷ 0 ∷ 0 ∷ g ∷ []) refl refl refl

  -- the grade of each element, letter 0 in the set or not
  abbrev marked : Bool → ℕ → ℕ → ℕ
  marked b g s = cond (eqb s 0) (cond b g 0) (cond b 0 g)

  two_in : (g : ℕ) → 1 ≤ g → g ≤ 3 → marks_bytes (first_table 2 k image) (first_marks (marked true g)) ≡ 2 ∷ 0 ∷ 0 ∷ 0 ∷ g ∷ 0 ∷ 1 ∷ g ∷ []
  unfolding marks_bytes mark_numbers select select_from is_marked mark_bytes
  two_in = three (λ g. marks_bytes (first_table 2 k image) (first_marks (marked true g)) ≡ 2 ∷ 0 ∷ 0 ∷ 0 ∷ g ∷ 0 ∷ 1 ∷ g ∷ []) refl refl refl

  two_out : (g : ℕ) → 1 ≤ g → g ≤ 3 → marks_bytes (first_table 2 k image) (first_marks (marked false g)) ≡ 2 ∷ 0 ∷ 1 ∷ 0 ∷ g ∷ 1 ∷ 1 ∷ g ∷ []
  unfolding marks_bytes mark_numbers select select_from is_marked mark_bytes
  two_out = three (λ g. marks_bytes (first_table 2 k image) (first_marks (marked false g)) ≡ 2 ∷ 0 ∷ 1 ∷ 0 ∷ g ∷ 1 ∷ 1 ∷ g ∷ []) refl refl refl

-- a file from its three sections
file_is : (n k : ℕ) (image grade : ℕ → ℕ) {a b c : List ℕ} → elements_bytes (first_table n k image) ≡ a → letters_bytes (first_table n k image) ≡ b
    → marks_bytes (first_table n k image) (first_marks grade) ≡ c → file_of (first_table n k image) (first_marks grade) ≡ a ++ (b ++ c)
unfolding file_of
file_is n k image grade e f g = ap₂ (λ (x y : List ℕ). x ++ y) e (ap₂ (λ (x y : List ℕ). x ++ y) f g)

-- ---- the rules that are written

pub two_place : {k set : ℕ} {elements out : List ℕ} {a b c d e f g : ℕ} → k ≤ 16 → rule_size ≤ length out → ElementsFilled set 16 elements
    → SectionsNeeds 2 k elements (a ∷ b ∷ c ∷ d ∷ e ∷ f ∷ g ∷ []) 2 7 out
two_place small room f = record {
  few = omega arith;
  letters_small = small;
  elements_long = omega (arith, f.long);
  count_small = omega arith;
  marks_long = omega arith;
  size_small = omega arith;
  room = room;
}

-- 16 letters with the element 0
zeros : {k : ℕ} (j : ℕ) → j < k → k ≤ 16 → ◌≡◌ {A = ℕ} 0 (get_or (replicate 16 0) j 0)
zeros j h l = sym (get_or-replicate 16 j 0 0 (omega arith))

module _ {k : ℕ} {before after : List ℕ} {end : ℕ} where
  one_front : {elements marks : List ℕ} {g count size : ℕ} → k ≤ length elements → ((j : ℕ) → j < k → 0 ≡ get_or elements j 0) → marks_bytes (first_table 1 k (λ x. 0)) (first_marks (λ s. g)) ≡ count ∷ take size marks
      → SectionsWritten 1 k elements marks count size before after end → RuleWritten 1 k (λ x. 0) (λ s. g) before after end
  one_front {elements} {g = g} long same e w = record {
    front = front_same (sym (file_is 1 k (λ x. 0) (λ s. g) (one_elements k (λ x. 0)) (letters_is 1 k (λ x. 0) elements long same) e)) w.front;
  }

  pub one_zero : {g : ℕ} → k ≤ 16 → g ≡ 0 → SectionsWritten 1 k (replicate 16 0) (0 ∷ 0 ∷ 0 ∷ g ∷ []) 0 1 before after end → RuleWritten 1 k (λ x. 0) (λ s. g) before after end
  one_zero {g} small e w = one_front small (λ j h. zeros j h small) (ap (λ (i : ℕ). marks_bytes (first_table 1 k (λ x. 0)) (first_marks (λ s. i))) e ∙ one_none k (λ x. 0)) w

  pub one_some : {g : ℕ} → k ≤ 16 → 1 ≤ g → g ≤ 3 → SectionsWritten 1 k (replicate 16 0) (0 ∷ 0 ∷ 0 ∷ g ∷ []) 1 4 before after end → RuleWritten 1 k (λ x. 0) (λ s. g) before after end
  one_some {g} small some few w = one_front small (λ j h. zeros j h small) (one_marked k (λ x. 0) g some few) w

  module _ {set g : ℕ} {elements : List ℕ} (small : k ≤ 16) (some : 1 ≤ g) (few : g ≤ 3) (f : ElementsFilled set 16 elements) where
    two_front : {marks : List ℕ} (b : Bool) → b ≡ in_set set 0 → marks_bytes (first_table 2 k (element_in set)) (first_marks (marked k (element_in set) b g)) ≡ 2 ∷ take 7 marks
        → SectionsWritten 2 k elements marks 2 7 before after end → RuleWritten 2 k (element_in set) (grade_in set g) before after end
    unfolding grade_in
    two_front b q e w = record {
      front = front_same (sym (file_is 2 k (element_in set) (grade_in set g) (two_elements k (element_in set))
          (letters_is 2 k (element_in set) elements (omega (arith, f.long)) (λ j h. sym (f.filled j (omega arith))))
          (ap (λ (c : Bool). marks_bytes (first_table 2 k (element_in set)) (first_marks (marked k (element_in set) c g))) (sym q) ∙ e))) w.front;
    }

    pub two_first : {b : Bool} → b ≡ in_set set 0 → b ≡ true → SectionsWritten 2 k elements (0 ∷ 0 ∷ 0 ∷ g ∷ 0 ∷ 1 ∷ g ∷ []) 2 7 before after end
        → RuleWritten 2 k (element_in set) (grade_in set g) before after end
    two_first q t w = two_front true (sym t ∙ q) (two_in k (element_in set) g some few) w

    pub two_second : {b : Bool} → b ≡ in_set set 0 → b ≡ false → SectionsWritten 2 k elements (0 ∷ 1 ∷ 0 ∷ g ∷ 1 ∷ 1 ∷ g ∷ []) 2 7 before after end
        → RuleWritten 2 k (element_in set) (grade_in set g) before after end
    two_second q t w = two_front false (sym t ∙ q) (two_out k (element_in set) g some few) w
