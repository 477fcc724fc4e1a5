-- The marks are worked out from bytes that laying out other marks leaves as they were. Assumes nothing.
use Prim.Native.Nat.{ℕ, ◌+◌, ◌*◌, ◌≤◌, ◌<◌}
use mathlib.Core.Path.{◌≡◌, refl, sym, ◌∙◌}
use mathlib.Core.Bool.{Bool, true, false, not}
use mathlib.Core.List.{List}
use native.Mathlib.Omega.{arith}
use lib.ListN.{length, get_or, set}
use Rattle.scratch.specs.Bytes.{UnchangedOutside}
use Rattle.scratch.specs.Map.{laid_products_base, laid_marks_base, marks_from}
use Rattle.scratch.specs.Rows.{RowFilled, RowsFilled}
use Rattle.scratch.proofs.Rows.{pair_small, filled_more, rows_more}
use Rattle.scratch.proofs.Unchanged.{unchanged_room}
use Rattle.rule_marks.specs.Faults.{LinkedAnswer}
use Rattle.rule_marks.proofs.MarkOrder.{said_linked, said_unlinked}
use Rattle.rule_laid.specs.Laid.{laid_table}
use Rattle.rule_laid.proofs.Laid.{linked_alike}
use Rattle.word_rule.specs.Writing.{GradesNeeds, LinkedGrade}

module _ {count : ℕ} {scratch : List ℕ} {s e : ℕ} (linked : Bool) (l : LinkedAnswer (laid_table scratch count) s e linked) where
  -- two classes that are not linked have the mark 0
  pub mark_unlinked : not linked ≡ true → LinkedGrade count scratch s e 0
  mark_unlinked g = record { of_linked = λ k. absurd (said_unlinked _ s e linked l g k); of_others = λ f. refl }

  -- others have their grade
  pub mark_linked : not linked ≡ false → LinkedGrade count scratch s e (get_or scratch (laid_marks_base + (s * 64 + e)) 0)
  unfolding marks_from
  mark_linked g = record { of_linked = λ k. refl; of_others = λ f. absurd (f (said_linked _ s e linked l g)) }

pub needs_kept : {count from to : ℕ} {entry now : List ℕ} → UnchangedOutside from to entry now → GradesNeeds count entry → GradesNeeds count now
needs_kept k p = record { few = p.few; room = unchanged_room k p.room }

-- the products are as they were, and so are the linked pairs, where only marks changed
module _ {from to count : ℕ} {entry now : List ℕ} (kept : UnchangedOutside from to entry now) (g : laid_marks_base ≤ from) (few : count ≤ 64) where
  pub product_kept : (i j : ℕ) → i < count → j < count → (laid_table now count).product i j ≡ (laid_table entry count).product i j
  product_kept i j hi hj = kept.before (laid_products_base + (i * count + j)) (omega (arith, pair_small count i j few hi hj))

  -- a mark whose grade is as it was
  pub mark_kept : {s e byte : ℕ} → marks_from now laid_marks_base s e ≡ marks_from entry laid_marks_base s e → LinkedGrade count now s e byte → LinkedGrade count entry s e byte
  mark_kept same m = record {
    of_linked = λ k. m.of_linked (linked_alike refl (λ x y hx hy. product_kept x y hx hy) k) ∙ same;
    of_others = λ f. m.of_others (λ k. f (linked_alike refl (λ x y hx hy. sym (product_kept x y hx hy)) k));
  }

module _ {count s : ℕ} {entry : List ℕ} (p : GradesNeeds count entry) (hs : s < count) where
  module _ {e : ℕ} {now : List ℕ} (r : RowFilled (LinkedGrade count entry s) (laid_marks_base + s * 64) e entry now) (he : e < count) where
    pub mark_room : laid_marks_base + (s * 64 + e) < length now
    mark_room = omega (arith, p.few, unchanged_room r.kept p.room)

    pub mark_more : {byte : ℕ} → LinkedGrade count now s e byte
        → RowFilled (LinkedGrade count entry s) (laid_marks_base + s * 64) (e + 1) entry (set now (laid_marks_base + (s * 64 + e)) byte)
    unfolding marks_from
    mark_more m = filled_more (omega arith) (omega (arith, mark_room)) r (mark_kept r.kept (omega arith) p.few (r.kept.after (laid_marks_base + (s * 64 + e)) (omega arith)) m)

  pub row_more : {now next : List ℕ} → RowsFilled (LinkedGrade count entry) laid_marks_base 64 count s entry now
      → RowFilled (LinkedGrade count now s) (laid_marks_base + s * 64) count now next → RowsFilled (LinkedGrade count entry) laid_marks_base 64 count (s + 1) entry next
  unfolding marks_from
  row_more r t =
      rows_more p.few r t (λ e byte he m. mark_kept r.kept (omega arith) p.few (r.kept.after (laid_marks_base + (s * 64 + e)) (omega arith)) m)
