-- The grades of pairs of classes, from bytes that laying them out leaves as they were. Assumes nothing.
use Prim.Native.Nat.{ℕ, ◌+◌, ◌*◌, ◌<◌}
use native.Mathlib.Omega.{arith}
use mathlib.Core.Path.{◌≡◌, ap, ◌∙◌}
use mathlib.Core.List.{List}
use lib.ListN.{length, set}
use Rattle.temporal.specs.Clamps.{clamp, until_outcome}
use Rattle.scratch.specs.Bytes.{UnchangedOutside}
use Rattle.scratch.specs.Map.{laid_marks_base, laid_end, until_pairs_base}
use Rattle.scratch.specs.Rows.{RowFilled, RowsFilled}
use Rattle.scratch.proofs.Rows.{filled_more, rows_more}
use Rattle.scratch.proofs.Unchanged.{unchanged_wider, unchanged_room}
use Rattle.until_clamps.specs.Clamps.{low_of, over}
use Rattle.until_clamps.proofs.Clamps.{over_low}
use Rattle.until_step.specs.Bytes.{pair_at, class_at}
use Rattle.until_marks.specs.Marks.{low_at, high_at, until_grade, ClassesSmall}

-- the lower end of the start's clamp over the cycle's
pub grade_is : {count : ℕ} {scratch classes : List ℕ} {s e r : ℕ} → ClassesSmall count scratch classes → s < count → e < count
    → r ≡ over (class_at classes s (pair_at scratch e) (pair_at scratch e)) (class_at classes e (pair_at scratch e) (pair_at scratch e)) → low_of r ≡ until_grade scratch classes s e
unfolding until_grade until_outcome
grade_is {scratch = scratch} {classes} {s} {e} n hs he q =
    ap low_of q ∙ over_low (class_at classes s (pair_at scratch e) (pair_at scratch e)) (class_at classes e (pair_at scratch e) (pair_at scratch e)) (n.clamps s e hs he)

module _ {count : ℕ} {entry classes : List ℕ} (n : ClassesSmall count entry classes) where
  module _ {now : List ℕ} (kept : UnchangedOutside laid_marks_base laid_end entry now) where
    pair_kept : (j : ℕ) → pair_at now j ≡ pair_at entry j
    pair_kept j = kept.after (until_pairs_base + j) (omega arith)

    pub small_kept : ClassesSmall count now classes
    small_kept = record {
      few = n.few;
      pairs = λ j h. rw (pair_kept j) (n.pairs j h);
      clamps = λ j e hj he. rw (pair_kept e) (n.clamps j e hj he);
      room = unchanged_room kept n.room;
      classes_room = n.classes_room;
    }

    pub grade_kept : (s e : ℕ) → until_grade now classes s e ≡ until_grade entry classes s e
    unfolding until_grade until_outcome
    grade_kept s e = ap (λ (p : ℕ). clamp (low_at classes s p p) (high_at classes s p p) (low_at classes e p p)) (pair_kept e)

  module _ {s : ℕ} (hs : s < count) where
    module _ {e : ℕ} {now : List ℕ} (r : RowFilled (λ e byte. byte ≡ until_grade entry classes s e) (laid_marks_base + s * 64) e entry now) (he : e < count) where
      row_kept : UnchangedOutside laid_marks_base laid_end entry now
      row_kept = unchanged_wider (omega arith) (omega (arith, n.few)) r.kept

      pub row_small : ClassesSmall count now classes
      row_small = small_kept row_kept

      pub grade_room : laid_marks_base + (s * 64 + e) < length now
      grade_room = omega (arith, n.few, row_small.room)

      pub grade_more : {byte : ℕ} → byte ≡ until_grade now classes s e
          → RowFilled (λ e byte. byte ≡ until_grade entry classes s e) (laid_marks_base + s * 64) (e + 1) entry (set now (laid_marks_base + (s * 64 + e)) byte)
      grade_more q = filled_more (omega arith) (omega (arith, grade_room)) r (q ∙ grade_kept row_kept s e)

    module _ {now : List ℕ} (r : RowsFilled (λ s e byte. byte ≡ until_grade entry classes s e) laid_marks_base 64 count s entry now) where
      rows_kept : UnchangedOutside laid_marks_base laid_end entry now
      rows_kept = unchanged_wider (omega arith) (omega (arith, n.few)) r.kept

      pub rows_small : ClassesSmall count now classes
      rows_small = small_kept rows_kept

      pub row_more : {next : List ℕ} → RowFilled (λ e byte. byte ≡ until_grade now classes s e) (laid_marks_base + s * 64) count now next
          → RowsFilled (λ s e byte. byte ≡ until_grade entry classes s e) laid_marks_base 64 count (s + 1) entry next
      row_more t = rows_more n.few r t (λ e byte he q. q ∙ grade_kept rows_kept s e)
