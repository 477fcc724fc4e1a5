-- What an entry and a letter make of the grades, worked out from bytes that stay as they were. Assumes nothing.
use Prim.Native.Nat.{ℕ, ◌+◌, ◌*◌, ◌-◌, ◌<◌}
use native.Mathlib.Omega.{arith}
use mathlib.Core.Path.{◌≡◌, sym, ap, ap₂, ◌∙◌}
use mathlib.Core.Logic.{◌≢◌}
use mathlib.Core.List.{List}
use lib.ListN.{length, set}
use borrow.Author.Tests.{eq-eqb, ne_eqb}
use Rattle.scratch.specs.Bytes.{UnchangedOutside}
use Rattle.scratch.specs.Map.{laid_products_base, until_grades_base, until_class_base, until_step_base, until_end}
use Rattle.scratch.specs.Rows.{RowFilled, RowsFilled}
use Rattle.scratch.proofs.Rows.{pair_small, filled_more, rows_more}
use Rattle.scratch.proofs.Unchanged.{unchanged_wider, unchanged_room}
use Rattle.until_clamps.specs.Clamps.{over}
use Rattle.until_step.specs.Bytes.{product_byte, grades_at, step_at, pair_at, class_at, entry_byte, stepped_byte, letter_byte, pair_behind, StepNeeds, RowNeeds, LetterNeeds, PairNeeds}

-- ---- the ways of the code

module _ (classes : List ℕ) (p s z : ℕ) where
  pub entry_empty : p ≡ 0 → 12 ≡ entry_byte classes p s z
  unfolding entry_byte
  entry_empty e = sym (simp (eq-eqb p 0 e))

  pub entry_class : p ≢ 0 → class_at classes (p - 1) s z ≡ entry_byte classes p s z
  unfolding entry_byte
  entry_class f = sym (simp (ne_eqb p 0 f))

module _ (scratch : List ℕ) (np p element : ℕ) where
  pub pair_letter : p ≡ 0 → element ≡ pair_behind scratch np p element
  unfolding pair_behind
  pair_letter e = sym (simp (eq-eqb p 0 e))

  pub pair_longer : p ≢ 0 → product_byte scratch np (pair_at scratch (p - 1)) element ≡ pair_behind scratch np p element
  unfolding pair_behind
  pair_longer f = sym (simp (ne_eqb p 0 f))

-- ---- an entry over the grades

module _ {np p : ℕ} {entry classes : List ℕ} (n : StepNeeds np p entry classes) where
  module _ {now : List ℕ} (kept : UnchangedOutside until_step_base until_end entry now) where
    grades_kept : (s z : ℕ) → s < np → z < np → grades_at now s z ≡ grades_at entry s z
    grades_kept s z hs hz = kept.before (until_grades_base + (s * 64 + z)) (omega (arith, n.few_pairs))

    pub needs_kept : StepNeeds np p now classes
    needs_kept = record {
      few_pairs = n.few_pairs;
      entry_small = n.entry_small;
      grades = λ s z hs hz. rw (grades_kept s z hs hz) (n.grades s z hs hz);
      clamps = n.clamps;
      room = unchanged_room kept n.room;
      classes_room = n.classes_room;
    }

    stepped_kept : (s z : ℕ) → s < np → z < np → stepped_byte classes now p s z ≡ stepped_byte classes entry p s z
    unfolding stepped_byte
    stepped_kept s z hs hz = ap (over (entry_byte classes p s z)) (grades_kept s z hs hz)

  module _ {s : ℕ} (hs : s < np) where
    module _ {z : ℕ} {now : List ℕ} (r : RowFilled (λ z byte. byte ≡ stepped_byte classes entry p s z) (until_step_base + s * 64) z entry now) (hz : z < np) where
      row_kept : UnchangedOutside until_step_base until_end entry now
      row_kept = unchanged_wider (omega arith) (omega (arith, n.few_pairs)) r.kept

      pub row_needs : StepNeeds np p now classes
      row_needs = needs_kept row_kept

      pub step_room : until_step_base + (s * 64 + z) < length now
      step_room = omega (arith, n.few_pairs, row_needs.room)

      pub grades_room : until_grades_base + (s * 64 + z) < length now
      grades_room = omega (arith, n.few_pairs, row_needs.room)

      pub clamp_place : {clamp : ℕ} → clamp ≡ entry_byte classes p s z → (clamp < 16) × (grades_at now s z < 16)
      clamp_place e = (rw e (n.clamps s z hs hz), row_needs.grades s z hs hz)

      pub step_more : {clamp made : ℕ} → clamp ≡ entry_byte classes p s z → made ≡ over clamp (grades_at now s z)
          → RowFilled (λ z byte. byte ≡ stepped_byte classes entry p s z) (until_step_base + s * 64) (z + 1) entry (set now (until_step_base + (s * 64 + z)) made)
      unfolding stepped_byte
      step_more e f = filled_more (omega arith) (omega (arith, step_room)) r (f ∙ ap₂ over e (grades_kept row_kept s z hs hz))

    module _ {now : List ℕ} (r : RowsFilled (λ s z byte. byte ≡ stepped_byte classes entry p s z) until_step_base 64 np s entry now) where
      rows_kept : UnchangedOutside until_step_base until_end entry now
      rows_kept = unchanged_wider (omega arith) (omega (arith, n.few_pairs)) r.kept

      pub rows_needs : StepNeeds np p now classes
      rows_needs = needs_kept rows_kept

      pub step_row_more : {next : List ℕ} → RowFilled (λ z byte. byte ≡ stepped_byte classes now p s z) (until_step_base + s * 64) np now next
          → RowsFilled (λ s z byte. byte ≡ stepped_byte classes entry p s z) until_step_base 64 np (s + 1) entry next
      step_row_more t = rows_more n.few_pairs r t (λ z byte hz q. q ∙ stepped_kept rows_kept s z hs hz)

-- ---- the rows that a letter leads to

module _ {np row t : ℕ} {entry : List ℕ} (n : RowNeeds np row t entry) where
  module _ {z : ℕ} {now : List ℕ} (r : RowFilled (λ z byte. byte ≡ step_at entry row z) (until_class_base + t * 64) z entry now) (hz : z < np) where
    copy_kept : UnchangedOutside until_class_base until_step_base entry now
    copy_kept = unchanged_wider (omega arith) (omega (arith, n.few_pairs, n.there)) r.kept

    pub copy_from : until_step_base + (row * 64 + z) < length now
    copy_from = omega (arith, n.few_pairs, n.row_there, unchanged_room copy_kept n.room)

    pub copy_to : until_class_base + (t * 64 + z) < length now
    copy_to = omega (arith, n.few_pairs, n.there, unchanged_room copy_kept n.room)

    pub copy_more : RowFilled (λ z byte. byte ≡ step_at entry row z) (until_class_base + t * 64) (z + 1) entry (set now (until_class_base + (t * 64 + z)) (step_at now row z))
    copy_more = filled_more (omega arith) (omega (arith, copy_to)) r (copy_kept.after (until_step_base + (row * 64 + z)) (omega arith))

module _ {np element : ℕ} {entry : List ℕ} (n : LetterNeeds np element entry) {t : ℕ} {now : List ℕ} (ht : t < np)
    (r : RowsFilled (λ t z byte. byte ≡ letter_byte entry np element t z) until_class_base 64 np t entry now) where
  class_kept : UnchangedOutside until_class_base until_step_base entry now
  class_kept = unchanged_wider (omega arith) (omega (arith, n.few_pairs)) r.kept

  pub product_small : element * np + t < 4096
  product_small = pair_small np element t n.few_pairs n.inside ht

  pub product_room : laid_products_base + (element * np + t) < length now
  product_room = omega (arith, product_small, unchanged_room class_kept n.room)

  product_kept : product_byte now np element t ≡ product_byte entry np element t
  product_kept = class_kept.before (laid_products_base + (element * np + t)) (omega (arith, product_small))

  pub row_place : RowNeeds np (product_byte now np element t) t now
  row_place = record { few_pairs = n.few_pairs; row_there = rw product_kept (n.products t ht); there = ht; room = unchanged_room class_kept n.room }

  pub class_more : {next : List ℕ} → RowFilled (λ z byte. byte ≡ step_at now (product_byte now np element t) z) (until_class_base + t * 64) np now next
      → RowsFilled (λ t z byte. byte ≡ letter_byte entry np element t z) until_class_base 64 np (t + 1) entry next
  unfolding letter_byte
  class_more s =
      rows_more n.few_pairs r s (λ z byte hz q.
      q ∙ ap (λ (i : ℕ). step_at now i z) product_kept ∙ class_kept.after (until_step_base + (product_byte entry np element t * 64 + z)) (omega arith))

-- the place of a product with an entry's pair
pub pair_place : {np p element : ℕ} {scratch : List ℕ} → PairNeeds np p element scratch → p ≢ 0 → pair_at scratch (p - 1) * np + element < 4096
pair_place {np} {p} {element} {scratch} n f = pair_small np (pair_at scratch (p - 1)) element n.few_pairs (n.pair_inside (omega arith)) n.inside
