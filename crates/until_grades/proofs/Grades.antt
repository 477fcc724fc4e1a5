-- The grades at the contexts, worked out from bytes that laying them out leaves as they were. Assumes nothing.
use Prim.Native.Nat.{ℕ, ◌+◌, ◌*◌, max, ◌≤◌, ◌<◌}
use native.Mathlib.Omega.{arith}
use mathlib.Core.Path.{◌≡◌, ap, ap₂, ◌∙◌}
use mathlib.Core.List.{List}
use lib.ListN.{length, set}
use Rattle.theory.specs.Rules.{Morphism, Lawful}
use Rattle.theory.specs.Pairs.{LeastPower}
use Rattle.theory.proofs.IdempotentPowers.{least_power_is}
use Rattle.theory.proofs.Powers.{idempotent_inside}
use Rattle.theory.proofs.Conjugacy.{semigroup}
use Rattle.theory.proofs.Strength.{settled_start, settled_cycle}
use Rattle.formats.specs.Table.{morphism_at}
use Rattle.scratch.specs.Bytes.{UnchangedOutside}
use Rattle.scratch.specs.Map.{second_base, search_end, pair_lefts_base, pair_rights_base, until_grades_base, until_class_base, marks_from}
use Rattle.scratch.specs.Rows.{RowFilled, RowsFilled}
use Rattle.scratch.proofs.Rows.{filled_more, rows_more}
use Rattle.scratch.proofs.Unchanged.{unchanged_wider, unchanged_room}
use Rattle.pair_list.specs.Pairs.{left_at, right_at}
use Rattle.until_grades.specs.Grades.{look, both_grades, GradesNeeds}

-- a look by the power that was found
pub look_found : {m : Morphism} (scratch : List ℕ) (base s : ℕ) {z f exponent r : ℕ} → Lawful m → z < m.size → LeastPower m z f exponent → r ≡ marks_from scratch base (m.product s f) f → r ≡ look m scratch base s z
unfolding look
look_found {m} scratch base s law hz power e = e ∙ ap (λ (f : ℕ). marks_from scratch base (m.product s f) f) (least_power_is law hz power).is_power

-- the grades of a context
pub both_are : (first : List ℕ) (n₁ : ℕ) (second : List ℕ) (n₂ k : ℕ) (scratch : List ℕ) (t z : ℕ) {a b r : ℕ}
    → a ≡ look (morphism_at first n₁ k) scratch search_end (left_at scratch t) (left_at scratch z) → b ≡ look (morphism_at second n₂ k) scratch second_base (right_at scratch t) (right_at scratch z)
    → r ≡ b + 4 * max b a → r ≡ both_grades first n₁ second n₂ k scratch t z
unfolding both_grades
both_are first n₁ second n₂ k scratch t z e f g = g ∙ ap₂ (λ (a b : ℕ). b + 4 * max b a) e f

-- ---- while they are laid out

module _ {first : List ℕ} {n₁ : ℕ} {second : List ℕ} {n₂ k count : ℕ} {entry : List ℕ} (n : GradesNeeds first n₁ second n₂ k count entry) where
  -- bytes between the halves and the first rule's closure change
  module _ {from to : ℕ} {now : List ℕ} (kept : UnchangedOutside from to entry now) (low : 12416 ≤ from) (high : to ≤ search_end) where
    left_kept : (i : ℕ) → i < count → left_at now i ≡ left_at entry i
    left_kept i h = kept.before (pair_lefts_base + i) (omega (arith, n.few))

    right_kept : (i : ℕ) → i < count → right_at now i ≡ right_at entry i
    right_kept i h = kept.before (pair_rights_base + i) (omega (arith, n.few))

    first_kept : (s z : ℕ) → s < n₁ → z < n₁ → look (morphism_at first n₁ k) now search_end s z ≡ look (morphism_at first n₁ k) entry search_end s z
    unfolding look marks_from
    first_kept s z hs hz = kept.after (search_end + (settled_start (morphism_at first n₁ k) s z * 64 + settled_cycle (morphism_at first n₁ k) z)) (omega arith)

    second_kept : (s z : ℕ) → s < n₂ → z < n₂ → look (morphism_at second n₂ k) now second_base s z ≡ look (morphism_at second n₂ k) entry second_base s z
    unfolding look marks_from
    second_kept s z hs hz =
        let law = n.tables.second_law in
        let f = idempotent_inside (semigroup law) hz in
        let g = law.closed s (settled_cycle (morphism_at second n₂ k) z) hs f in
        let small = n.tables.second_is_table.small in
        kept.before (second_base + (settled_start (morphism_at second n₂ k) s z * 64 + settled_cycle (morphism_at second n₂ k) z)) (omega arith)

    pub needs_kept : GradesNeeds first n₁ second n₂ k count now
    needs_kept = record {
      tables = n.tables;
      few = n.few;
      lefts = λ i h. rw (left_kept i h) (n.lefts i h);
      rights = λ i h. rw (right_kept i h) (n.rights i h);
      first_small = λ s z hs hz. rw (first_kept s z hs hz) (n.first_small s z hs hz);
      second_small = λ s z hs hz. rw (second_kept s z hs hz) (n.second_small s z hs hz);
      room = unchanged_room kept n.room;
    }

    pub grades_kept : (t z : ℕ) → t < count → z < count → both_grades first n₁ second n₂ k now t z ≡ both_grades first n₁ second n₂ k entry t z
    unfolding both_grades
    grades_kept t z ht hz =
        ap₂ (λ (a b : ℕ). b + 4 * max b a)
        (ap₂ (look (morphism_at first n₁ k) now search_end) (left_kept t ht) (left_kept z hz) ∙ first_kept (left_at entry t) (left_at entry z) (n.lefts t ht) (n.lefts z hz))
        (ap₂ (look (morphism_at second n₂ k) now second_base) (right_kept t ht) (right_kept z hz) ∙ second_kept (right_at entry t) (right_at entry z) (n.rights t ht) (n.rights z hz))

  module _ {t : ℕ} (ht : t < count) where
    module _ {z : ℕ} {now : List ℕ} (r : RowFilled (λ z byte. byte ≡ both_grades first n₁ second n₂ k entry t z) (until_grades_base + t * 64) z entry now) (hz : z < count) where
      row_kept : UnchangedOutside until_grades_base until_class_base entry now
      row_kept = unchanged_wider (omega arith) (omega (arith, n.few)) r.kept

      pub row_needs : GradesNeeds first n₁ second n₂ k count now
      row_needs = needs_kept row_kept (omega arith) (omega arith)

      pub byte_room : until_grades_base + (t * 64 + z) < length now
      byte_room = omega (arith, n.few, row_needs.room)

      pub byte_more : {byte : ℕ} → byte ≡ both_grades first n₁ second n₂ k now t z
          → RowFilled (λ z byte. byte ≡ both_grades first n₁ second n₂ k entry t z) (until_grades_base + t * 64) (z + 1) entry (set now (until_grades_base + (t * 64 + z)) byte)
      byte_more e = filled_more (omega arith) (omega (arith, byte_room)) r (e ∙ grades_kept row_kept (omega arith) (omega arith) t z ht hz)

    module _ {now : List ℕ} (r : RowsFilled (λ t z byte. byte ≡ both_grades first n₁ second n₂ k entry t z) until_grades_base 64 count t entry now) where
      rows_kept : UnchangedOutside until_grades_base until_class_base entry now
      rows_kept = unchanged_wider (omega arith) (omega (arith, n.few)) r.kept

      pub rows_needs : GradesNeeds first n₁ second n₂ k count now
      rows_needs = needs_kept rows_kept (omega arith) (omega arith)

      pub row_more : {next : List ℕ} → RowFilled (λ z byte. byte ≡ both_grades first n₁ second n₂ k now t z) (until_grades_base + t * 64) count now next
          → RowsFilled (λ t z byte. byte ≡ both_grades first n₁ second n₂ k entry t z) until_grades_base 64 count (t + 1) entry next
      row_more s = rows_more n.few r s (λ z byte hz q. q ∙ grades_kept rows_kept (omega arith) (omega arith) t z ht hz)

-- both are grades
module _ {first : List ℕ} {n₁ : ℕ} {second : List ℕ} {n₂ k count : ℕ} {scratch : List ℕ} (n : GradesNeeds first n₁ second n₂ k count scratch) {t z : ℕ} (ht : t < count) (hz : z < count) where
  pub both_small : {a b : ℕ} → a ≡ look (morphism_at first n₁ k) scratch search_end (left_at scratch t) (left_at scratch z)
      → b ≡ look (morphism_at second n₂ k) scratch second_base (right_at scratch t) (right_at scratch z) → (a ≤ 3) × (b ≤ 3)
  both_small e f = (rw e (n.first_small (left_at scratch t) (left_at scratch z) (n.lefts t ht) (n.lefts z hz)), rw f (n.second_small (right_at scratch t) (right_at scratch z) (n.rights t ht) (n.rights z hz)))
