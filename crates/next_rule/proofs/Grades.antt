-- The grades of the pairs of classes, by outcomes that laying them out leaves as they were. Assumes nothing.
use Prim.Native.Nat.{ℕ, ◌+◌, ◌*◌, ◌≤◌, ◌<◌}
use native.Mathlib.Omega.{arith}
use mathlib.Core.Path.{◌≡◌, refl, sym, ap, ap₂, ◌∙◌}
use mathlib.Core.Logic.{◌≢◌}
use mathlib.Core.List.{List}
use lib.ListN.{length, set}
use Rattle.theory.specs.Rules.{Value, none, element}
use Rattle.temporal.specs.Nexts.{tail_grade, next_outcome}
use Rattle.promises.specs.Monitor.{value_of}
use Rattle.scratch.specs.Bytes.{UnchangedOutside}
use Rattle.scratch.specs.Map.{outcomes_base, laid_marks_base, laid_end, next_tails_base, next_wholes_base}
use Rattle.scratch.specs.Rows.{RowFilled, RowsFilled}
use Rattle.scratch.proofs.Rows.{filled_more, rows_more}
use Rattle.scratch.proofs.Unchanged.{unchanged_wider}
use Rattle.reduce_first_round.specs.Map.{outcome_at}
use Rattle.next_list.specs.Pairs.{tail_at, whole_at}
use Rattle.next_list.proofs.Values.{value_none, value_other, value_is}
use Rattle.next_rule.specs.Writing.{PairsSmall, next_grade}

-- ---- the ways of the code

module _ (scratch : List ℕ) (s e : ℕ) where
  pub grade_none : {r : ℕ} → tail_at scratch s ≡ 64 → r ≡ outcome_at scratch (whole_at scratch e) (whole_at scratch e) → r ≡ next_grade scratch s e
  unfolding next_grade next_outcome tail_grade
  grade_none z q = q ∙ sym (ap (λ (v : Value). tail_grade (outcome_at scratch) v (whole_at scratch e)) (ap value_of z ∙ value_none))

  pub grade_some : {r : ℕ} → tail_at scratch s ≢ 64 → r ≡ outcome_at scratch (tail_at scratch s) (whole_at scratch e) → r ≡ next_grade scratch s e
  unfolding next_grade next_outcome tail_grade
  grade_some f q = q ∙ sym (ap (λ (v : Value). tail_grade (outcome_at scratch) v (whole_at scratch e)) (value_other f))

-- ---- marks behind the products change

-- grades that are the same at each pair of values come to the same
pub tail_same : (f g : ℕ → ℕ → ℕ) (v : Value) (z : ℕ) → ((q : ℕ) → v ≡ element q → f q z ≡ g q z) → f z z ≡ g z z → tail_grade f v z ≡ tail_grade g v z
unfolding tail_grade
tail_same f g none z some own = own
tail_same f g (element q) z some own = some q refl

module _ {entry now : List ℕ} (kept : UnchangedOutside laid_marks_base laid_end entry now) where
  outcome_kept : {s z : ℕ} → s ≤ 64 → z < 64 → outcome_at now s z ≡ outcome_at entry s z
  unfolding outcome_at
  outcome_kept {s} {z} h l = kept.before (outcomes_base + (s * 64 + z)) (omega arith)

  tail_kept : (j : ℕ) → tail_at now j ≡ tail_at entry j
  tail_kept j = kept.after (next_tails_base + j) (omega arith)

  whole_kept : (j : ℕ) → whole_at now j ≡ whole_at entry j
  whole_kept j = kept.after (next_wholes_base + j) (omega arith)

  pub small_kept : {count : ℕ} → PairsSmall count entry → PairsSmall count now
  small_kept p = record {
    few = p.few;
    tails = λ j h. rw (tail_kept j) (p.tails j h);
    wholes = λ j h. rw (whole_kept j) (p.wholes j h);
    room = rw kept.same_length p.room;
  }

  pub grade_kept : {count : ℕ} → PairsSmall count entry → (s e : ℕ) → s < count → e < count → next_grade now s e ≡ next_grade entry s e
  unfolding next_grade next_outcome value_of
  grade_kept p s e hs he =
      ap₂ (λ (t w : ℕ). tail_grade (outcome_at now) (value_of t) w) (tail_kept s) (whole_kept e)
      ∙ tail_same (outcome_at now) (outcome_at entry) (value_of (tail_at entry s)) (whole_at entry e) (λ q v. outcome_kept (inside q v) (p.wholes e he)) (outcome_kept (omega (arith, p.wholes e he)) (p.wholes e he))
    where
      inside : (q : ℕ) → value_of (tail_at entry s) ≡ element q → q ≤ 64
      inside q v = omega (arith, p.tails s hs, value_is (tail_at entry s) q v)

module _ {count s : ℕ} {entry : List ℕ} (p : PairsSmall count entry) (hs : s < count) where
  module _ {e : ℕ} {now : List ℕ} (r : RowFilled (λ e byte. byte ≡ next_grade entry s e) (laid_marks_base + s * 64) e entry now) (he : e < count) where
    row_kept : UnchangedOutside laid_marks_base laid_end entry now
    row_kept = unchanged_wider (omega arith) (omega (arith, p.few)) r.kept

    pub row_small : PairsSmall count now
    row_small = small_kept row_kept p

    pub grade_room : laid_marks_base + (s * 64 + e) < length now
    grade_room = omega (arith, p.few, row_small.room)

    pub grade_more : {byte : ℕ} → byte ≡ next_grade now s e → RowFilled (λ e byte. byte ≡ next_grade entry s e) (laid_marks_base + s * 64) (e + 1) entry (set now (laid_marks_base + (s * 64 + e)) byte)
    grade_more q = filled_more (omega arith) (omega (arith, grade_room)) r (q ∙ grade_kept row_kept p s e hs he)

  module _ {now : List ℕ} (r : RowsFilled (λ s e byte. byte ≡ next_grade entry s e) laid_marks_base 64 count s entry now) where
    rows_kept : UnchangedOutside laid_marks_base laid_end entry now
    rows_kept = unchanged_wider (omega arith) (omega (arith, p.few)) r.kept

    pub rows_small : PairsSmall count now
    rows_small = small_kept rows_kept p

    pub row_more : {next : List ℕ} → RowFilled (λ e byte. byte ≡ next_grade now s e) (laid_marks_base + s * 64) count now next
        → RowsFilled (λ s e byte. byte ≡ next_grade entry s e) laid_marks_base 64 count (s + 1) entry next
    row_more t = rows_more p.few r t (λ e byte he q. q ∙ grade_kept rows_kept p s e hs he)
