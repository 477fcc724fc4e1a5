-- The outcomes of all pairs of values while they are written: the idempotent power of a cycle's value, one look in the table of
-- marks, one outcome more, one column more. Where the table holds the closure of a marking, they are the grades.
-- Assumes nothing.
use Prim.Native.Nat.{ℕ, ◌+◌, ◌*◌, ◌≤◌, ◌<◌}
use mathlib.Core.Path.{◌≡◌, refl, sym, ap, ◌∙◌}
use mathlib.Core.Logic.{◌≢◌}
use mathlib.Core.List.{List}
use native.Mathlib.Omega.{arith}
use native.Mathlib.Decide.{ℕ_discrete}
use lib.ListN.{length, get_or, set}
use lib.Seq.{get_or-set_same, get_or-set_other}
use Rattle.theory.specs.Rules.{Morphism, Lawful, Marking}
use Rattle.theory.specs.Pairs.{LeastPower}
use Rattle.theory.proofs.IdempotentPowers.{least_power_is}
use Rattle.theory.proofs.Powers.{idempotent_inside}
use Rattle.theory.proofs.Conjugacy.{semigroup}
use Rattle.theory.proofs.Strength.{settled_start, settled_cycle}
use Rattle.theory.proofs.ClosureGrades.{closure_grade}
use Rattle.minimality.proofs.GradeOutcomes.{grading}
use Rattle.scratch.specs.Map.{blocks_base, outcomes_base, second_base, marks_from, MarkingAt}
use Rattle.reduce_first_round.specs.Map.{outcome_of, outcome_at}
use Rattle.scratch.specs.Bytes.{UnchangedOutside}
use Rattle.reduce_first_round.specs.Steps.{ColumnWritten, OutcomesWritten}
use Rattle.scratch.proofs.Unchanged.{unchanged_none, unchanged_both, unchanged_set}
use Rattle.formats.specs.RuleChecks.{scratch_size}

-- one look in a table of marks
pub look_mark : (scratch : List ℕ) (base f : ℕ) {s t : ℕ} → t ≡ s → get_or scratch (base + (t * 64 + f)) 0 ≡ marks_from scratch base s f
unfolding marks_from
look_mark scratch base f e = ap (λ (t : ℕ). get_or scratch (base + (t * 64 + f)) 0) e

-- the table of marks is as it was
pub marks_kept : {to : ℕ} {entry now : List ℕ} (s e : ℕ) → UnchangedOutside outcomes_base to entry now → s < 64 → e < 64 → marks_from now second_base s e ≡ marks_from entry second_base s e
unfolding marks_from
marks_kept s e k hs he = k.before (second_base + (s * 64 + e)) (omega arith)

-- outcomes stand below the blocks
pub outcome_below : {from to : ℕ} {entry now : List ℕ} (s z : ℕ) → s < 64 → z < 64 → blocks_base ≤ from → UnchangedOutside from to entry now
    → outcome_at now s z ≡ outcome_at entry s z
unfolding outcome_at
outcome_below s z hs hz h k = k.before (outcomes_base + (s * 64 + z)) (omega arith)

module _ {m : Morphism} (law : Lawful m) (small : m.size ≤ 64) where
  -- and so is what it says of an outcome
  pub outcome_kept : {to : ℕ} {entry now : List ℕ} (s z : ℕ) → UnchangedOutside outcomes_base to entry now → s < m.size → z < m.size
      → outcome_of m now s z ≡ outcome_of m entry s z
  unfolding outcome_of
  outcome_kept s z k hs hz =
      let f = idempotent_inside (semigroup law) hz in
      let g = law.closed s (settled_cycle m z) hs f in
      marks_kept (settled_start m s z) (settled_cycle m z) k (omega arith) (omega arith)

  -- no outcome is written
  pub column_none : (z : ℕ) (l : List ℕ) → ColumnWritten m z 0 l l
  column_none z l = record { column = λ s h. absurd (omega arith); others = λ s y h f. refl; kept = unchanged_none outcomes_base blocks_base l }

  -- one outcome more of a column
  pub column_more : {z s f exponent found : ℕ} {entry now : List ℕ} → z < m.size → s < m.size → scratch_size ≤ length entry → LeastPower m z f exponent
      → found ≡ marks_from now second_base (m.product s f) f → ColumnWritten m z s entry now
      → ColumnWritten m z (s + 1) entry (set now (outcomes_base + (s * 64 + z)) found)
  unfolding outcome_at outcome_of
  column_more {z} {s} {f} {found = found} {entry} {now} hz hs room power is_found w = record {
    column = λ r h. row r h (ℕ_discrete r s);
    others = λ r y h g.
        let d : y ≢ z = g in
        get_or-set_other now (outcomes_base + (s * 64 + z)) (outcomes_base + (r * 64 + y)) found 0 (λ e. omega arith) ∙ w.others r y h g;
    kept = unchanged_both w.kept (unchanged_set now (outcomes_base + (s * 64 + z)) found (omega arith) (omega arith));
  }
    where
      right : found ≡ outcome_of m entry s z
      right = is_found ∙ ap (λ (e : ℕ). marks_from now second_base (m.product s e) e) (least_power_is law hz power).is_power ∙ outcome_kept s z w.kept hs hz

      row : (r : ℕ) → r < s + 1 → Dec (r ≡ s) → outcome_at (set now (outcomes_base + (s * 64 + z)) found) r z ≡ outcome_of m entry r z
      row r h (yes e) =
          rw e (get_or-set_same now (outcomes_base + (s * 64 + z)) found 0 (omega (arith, w.kept.same_length)) ∙ right)
      row r h (no g) =
          let d : r ≢ s = g in
          get_or-set_other now (outcomes_base + (s * 64 + z)) (outcomes_base + (r * 64 + z)) found 0 (λ e. omega arith) ∙ w.column r (omega arith)

  -- a whole column
  pub column_all : {z s : ℕ} {entry now : List ℕ} → m.size ≤ s → ColumnWritten m z s entry now → ColumnWritten m z m.size entry now
  column_all h w = record { column = λ r l. w.column r (omega arith); others = w.others; kept = w.kept }

  -- no column is written
  pub outcomes_none : (l : List ℕ) → OutcomesWritten m 0 l l
  outcomes_none l = record { outcomes = λ s z hs h. absurd (omega arith); kept = unchanged_none outcomes_base blocks_base l }

  -- one column more
  pub outcomes_more : {z : ℕ} {entry now next : List ℕ} → z < m.size → OutcomesWritten m z entry now → ColumnWritten m z m.size now next
      → OutcomesWritten m (z + 1) entry next
  outcomes_more {z} {entry} {now} {next} hz w c = record {
    outcomes = λ s y hs h. cell s y hs h (ℕ_discrete y z);
    kept = unchanged_both w.kept c.kept;
  }
    where
      cell : (s y : ℕ) → s < m.size → y < z + 1 → Dec (y ≡ z) → outcome_at next s y ≡ outcome_of m entry s y
      cell s y hs h (yes e) = rw e (c.column s hs ∙ outcome_kept s z w.kept hs hz)
      cell s y hs h (no g) = let d : y ≢ z = g in c.others s y (omega arith) g ∙ w.outcomes s y hs (omega arith)

  -- all columns
  pub outcomes_all : {z : ℕ} {entry now : List ℕ} → m.size ≤ z → OutcomesWritten m z entry now → OutcomesWritten m m.size entry now
  outcomes_all h w = record { outcomes = λ s y hs l. w.outcomes s y hs (omega arith); kept = w.kept }

  -- where a table of marks holds the closure of a marking, its looks are the grades
  pub look_grading : (marks : Marking) (scratch : List ℕ) (base : ℕ) → MarkingAt m.size (closure_grade m marks) scratch base
      → (s z : ℕ) → s < m.size → z < m.size → marks_from scratch base (settled_start m s z) (settled_cycle m z) ≡ grading m marks s z
  unfolding grading
  look_grading marks scratch base closed s z hs hz =
      let f = idempotent_inside (semigroup law) hz in
      sym (closed.same (settled_start m s z) (settled_cycle m z) (law.closed s (settled_cycle m z) hs f) f)

  -- the outcomes are looks in the one at 4096
  pub outcome_grading : (marks : Marking) (scratch : List ℕ) → MarkingAt m.size (closure_grade m marks) scratch second_base
      → (s z : ℕ) → s < m.size → z < m.size → outcome_of m scratch s z ≡ grading m marks s z
  unfolding outcome_of
  outcome_grading marks scratch closed = look_grading marks scratch second_base closed
