-- Stretches of marks: one stretch after another, one mark alone, and all marks as the marks' section of a file has them.
-- What was written of the first stretch and then of the next is written of both. Assumes nothing.
use Prim.Native.Nat.{ℕ, ◌+◌, ◌*◌, ◌≤◌, ◌<◌}
use mathlib.Core.Path.{◌≡◌, refl, ap, ap₂, ◌∙◌}
use mathlib.Core.Bool.{Bool, true, false, cond}
use mathlib.Core.List.{List, [], ◌∷◌, ◌++◌}
use native.Mathlib.Omega.{arith}
use lib.Dec.{ltb}
use lib.ListN.{length}
use lib.Arith.{digits_div, digits_mod}
use Rattle.finite.specs.Select.{select_from}
use Rattle.theory.specs.Rules.{Marking}
use Rattle.formats.specs.RuleFile.{mark_width}
use Rattle.formats.specs.WrittenFile.{is_marked, mark_bytes}
use Rattle.rule_bytes.specs.Writing.{Written, mark_if_any}
use Rattle.formats.proofs.Rows.{sized, marks_from}
use Rattle.formats.proofs.Listed.{select_listed, select_more}
use Rattle.formats.proofs.MarkBytes.{marks_length, marks_append}
use Rattle.rule_bytes.proofs.Placed.{written_none, written_more, written_length}

module _ (n : ℕ) (marks : Marking) where
  -- no pairs
  pub stretch_none : (from : ℕ) → marks_from n marks from 0 ≡ []
  unfolding marks_from select_from mark_bytes
  stretch_none from = refl

  -- one stretch after another
  pub stretch_more : (from j k : ℕ) → marks_from n marks from (j + k) ≡ marks_from n marks from j ++ marks_from n marks (from + j) k
  unfolding marks_from
  stretch_more from j k = ap (mark_bytes (sized n) marks) (select_more (is_marked (sized n) marks) from j k) ∙ marks_append (sized n) marks _ _

  -- the bytes of a mark at most for each pair
  pub stretch_short : (from count : ℕ) → length (marks_from n marks from count) ≤ mark_width * count
  unfolding marks_from
  stretch_short from count =
      omega (arith, marks_length (sized n) marks (select_from count from (is_marked (sized n) marks) (λ i. i)), (select_listed (is_marked (sized n) marks) from count).short)

  -- one pair
  pub stretch_one : (s e : ℕ) → e < n → marks_from n marks (s * n + e) 1 ≡ mark_if_any marks s e
  unfolding marks_from select_from mark_bytes is_marked mark_if_any
  stretch_one s e h = rw (digits_div s h, digits_mod s h) (go (ltb 0 (marks s e)))
    where
      go : (b : Bool) → mark_bytes (sized n) marks (cond b ((s * n + e) ∷ []) []) ≡ cond b (s ∷ e ∷ marks s e ∷ []) []
      go true = ap₂ (λ (x y : ℕ). x ∷ y ∷ marks x y ∷ []) (digits_div s h) (digits_mod s h)
      go false = refl

module _ (n : ℕ) (marks : Marking) (from : ℕ) {d : List ℕ} {at : ℕ} where
  -- before the first pair nothing is written
  pub rows_start : Written d at (marks_from n marks from 0) d at
  rows_start = rw (stretch_none n marks from) (written_none d at)

  module _ {e : List ℕ} {next : ℕ} (j : ℕ) (w : Written d at (marks_from n marks from j) e next) where
    -- where the next pair is written
    pub rows_next : next ≤ at + mark_width * j
    rows_next = omega (arith, w.ends, stretch_short n marks from j)

    -- the buffer keeps its length
    pub rows_length : at + mark_width * j ≤ length d → length e ≡ length d
    rows_length h = written_length w (omega (arith, stretch_short n marks from j))

    -- the next stretch is written after what is there
    pub rows_more : (k : ℕ) {f : List ℕ} {end : ℕ} → Written e next (marks_from n marks (from + j) k) f end → at + mark_width * (j + k) ≤ length d
        → Written d at (marks_from n marks from (j + k)) f end
    rows_more k v h =
        rw (stretch_more n marks from j k) (written_more w v (omega (arith, stretch_short n marks from j, stretch_short n marks (from + j) k)))

    -- room for the stretch that comes next
    pub rows_room : (k : ℕ) → at + mark_width * (j + k) ≤ length d → next + mark_width * k ≤ length e
    rows_room k h = omega (arith, rows_next, rows_length (omega arith))
