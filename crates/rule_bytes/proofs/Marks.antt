-- One pair, written with its grade where it is marked. Assumes nothing.
use Prim.Native.Nat.{ℕ, ◌+◌, ◌*◌, ◌≤◌, ◌<◌}
use mathlib.Core.List.{List}
use lib.ListN.{length, get_or, set}
use borrow.Author.Tests.{lt-ltb, le-ltb}
use Rattle.formats.specs.RuleFile.{mark_width}
use Rattle.rule_bytes.specs.Writing.{Written, table_marks, mark_if_any}
use Rattle.rule_bytes.proofs.Placed.{written_none, written_three}

-- one pair, where it is marked and where it is not
module _ (marks : List ℕ) (s e : ℕ) (d : List ℕ) (at : ℕ) where
  pub mark_in : 0 < get_or marks (s * 64 + e) 0 → at + mark_width ≤ length d
      → Written d at (mark_if_any (table_marks marks) s e) (set (set (set d at s) (at + 1) e) (at + 2) (get_or marks (s * 64 + e) 0)) (at + mark_width)
  unfolding mark_if_any table_marks
  mark_in h l = simp (lt-ltb _ _ h) (written_three d at s e (get_or marks (s * 64 + e) 0) l)

  pub mark_out : get_or marks (s * 64 + e) 0 ≤ 0 → Written d at (mark_if_any (table_marks marks) s e) d at
  unfolding mark_if_any table_marks
  mark_out h = simp (le-ltb _ _ h) (written_none d at)
