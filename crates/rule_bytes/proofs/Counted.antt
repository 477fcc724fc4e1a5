-- A count before its entries. Assumes nothing.
use Prim.Native.Nat.{ℕ, ◌+◌}
use mathlib.Core.Path.{◌≡◌}
use mathlib.Core.List.{List, ◌∷◌}
use native.Mathlib.Omega.{arith}
use lib.ListN.{length, take, set, length-set}
use lib.Seq.{length-take-le}
use Rattle.rule_bytes.specs.Writing.{Written, CopyNeeds, CountedNeeds}
use Rattle.rule_bytes.proofs.Placed.{written_store, written_length, written_more}

module _ {entries : List ℕ} {count size : ℕ} {before : List ℕ} {at : ℕ} (p : CountedNeeds entries count size before at) where
  -- where the entries go after their count
  pub counted_place : CopyNeeds entries size (set before at count) (at + 1)
  counted_place = record { enough = p.enough; room = simp length-set (omega (arith, p.room)) }

  module _ {after : List ℕ} {end : ℕ} where
    -- the count and the entries in one row
    pub counted_written : Written (set before at count) (at + 1) (take size entries) after end → Written before at (count ∷ take size entries) after end
    counted_written w =
        written_more (written_store before at count (omega (arith, p.room))) w
        (omega (arith, p.room, length-take-le size entries p.enough))

    pub counted_length : Written before at (count ∷ take size entries) after end → length after ≡ length before
    counted_length w = written_length w (omega (arith, p.room, length-take-le size entries p.enough))

    pub counted_end : Written before at (count ∷ take size entries) after end → end ≡ at + (1 + size)
    counted_end w = omega (arith, w.ends, length-take-le size entries p.enough)
