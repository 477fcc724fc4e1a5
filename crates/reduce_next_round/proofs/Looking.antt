-- A round that is looked at meets the definition of the rounds. Assumes nothing.
use Prim.Native.Nat.{ℕ, ◌≤◌, ◌<◌}
use mathlib.Core.Bool.{Bool}
use mathlib.Core.List.{List}
use native.Mathlib.Omega.{arith}
use Rattle.finite.specs.Tells.{Tells}
use Rattle.theory.specs.Rules.{Morphism}
use Rattle.theory.specs.Rounds.{StillTogether}
use Rattle.minimality.proofs.Rounds.{together_sym, together_trans, together_next, still_carry}
use Rattle.reduce_first_round.specs.Map.{InOneBlock, BlocksAt}
use Rattle.reduce_first_round.specs.Steps.{BlocksWritten}
use Rattle.scratch.specs.Map.{blocks_base, next_blocks_base}
use Rattle.reduce_next_round.specs.Round.{BlockChanges, RoundSeen}
use Rattle.scratch.proofs.Unchanged.{unchanged_wider}
use Rattle.reduce_first_round.proofs.BlockBytes.{blocks_carry, bytes_related, related_bytes}

module _ {m : Morphism} (closed : (a b : ℕ) → a < m.size → b < m.size → m.product a b < m.size)
    (images : (a : ℕ) → a < m.letters → m.image a < m.size) where
  -- from the blocks of an equivalence to those of what a round keeps together
  pub still_blocks : {R : ℕ → ℕ → Type 0} {entry exit : List ℕ} → ((s t : ℕ) → R s t → R t s) → ((s t u : ℕ) → R s t → R t u → R s u)
      → BlocksAt m.size R entry blocks_base → BlocksAt m.size (StillTogether m (InOneBlock entry)) exit next_blocks_base
      → BlocksAt m.size (StillTogether m R) exit next_blocks_base
  unfolding InOneBlock
  still_blocks {R} {entry} symmetric transitive b next =
      blocks_carry (λ t s ht hs. (
        still_carry closed images (bytes_related b symmetric transitive) t s ht hs,
        still_carry closed images (related_bytes b symmetric transitive) t s ht hs,
      )) next

  -- a round looked at
  pub round_seen : {entry exit : List ℕ} {answer : Bool} → m.size ≤ 64 → BlocksWritten m.size (StillTogether m (InOneBlock entry)) next_blocks_base entry exit
      → Tells (BlockChanges m.size exit) answer → RoundSeen m entry exit answer
  round_seen small w told = record {
    next = λ acc i b. blocks_carry (λ t s ht hs. together_next m acc i) (still_blocks (together_sym m acc i) (together_trans m acc i) b w.blocks);
    changes = told;
    kept = unchanged_wider (omega arith) (omega arith) w.kept;
  }
