-- One block more, worked out from bytes that the blocks written before left as they were. Assumes nothing.
use Prim.Native.Nat.{ℕ, ◌+◌, ◌≤◌, ◌<◌}
use mathlib.Core.Path.{◌≡◌, sym, ◌∙◌}
use mathlib.Core.List.{List}
use native.Mathlib.Omega.{arith}
use lib.ListN.{length, get_or, set}
use Rattle.scratch.specs.Map.{blocks_base, next_blocks_base}
use Rattle.theory.specs.Rules.{Morphism}
use Rattle.theory.specs.Rounds.{SameOutcomes, StillTogether, Together}
use Rattle.minimality.proofs.Rounds.{same_outcomes_carry, still_carry}
use Rattle.reduce_first_round.specs.Map.{outcome_at, InOneBlock}
use Rattle.reduce_first_round.specs.Steps.{LeastRelated, BlocksWritten}
use Rattle.reduce_first_round.proofs.OutcomeBytes.{outcome_below}
use Rattle.reduce_first_round.proofs.BlockBytes.{least_carry, written_more}
use Rattle.formats.specs.RuleChecks.{scratch_size}

module _ {m : Morphism} (small : m.size ≤ 64) {entry now : List ℕ} (room : scratch_size ≤ length entry) {s r : ℕ} (hs : s < m.size) where
  -- of round 0
  pub first_more : BlocksWritten s (Together m (outcome_at entry) 0) blocks_base entry now → LeastRelated (SameOutcomes m (outcome_at now)) s r
      → BlocksWritten (s + 1) (Together m (outcome_at entry) 0) blocks_base entry (set now (blocks_base + s) r)
  unfolding Together
  first_more w l = written_more (omega arith) (omega arith) w (least_carry (λ t h. same_outcomes_carry agree t s (omega arith) hs) l)
    where
      agree : (u z : ℕ) → u < m.size → z < m.size → outcome_at now u z ≡ outcome_at entry u z
      agree u z hu hz = outcome_below u z (omega arith) (omega arith) (omega arith) w.kept

  module _ (closed : (a b : ℕ) → a < m.size → b < m.size → m.product a b < m.size)
      (images : (a : ℕ) → a < m.letters → m.image a < m.size) where
    -- of a further round
    pub next_more : BlocksWritten s (StillTogether m (InOneBlock entry)) next_blocks_base entry now → LeastRelated (StillTogether m (InOneBlock now)) s r
        → BlocksWritten (s + 1) (StillTogether m (InOneBlock entry)) next_blocks_base entry (set now (next_blocks_base + s) r)
    unfolding InOneBlock
    next_more w l =
        written_more (omega arith) (omega arith) w
        (least_carry (λ t h. (still_carry closed images back t s (omega arith) hs, still_carry closed images forth t s (omega arith) hs)) l)
      where
        block : (u : ℕ) → u < m.size → get_or now (blocks_base + u) 0 ≡ get_or entry (blocks_base + u) 0
        block u h = w.kept.before (blocks_base + u) (omega arith)

        back : (t u : ℕ) → t < m.size → u < m.size → InOneBlock now t u → InOneBlock entry t u
        back t u ht hu e = sym (block t ht) ∙ e ∙ block u hu

        forth : (t u : ℕ) → t < m.size → u < m.size → InOneBlock entry t u → InOneBlock now t u
        forth t u ht hu e = block t ht ∙ e ∙ sym (block u hu)
