-- What a round looked at and a round taken leave, by the definition of the rounds (theory/specs/Rounds). Assumes nothing.
use Rattle.std.specs.Prelude.{ℕ, suc, ◌+◌, ◌<◌, ◌≡◌, Bool, List, get_or}
use Rattle.finite.specs.Tells.{Tells}
use Rattle.theory.specs.Rules.{Morphism}
use Rattle.theory.specs.Rounds.{Together}
use Rattle.reduce_first_round.specs.Map.{BlocksAt}
use Rattle.scratch.specs.Bytes.{UnchangedOutside}
use Rattle.scratch.specs.Map.{blocks_base, next_blocks_base, numbers_base}

-- one of the first n elements has another block after the round that was looked at
pub record BlockChanges (n : ℕ) (scratch : List ℕ) : Type 0 where
  pub at : ℕ
  pub below : at < n
  pub differs : get_or scratch (next_blocks_base + at) 0 ≡ get_or scratch (blocks_base + at) 0 → ⊥

-- a round looked at: its blocks stand beside those that it is worked out from, and the answer tells whether one differs
pub record RoundSeen (m : Morphism) (entry exit : List ℕ) (answer : Bool) : Type 0 where
  pub next : (acc : ℕ → ℕ → ℕ) (i : ℕ) → BlocksAt m.size (Together m acc i) entry blocks_base → BlocksAt m.size (Together m acc (suc i)) exit next_blocks_base
  pub changes : Tells (BlockChanges m.size exit) answer
  pub kept : UnchangedOutside next_blocks_base numbers_base entry exit

-- a round taken: the blocks of the first n elements are those that were worked out
pub record TakenOver (n : ℕ) (entry exit : List ℕ) : Type 0 where
  pub blocks : (s : ℕ) → s < n → get_or exit (blocks_base + s) 0 ≡ get_or entry (next_blocks_base + s) 0
  pub kept : UnchangedOutside blocks_base next_blocks_base entry exit
