-- What all rounds leave, by the definition of the rounds (theory/specs/Rounds). Assumes nothing.
use Rattle.std.specs.Prelude.{ℕ, ◌≤◌, ◌<◌, ◌≡◌, false, List}
use Rattle.finite.specs.Tells.{Tells}
use Rattle.theory.specs.Rules.{Morphism}
use Rattle.theory.specs.Rounds.{Together, Stable}
use Rattle.reduce_first_round.specs.Map.{outcome_of, outcome_at, BlocksAt}
use Rattle.scratch.specs.Bytes.{UnchangedOutside}
use Rattle.scratch.specs.Map.{blocks_base, numbers_base, outcomes_base}
use Rattle.reduce_rounds.specs.declared.Refined.{Refined}

-- rounds within a limit: the blocks are those of the round that was reached, no round before it was stable, and it is so exactly if they
-- are finished; the outcomes stand there
pub record RoundsRefined (m : Morphism) (limit : ℕ) (entry exit : List ℕ) (r : Refined) : Type 0 where
  pub bound : r.rounds < m.size
  pub within : r.rounds ≤ limit
  pub blocks : BlocksAt m.size (Together m (outcome_of m entry) r.rounds) exit blocks_base
  pub first : (j : ℕ) → j < r.rounds → Stable m (outcome_of m entry) j → ⊥
  pub stable : Tells (Stable m (outcome_of m entry) r.rounds) r.finished
  pub unfinished : r.finished ≡ false → r.rounds ≡ limit
  pub outcomes : (s z : ℕ) → s < m.size → z < m.size → outcome_at exit s z ≡ outcome_of m entry s z
  pub kept : UnchangedOutside outcomes_base numbers_base entry exit
