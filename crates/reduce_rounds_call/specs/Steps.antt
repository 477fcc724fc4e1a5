-- What the rounds and the copy of their blocks leave. Assumes nothing.
use Rattle.std.specs.Prelude.{ℕ, List, take, drop}
use Rattle.theory.specs.Rules.{Morphism}
use Rattle.scratch.specs.Map.{blocks_base}
use Rattle.formats.specs.Front.{AtFront}
use Rattle.reduce_rounds.specs.declared.Refined.{Refined}
use Rattle.reduce_rounds.specs.Rounds.{RoundsRefined}

-- the rounds were run, and the bytes of their blocks stand at the front of the lent ones
pub record BlocksGiven (m : Morphism) (limit : ℕ) (entry exit before after : List ℕ) (r : Refined) : Type 0 where
  pub refined : RoundsRefined m limit entry exit r
  pub given : AtFront (take m.size (drop blocks_base exit)) before after m.size
