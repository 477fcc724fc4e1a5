-- The theorem on reduction by rounds. Document 02, Job 9: "Finishing takes at most n − 1 rounds. A larger limit never alters a finished result, whose blocks
-- are the elements of the smallest rule." Assumes nothing.
use Rattle.std.specs.Prelude.{ℕ, ◌+◌, ◌≤◌, ◌<◌, ◌≡◌, Bool, true, List, get_or}
use Rattle.theory.specs.Rules.{Lawful}
use Rattle.theory.specs.Rounds.{ElementsOfReductions}
use Rattle.formats.specs.RuleFile.{elements_of, morphism_of}
use Rattle.promises.specs.declared.Partition.TheVariants.{Blocks}
use Rattle.promises.specs.Reduce.{rule_of}
use Rattle.promises.specs.Rounds.{RoundsPromise}

-- the same rounds, finished, and the same bytes of blocks
pub record SameRounds (rounds rounds' : ℕ) (finished' : Bool) (after after' : List ℕ) : Type 0 where
  pub rounds_are : rounds ≡ rounds'
  pub finished_too : finished' ≡ true
  pub blocks_are : after ≡ after'

pub record RoundsTheorem : Type 0 where
  -- fewer rounds than elements are done
  pub fewer : (bytes : List ℕ) (limit : ℕ) (before after entry exit : List ℕ) (rounds : ℕ) (finished : Bool)
      → RoundsPromise bytes limit before after entry exit (Blocks rounds finished) → rounds < elements_of bytes
  -- a limit of n − 1 or more finishes
  pub finishes : (bytes : List ℕ) (limit : ℕ) (before after entry exit : List ℕ) (rounds : ℕ) (finished : Bool) → elements_of bytes ≤ limit + 1
      → RoundsPromise bytes limit before after entry exit (Blocks rounds finished) → finished ≡ true
  pub larger : (bytes : List ℕ) (limit limit' : ℕ) (before after after' entry entry' exit exit' : List ℕ) (rounds rounds' : ℕ) (finished' : Bool) → limit ≤ limit'
      → RoundsPromise bytes limit before after entry exit (Blocks rounds true) → RoundsPromise bytes limit' before after' entry' exit' (Blocks rounds' finished')
      → SameRounds rounds rounds' finished' after after'
  pub elements : (bytes : List ℕ) (limit : ℕ) (before after entry exit : List ℕ) (rounds : ℕ) → RoundsPromise bytes limit before after entry exit (Blocks rounds true)
      → (law : Lawful (morphism_of bytes)) → ElementsOfReductions (rule_of bytes law) (λ s t. get_or after s 0 ≡ get_or after t 0)
