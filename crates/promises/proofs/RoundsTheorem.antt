-- The theorem on reduction by rounds, from what holds of two partitions. Assumes nothing.
use Prim.Native.Nat.{ℕ, ◌≤◌}
use mathlib.Core.Path.{sym}
use mathlib.Core.Bool.{Bool}
use mathlib.Core.List.{List}
use Rattle.formats.specs.RuleFile.{elements_of}
use Rattle.promises.specs.declared.Partition.TheVariants.{Blocks}
use Rattle.promises.specs.Rounds.{RoundsPromise}
use Rattle.promises.specs.RoundsTheorem.{RoundsTheorem}
use Rattle.promises.proofs.OneRounds.{larger_rounds, larger_finished, larger_blocks, rounds_below, finished_within}
use Rattle.promises.proofs.RoundElements.{partition_good, finished_elements}

some_element : {bytes before after entry exit : List ℕ} {limit rounds : ℕ} {finished : Bool} → RoundsPromise bytes limit before after entry exit (Blocks rounds finished)
    → 1 ≤ elements_of bytes
some_element p = (partition_good p).table.some

pub rounds_theorem : RoundsTheorem
rounds_theorem = record {
  fewer = λ bytes limit before after entry exit rounds finished p. rounds_below (some_element p) p.answered;
  finishes = λ bytes limit before after entry exit rounds finished enough p. finished_within (some_element p) p.answered enough;
  larger = λ bytes limit limit' before after after' entry entry' exit exit' rounds rounds' finished' more p q. record {
    rounds_are = larger_rounds more p.answered q.answered;
    finished_too = sym (larger_finished more p.answered q.answered);
    blocks_are = larger_blocks more p.answered q.answered;
  };
  elements = λ bytes limit before after entry exit rounds p law. finished_elements p law;
}
