-- The six bytes are written as a whole. Assumes nothing.
use native.Mathlib.Omega.{arith}
use Rattle.std.proofs.lemmas.Grind.{common_steps}
use Rattle.std.proofs.lemmas.List.{places}
use Rattle.automaton_matrices.specs.Bytes.{bytes_from}
use Rattle.automaton_matrices.proofs.store_row.Goals as goal

pub returns : goal.returns
unfolding bytes_from
returns c = record {
  same_length = grind (arith, places, common_steps);
  entries = λ q h. grind (arith, places, common_steps);
  before = λ j h. grind (arith, places, common_steps);
  behind = λ j h. grind (arith, places, common_steps);
}
