-- `rule_bytes::copy` meets its contract: the bytes are copied as a whole. Assumes nothing.
use native.Mathlib.Omega.{arith}
use Rattle.std.proofs.lemmas.Grind.{common_steps}
use Rattle.std.proofs.lemmas.List.{places}
use Rattle.rule_bytes.specs.Writing.{placed}
use Rattle.rule_bytes.proofs.copy.Goals as goal

pub returns : goal.returns
unfolding placed
returns c = record {
  holds = grind (arith, places, common_steps);
  ends = grind (arith, places, common_steps);
}
