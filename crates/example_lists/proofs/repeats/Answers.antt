-- `example_lists::repeats` meets its contract: it is the count before the star, and 1 where that is 0. Assumes nothing.
use native.Mathlib.Omega.{arith}
use Rattle.example_parts.proofs.Digits.{part_number}
use Rattle.example_lists.proofs.repeats.Goals as goal

pub returns : goal.returns
returns c = omega (arith, part_number c.part.ensures c.decimal.ensures)
