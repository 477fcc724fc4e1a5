-- `pair_table::place_of` meets its contract: the pair has a number. Assumes nothing.
use native.Mathlib.Omega.{arith}
use Rattle.pair_list.specs.Pairs.{number_at}
use Rattle.pair_table.proofs.place_of.Goals as goal

pub overflow_sub-result : goal.overflow_sub-result
unfolding number_at
overflow_sub-result c = c.requires.some

pub returns : goal.returns
unfolding number_at
returns c = omega (arith, c.requires.some)
