-- `automaton_file::triple_index` meets its contract: the three bytes stand within the file, and their index is below 576. Assumes nothing.
use native.Mathlib.Omega.{arith}
use mir.Facts.{Fits-8_64}
use Rattle.automaton_file.proofs.Places.{place_inside, index_is, index_small}
use Rattle.automaton_file.proofs.triple_index.Goals as goal

pub overflow_mul-place : goal.overflow_mul-place
overflow_mul-place c = omega (arith, place_inside c.requires.transitions_needs _ c.requires.i_lt_count)

pub overflow_add-place : goal.overflow_add-place
overflow_add-place c = omega (arith, place_inside c.requires.transitions_needs _ c.requires.i_lt_count)

pub overflow_add-place-2 : goal.overflow_add-place-2
overflow_add-place-2 c = omega (arith, place_inside c.requires.transitions_needs _ c.requires.i_lt_count)

pub bounds-bytes-place : goal.bounds-bytes-place
bounds-bytes-place c = omega (arith, place_inside c.requires.transitions_needs _ c.requires.i_lt_count)

pub overflow_cast-p : goal.overflow_cast-p
overflow_cast-p c = Fits-8_64 (c.type_inv.bytes _)

pub overflow_add-a : goal.overflow_add-a
overflow_add-a c = omega (arith, place_inside c.requires.transitions_needs _ c.requires.i_lt_count)

pub bounds-bytes-place-2 : goal.bounds-bytes-place-2
bounds-bytes-place-2 c = omega (arith, place_inside c.requires.transitions_needs _ c.requires.i_lt_count)

pub overflow_cast-a : goal.overflow_cast-a
overflow_cast-a c = Fits-8_64 (c.type_inv.bytes _)

pub overflow_add-q : goal.overflow_add-q
overflow_add-q c = omega (arith, place_inside c.requires.transitions_needs _ c.requires.i_lt_count)

pub bounds-bytes-place-3 : goal.bounds-bytes-place-3
bounds-bytes-place-3 c = place_inside c.requires.transitions_needs _ c.requires.i_lt_count

pub overflow_cast-q : goal.overflow_cast-q
overflow_cast-q c = Fits-8_64 (c.type_inv.bytes _)

pub overflow_mul-result : goal.overflow_mul-result
overflow_mul-result c = omega (arith, index_small c.requires.transitions_needs _ c.requires.i_lt_count)

pub overflow_mul-result-2 : goal.overflow_mul-result-2
overflow_mul-result-2 c = omega (arith, index_small c.requires.transitions_needs _ c.requires.i_lt_count)

pub overflow_add-result : goal.overflow_add-result
overflow_add-result c = omega (arith, index_small c.requires.transitions_needs _ c.requires.i_lt_count)

pub overflow_add-result-2 : goal.overflow_add-result-2
overflow_add-result-2 c = omega (arith, index_small c.requires.transitions_needs _ c.requires.i_lt_count)

pub returns : goal.returns
returns c = index_is c.requires.transitions_needs _ c.requires.i_lt_count
