-- Entries of at most 2 make a number below 81. Assumes nothing.
use native.Mathlib.Omega.{arith}
use borrow.Author.Rules.{rules}
use Rattle.automaton_products.specs.Arrays.{entry_in}
use Rattle.automaton_ready_products.specs.Ready.{matrix_number}
use Rattle.automaton_ready_products.proofs.Ready.{four_entries}
use Rattle.automaton_ready_products.proofs.matrix_number.Goals as goal

pub overflow_mul-result : goal.overflow_mul-result
overflow_mul-result c = let f = four_entries c.requires in record { fits = omega (arith, f.e00, f.e01, f.e10, f.e11) }

pub overflow_mul-result-2 : goal.overflow_mul-result-2
overflow_mul-result-2 c = let f = four_entries c.requires in record { fits = omega (arith, f.e00, f.e01, f.e10, f.e11) }

pub overflow_add-result : goal.overflow_add-result
overflow_add-result c = let f = four_entries c.requires in record { fits = omega (arith, f.e00, f.e01, f.e10, f.e11) }

pub overflow_mul-result-3 : goal.overflow_mul-result-3
overflow_mul-result-3 c = let f = four_entries c.requires in record { fits = omega (arith, f.e00, f.e01, f.e10, f.e11) }

pub overflow_add-result-2 : goal.overflow_add-result-2
overflow_add-result-2 c = let f = four_entries c.requires in record { fits = omega (arith, f.e00, f.e01, f.e10, f.e11) }

pub overflow_add-result-3 : goal.overflow_add-result-3
overflow_add-result-3 c = let f = four_entries c.requires in record { fits = omega (arith, f.e00, f.e01, f.e10, f.e11) }

pub overflow_cast-result : goal.overflow_cast-result
overflow_cast-result c = let f = four_entries c.requires in record { fits = omega (arith, f.e00, f.e01, f.e10, f.e11) }

pub returns : goal.returns
unfolding matrix_number entry_in
returns c = search rules
