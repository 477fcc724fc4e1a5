-- The byte at the place of two numbers is the number of the product. Assumes nothing.
use native.Mathlib.Omega.{arith}
use Rattle.automaton_ready_products.proofs.Ready.{shape_below, ready_is_product}
use Rattle.automaton_ready_products.proofs.ready_product.Goals as goal

-- whichever number has the greater weight, the place is below 81 * 81
pub overflow_mul-x : goal.overflow_mul-x
overflow_mul-x c =
    record { fits = omega (arith, c.matrix_number-a.ensures, c.matrix_number-b.ensures, shape_below c.requires.matrix_shape.0, shape_below c.requires.matrix_shape.1) }

pub overflow_add-x : goal.overflow_add-x
overflow_add-x c =
    record { fits = omega (arith, c.matrix_number-a.ensures, c.matrix_number-b.ensures, shape_below c.requires.matrix_shape.0, shape_below c.requires.matrix_shape.1) }

pub bounds-table-a : goal.bounds-table-a
bounds-table-a c =
    omega
    (arith, c.matrix_number-a.ensures, c.matrix_number-b.ensures, shape_below c.requires.matrix_shape.0, shape_below c.requires.matrix_shape.1, c.requires.ready_table.entries)

pub returns : goal.returns
returns c =
    ready_is_product c.requires.matrix_shape.0 c.requires.matrix_shape.1 c.requires.ready_table c.matrix_number-a.ensures
    c.matrix_number-b.ensures c.numbered_matrix.ensures
