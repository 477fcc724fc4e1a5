-- `file_part_call::end_of` meets its contract: each count is a byte or two, and stands where those before it end. Assumes nothing.
use native.Mathlib.Omega.{arith}
use Rattle.file_part_call.proofs.Ends.{square_small, end_is}
use Rattle.file_part_call.proofs.end_of.Goals as goal

pub overflow_mul-letters_at : goal.overflow_mul-letters_at
overflow_mul-letters_at c = omega (arith, square_small c.number_at-n.ensures.small)

pub overflow_add-letters_at : goal.overflow_add-letters_at
overflow_add-letters_at c = omega (arith, square_small c.number_at-n.ensures.small)

pub overflow_add-marks_at : goal.overflow_add-marks_at
overflow_add-marks_at c = omega (arith, c.number_at-k.ensures.small)

pub overflow_add-marks_at-2 : goal.overflow_add-marks_at-2
overflow_add-marks_at-2 c = omega (arith, square_small c.number_at-n.ensures.small, c.number_at-k.ensures.small)

pub overflow_add-marks_at-3 : goal.overflow_add-marks_at-3
overflow_add-marks_at-3 c = omega (arith, square_small c.number_at-n.ensures.small, c.number_at-k.ensures.small)

pub overflow_mul-count : goal.overflow_mul-count
overflow_mul-count c = omega (arith, c.number_at-top.ensures.small)

pub overflow_add-count : goal.overflow_add-count
overflow_add-count c = omega (arith, c.number_at-low.ensures.small, c.number_at-top.ensures.small)

pub overflow_mul-result : goal.overflow_mul-result
overflow_mul-result c = omega (arith, c.number_at-low.ensures.small, c.number_at-top.ensures.small)

pub overflow_add-result : goal.overflow_add-result
overflow_add-result c = omega (arith, c.number_at-low.ensures.small, c.number_at-top.ensures.small)

pub overflow_add-result-2 : goal.overflow_add-result-2
overflow_add-result-2 c =
    omega (arith, square_small c.number_at-n.ensures.small, c.number_at-k.ensures.small, c.number_at-low.ensures.small, c.number_at-top.ensures.small)

pub returns : goal.returns
returns c =
    end_is _ c.number_at-n.ensures.is c.number_at-k.ensures.is c.number_at-low.ensures.is c.number_at-top.ensures.is
