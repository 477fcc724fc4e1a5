-- `reduce_table::lay_images` meets its contract: the letters that were passed have their blocks. Assumes nothing.
use mathlib.Core.Path.{◌∙◌, ap}
use native.Mathlib.Omega.{arith}
use Rattle.reduce_numbering.specs.Steps.{number_at}
use Rattle.reduce_table.specs.Layout.{block_image}
use Rattle.scratch.proofs.Rows.{filled_none, filled_more, filled_all}
use Rattle.reduce_table.proofs.Blocks.{image_kept}
use Rattle.reduce_table.proofs.lay_images.Goals as goal

pub loop-a-init : goal.loop-a-init
loop-a-init c = (filled_none _ _, omega arith)

pub overflow_add-number : goal.overflow_add-number
overflow_add-number c =
    omega (arith, c.image-s.ensures, c.requires.table.small, c.requires.table.images _ c.loop-a-test.true)

pub bounds-scratch-s : goal.bounds-scratch-s
bounds-scratch-s c =
    omega
    (arith, c.image-s.ensures, c.requires.table.small, c.requires.table.images _ c.loop-a-test.true, c.requires.scratch_size_in_bounds, c.loop-a.invariant.0.kept.same_length)

pub overflow_add-scratch : goal.overflow_add-scratch
overflow_add-scratch c =
    omega (arith, c.requires.table.letters_small)

pub bounds-scratch-a : goal.bounds-scratch-a
bounds-scratch-a c =
    omega (arith, c.requires.table.letters_small, c.requires.scratch_size_in_bounds, c.loop-a.invariant.0.kept.same_length)

pub overflow_step-a : goal.overflow_step-a
overflow_step-a c =
    omega (arith, c.requires.table.letters_small)

pub loop-a-preserved : goal.loop-a-preserved
unfolding block_image
loop-a-preserved c = (
  filled_more (omega arith) (omega (arith, c.requires.table.letters_small, c.requires.scratch_size_in_bounds, c.loop-a.invariant.0.kept.same_length)) c.loop-a.invariant.0
      (ap (number_at c.loop-a.scratch) c.image-s.ensures ∙ image_kept c.loop-a.invariant.0.kept (omega arith) c.requires.table _ c.loop-a-test.true),
  omega arith,
)

pub shape_of-scratch : goal.shape_of-scratch
shape_of-scratch c = c.loop-a.invariant.0.kept.same_length

pub returns : goal.returns
returns c = filled_all c.loop-a.invariant.1 c.loop-a-test.false c.loop-a.invariant.0
