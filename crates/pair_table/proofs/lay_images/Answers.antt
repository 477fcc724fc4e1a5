-- `pair_table::lay_images` meets its contract: the letters that were passed have their pairs. Assumes nothing.
use mathlib.Core.Path.{◌∙◌}
use native.Mathlib.Omega.{arith}
use Rattle.rule_table.proofs.Facts.{image_place}
use Rattle.scratch.proofs.Rows.{filled_none, filled_more, filled_all}
use Rattle.pair_table.proofs.Kept.{image_kept, pairs_kept, image_number, image_numbered}
use Rattle.pair_table.proofs.lay_images.Goals as goal

pub loop-x-init : goal.loop-x-init
loop-x-init c = (filled_none _ _, omega arith)

pub image-s-requires : goal.image-s-requires
image-s-requires c = image_place c.requires.two_tables.first_is_table c.loop-x-test.true

pub image-t-requires : goal.image-t-requires
image-t-requires c =
    image_place c.requires.two_tables.second_is_table c.loop-x-test.true

pub place_of-place-requires : goal.place_of-place-requires
place_of-place-requires c =
    image_numbered c.requires.two_tables (pairs_kept c.loop-x.invariant.0.kept (omega arith) c.requires.two_tables c.requires.pairs_needs) _ c.loop-x-test.true
    c.image-s.ensures c.image-t.ensures

pub overflow_add-scratch : goal.overflow_add-scratch
overflow_add-scratch c =
    omega (arith, c.requires.two_tables.first_is_table.letters_small)

pub bounds-scratch-x : goal.bounds-scratch-x
bounds-scratch-x c =
    omega (arith, c.requires.two_tables.first_is_table.letters_small, c.requires.pairs_needs.halves.room, c.loop-x.invariant.0.kept.same_length)

pub overflow_step-x : goal.overflow_step-x
overflow_step-x c =
    omega (arith, c.requires.two_tables.first_is_table.letters_small)

pub loop-x-preserved : goal.loop-x-preserved
loop-x-preserved c =
    let kept = c.loop-x.invariant.0.kept in (
      filled_more (omega arith) (omega (arith, c.requires.two_tables.first_is_table.letters_small, c.requires.pairs_needs.halves.room, kept.same_length)) c.loop-x.invariant.0
          (c.place_of-place.ensures
          ∙ image_number c.requires.two_tables (pairs_kept kept (omega arith) c.requires.two_tables c.requires.pairs_needs) _ c.loop-x-test.true c.image-s.ensures c.image-t.ensures
          ∙ image_kept kept (omega arith) c.requires.two_tables _ c.loop-x-test.true),
      omega arith,
    )

pub shape_of-scratch : goal.shape_of-scratch
shape_of-scratch c = c.loop-x.invariant.0.kept.same_length

pub returns : goal.returns
returns c = filled_all c.loop-x.invariant.1 c.loop-x-test.false c.loop-x.invariant.0
