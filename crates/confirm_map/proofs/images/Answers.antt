-- `confirm_map::images` meets its contract: the letters that were passed are carried over. Assumes nothing.
use native.Mathlib.Omega.{arith}
use Rattle.rule_table.proofs.Facts.{image_place}
use Rattle.finite.proofs.Each.{each_none, each_more, each_all, each_not}
use Rattle.confirm_map.proofs.Mapping.{image_carried, image_differs}
use Rattle.confirm_map.proofs.images.Goals as goal

pub loop-x-init : goal.loop-x-init
loop-x-init c = each_none

pub image-there-requires : goal.image-there-requires
image-there-requires c = image_place c.requires.second_is_table (omega arith)

pub image-here-requires : goal.image-here-requires
image-here-requires c =
    image_place c.requires.first_is_table (omega arith)

pub mapped-requires : goal.mapped-requires
mapped-requires c =
    omega (arith, c.requires.bytes, c.image-here.ensures, c.requires.first_is_table.images c.loop-x.x (omega arith))

pub returns-then-mapped-there : goal.returns-then-mapped-there
returns-then-mapped-there c =
    each_not (omega arith)
    (image_differs c.image-there.ensures c.image-here.ensures c.mapped.ensures c.if-mapped-there.true)

pub loop-x-preserved : goal.loop-x-preserved
loop-x-preserved c =
    each_more c.loop-x.invariant
    (image_carried c.image-there.ensures c.image-here.ensures c.mapped.ensures c.if-mapped-there.false)

pub returns : goal.returns
returns c = each_all c.loop-x.invariant c.loop-x-test.false
