-- `reduce_rule::write_quotient` meets its contract: the tables are laid out one after the other, and then written. Assumes nothing.
use mathlib.Core.Path.{◌∙◌}
use Rattle.scratch.proofs.Unchanged.{unchanged_room}
use Rattle.reduce_rule.proofs.Laid.{images_place, marks_place, quotient_written}
use Rattle.reduce_rule.proofs.write_quotient.Goals as goal

pub lay_table-requires : goal.lay_table-requires
lay_table-requires c = record {
  table = c.requires.table;
  blocks_needs = c.requires.quotient_needs.blocks;
}

pub lay_images-requires : goal.lay_images-requires
lay_images-requires c = record {
  table = c.requires.table;
  scratch_size_in_bounds = unchanged_room c.lay_table.ensures.kept c.requires.quotient_needs.blocks.room;
}

pub lay_marks-requires : goal.lay_marks-requires
lay_marks-requires c =
    images_place c.requires.table c.requires.quotient_needs c.lay_table.ensures c.lay_images.ensures

pub write_laid-requires : goal.write_laid-requires
write_laid-requires c =
    marks_place c.requires.table c.requires.quotient_needs c.lay_table.ensures c.lay_images.ensures c.lay_marks.ensures

pub shape_of-scratch : goal.shape_of-scratch
shape_of-scratch c =
    c.lay_marks.ensures.kept.same_length ∙ c.lay_images.ensures.kept.same_length ∙ c.lay_table.ensures.kept.same_length

pub returns : goal.returns
returns c =
    quotient_written c.requires.table c.requires.quotient_needs c.lay_table.ensures c.lay_images.ensures
    c.lay_marks.ensures c.write_laid.ensures
