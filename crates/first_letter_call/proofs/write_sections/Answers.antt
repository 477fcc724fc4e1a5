-- The three sections are written one after the other, and each leaves room for the next. Assumes nothing.
use native.Mathlib.Omega.{arith}
use Rattle.first_letter_call.proofs.Files.{first_letter_cells, elements_place, letters_place, marks_place, sections_kept, sections_written}
use Rattle.first_letter_call.proofs.write_sections.Goals as goal

pub overflow_mul-n : goal.overflow_mul-n
overflow_mul-n c = omega (arith, first_letter_cells c.requires)

pub write_counted-letters_at-requires : goal.write_counted-letters_at-requires
write_counted-letters_at-requires c = elements_place c.requires

pub write_counted-marks_at-requires : goal.write_counted-marks_at-requires
write_counted-marks_at-requires c =
    letters_place c.requires c.write_counted-letters_at.ensures

pub write_counted-requires : goal.write_counted-requires
write_counted-requires c =
    marks_place c.requires c.write_counted-letters_at.ensures c.write_counted-marks_at.ensures

pub shape_of-out : goal.shape_of-out
shape_of-out c =
    sections_kept c.requires c.write_counted-letters_at.ensures c.write_counted-marks_at.ensures c.write_counted.ensures

pub returns : goal.returns
returns c =
    sections_written c.requires c.write_counted-letters_at.ensures c.write_counted-marks_at.ensures c.write_counted.ensures
