-- `rule_writer::write_marks` meets its contract: the marks are written two bytes on, a third of their bytes are as many as they,
-- and two stores write that count before them. Assumes nothing.
use native.Mathlib.Omega.{arith}
use lib.ListN.{length-set}
use Rattle.rule_writer.proofs.Parts.{marks_place, marks_kept, marks_count_small, marks_written}
use Rattle.rule_writer.proofs.write_marks.Goals as goal

pub write_all-end-requires : goal.write_all-end-requires
write_all-end-requires c = marks_place c.requires

pub overflow_cast-out : goal.overflow_cast-out
overflow_cast-out c =
    omega (arith, marks_count_small c.requires c.write_all-end.ensures)

pub overflow_cast-out-2 : goal.overflow_cast-out-2
overflow_cast-out-2 c =
    omega (arith, marks_count_small c.requires c.write_all-end.ensures)

pub bounds-out-at-2 : goal.bounds-out-at-2
bounds-out-at-2 c =
    simp length-set (omega (arith, c.requires.room, marks_kept c.requires c.write_all-end.ensures))

pub returns : goal.returns
returns c =
    marks_written c.requires c.write_all-end.ensures
