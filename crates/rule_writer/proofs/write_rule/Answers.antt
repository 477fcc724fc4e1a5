-- `rule_writer::write_rule` meets its contract: the three sections are written one after the other, and each leaves room for the
-- next. Assumes nothing.
use Rattle.rule_writer.proofs.Parts.{rule_elements, rule_letters, rule_marks, rule_written}
use Rattle.rule_writer.proofs.write_rule.Goals as goal

pub write_counted-letters_at-requires : goal.write_counted-letters_at-requires
write_counted-letters_at-requires c = rule_elements c.requires

pub write_counted-marks_at-requires : goal.write_counted-marks_at-requires
write_counted-marks_at-requires c =
    rule_letters c.requires c.write_counted-letters_at.ensures

pub write_marks-requires : goal.write_marks-requires
write_marks-requires c =
    rule_marks c.requires c.write_counted-letters_at.ensures c.write_counted-marks_at.ensures

pub returns : goal.returns
returns c =
    rule_written c.requires c.write_counted-letters_at.ensures c.write_counted-marks_at.ensures c.write_marks.ensures
