-- One name that opens what the bytes of a rule file mean, and the tests of its rule, so that a test of a given file can be
-- computed. Assumes nothing.
use mathlib.Core.Bool.{Bool, true}
use Rattle.theory.proofs.Computing.{computing}
use Rattle.formats.specs.Table.{product_at, image_at}
use Rattle.formats.specs.Sections.{two_bytes}
use Rattle.formats.specs.RuleFile.{letters_at, letters_of, marks_at, marks_of, rule_end, mark_floor, mark_bound, mark_start, mark_cycle, mark_grade, is_mark, grade_among, marks_in}
use Rattle.examples.proofs.Passing.{range_test, section_test, layout_test, same_marks, mark_test, rule_test}

-- opens all of these
unfoldable pub reading : Bool
unfolding computing product_at image_at two_bytes letters_at letters_of marks_at marks_of rule_end mark_floor mark_bound mark_start mark_cycle mark_grade is_mark grade_among marks_in range_test section_test layout_test same_marks mark_test rule_test
reading = true
