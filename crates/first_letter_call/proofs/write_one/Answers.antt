-- A grade of 0 is no mark. Assumes nothing.
use native.Mathlib.Omega.{arith}
use Rattle.first_letter_call.proofs.Files.{one_zero, one_some}
use Rattle.first_letter_call.proofs.write_one.Goals as goal

pub returns-then-grade-eq0 : goal.returns-then-grade-eq0
returns-then-grade-eq0 c =
    let p = c.requires in one_zero p.1 c.if-grade-eq0.true c.write_sections.ensures

pub returns : goal.returns
returns c =
    let p = c.requires in let f = c.if-grade-eq0.false in one_some p.1 (omega arith) p.2 c.write_sections-2.ensures
