-- `rule_marks::mark_fault` meets its contract: the marks passed so far are good and laid out in the table. Assumes nothing.
use Prim.Native.Nat.{◌≤◌}
use Rattle.formats.specs.Table.{morphism_at}
use Rattle.formats.specs.RuleFile.{grade_among}
use Rattle.rule_marks.specs.Faults.{MarksLaid}
use Rattle.formats.proofs.MarksPassed.{GoodMarks}
use Rattle.rule_marks.proofs.mark_fault.Given as goal

abbrev pub invariant-loop-i : goal.invariant-loop-i
invariant-loop-i l =
    GoodMarks (morphism_at l.rule l.n l.k) l.bytes l.at l.i × MarksLaid (grade_among l.bytes l.at l.i) l.n l.initial.table l.table × (l.i ≤ l.count)
