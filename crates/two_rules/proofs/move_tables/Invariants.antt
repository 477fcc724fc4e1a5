-- `two_rules::move_tables` meets its contract: each turn moves one byte of each table. Assumes nothing.
use Rattle.two_rules.proofs.Moving.{Moving}
use Rattle.two_rules.proofs.move_tables.Given as goal

abbrev pub invariant-loop-i : goal.invariant-loop-i
invariant-loop-i l = Moving l.i l.initial.scratch l.scratch
