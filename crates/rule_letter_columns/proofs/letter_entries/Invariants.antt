-- Every entry that was passed was found from the empty word's; where one was not, the entries behind it were not either. The measure is
-- the number of entries left. Assumes nothing.
use Prim.Native.Nat.{◌≤◌}
use Rattle.rule_letter_columns.proofs.Passed.{LettersTo}
use Rattle.rule_letter_columns.proofs.letter_entries.Given as goal

abbrev pub invariant-loop-i : goal.invariant-loop-i
invariant-loop-i l = LettersTo l.queue l.i × (l.i ≤ l.count)
