-- The loop holds that the first p rows agree. Assumes nothing.
use borrow.Author.Rules.{rules}
use borrow.Author.Tests.{not-true, not-false}
use Rattle.automaton_matrices.proofs.Storing.{row_room}
use Rattle.automaton_matrices.proofs.Comparing.{rows_agree_none, rows_agree_more, rows_agree_all, row_differs}
use mathlib.Core.Bool.{not}
use mathlib.Core.Path.{ap}
use Rattle.automaton_matrices.proofs.same_stored.Goals as goal

pub loop-p-init : goal.loop-p-init
loop-p-init c = rows_agree_none

pub same_bytes-requires : goal.same_bytes-requires
same_bytes-requires c = (search rules, row_room c.requires.1 (search rules))

pub returns-then-not-same_bytes : goal.returns-then-not-same_bytes
returns-then-not-same_bytes c = row_differs c.loop-p.invariant c.loop-p-test.true c.same_bytes.ensures (not-true _ (ap not c.if-not-same_bytes.true))

pub loop-p-preserved : goal.loop-p-preserved
loop-p-preserved c = rows_agree_more c.loop-p.invariant c.loop-p-test.true c.same_bytes.ensures (not-false _ (ap not c.if-not-same_bytes.false))

pub returns : goal.returns
returns c = rows_agree_all c.loop-p.invariant c.loop-p-test.false
