-- The loop holds that the entries before the one at hand were tried; there are at most 4,225 entries. Assumes nothing.
use Prim.Native.Nat.{◌-◌}
use Rattle.theory.specs.Rules.{level}
use Rattle.scratch.specs.Map.{marks_from}
use Rattle.formats.specs.Table.{morphism_at}
use Rattle.mark_search_run.specs.Search.{Searching}
use Rattle.mark_search_run.proofs.run.Given as goal

abbrev pub invariant-loop-at : goal.invariant-loop-at
invariant-loop-at l = Searching (morphism_at l.rule l.n l.k) (level l.least (marks_from l.initial.scratch l.first)) (level l.least (marks_from l.initial.scratch l.second)) l.s l.initial.scratch l.scratch l.count l.at

abbrev pub decreases-loop-at : goal.decreases-loop-at
decreases-loop-at l = 4225 - l.at
