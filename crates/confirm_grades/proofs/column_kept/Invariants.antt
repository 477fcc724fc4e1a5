-- `confirm_grades::column_kept` meets its contract: the outcomes of the values that were passed are kept. Assumes nothing.
use Rattle.formats.specs.Table.{morphism_at}
use Rattle.finite.specs.Each.{EachBelow}
use Rattle.confirm_grades.specs.Grades.{OutcomeKept}
use Rattle.confirm_grades.proofs.column_kept.Given as goal

abbrev pub invariant-loop-s : goal.invariant-loop-s
invariant-loop-s l = EachBelow (λ i. OutcomeKept (morphism_at l.first l.n1 l.k1) l.map l.scratch i l.z) l.s
