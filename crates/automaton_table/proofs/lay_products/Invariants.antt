-- The loop holds that the rows so far have their numbers. Assumes nothing.
use Prim.Native.Nat.{◌≤◌}
use Rattle.scratch.specs.Rows.{RowsFilled}
use Rattle.automaton_table.specs.Laying.{TableNumber}
use Rattle.automaton_table.proofs.lay_products.Given as goal

abbrev pub invariant-loop-i : goal.invariant-loop-i
invariant-loop-i l = RowsFilled (TableNumber l.count l.initial.scratch) 16384 l.count l.count l.i l.initial.scratch l.scratch × (l.i ≤ l.count)
