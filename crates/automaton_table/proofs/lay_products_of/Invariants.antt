-- The loop holds that the products so far have their numbers. Assumes nothing.
use Prim.Native.Nat.{◌+◌, ◌*◌, ◌≤◌}
use Rattle.scratch.specs.Rows.{RowFilled}
use Rattle.automaton_table.specs.Laying.{TableNumber}
use Rattle.automaton_table.proofs.lay_products_of.Given as goal

abbrev pub invariant-loop-j : goal.invariant-loop-j
invariant-loop-j l = RowFilled (TableNumber l.count l.initial.scratch l.i) (16384 + l.i * l.count) l.j l.initial.scratch l.scratch × (l.j ≤ l.count)
