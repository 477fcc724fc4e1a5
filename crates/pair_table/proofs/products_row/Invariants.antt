-- `pair_table::products_row` meets its contract: the pairs (i, j) that were passed have their products. Assumes nothing.
use Prim.Native.Nat.{◌+◌, ◌*◌, ◌≤◌}
use mathlib.Core.Path.{◌≡◌}
use Rattle.scratch.specs.Map.{laid_products_base}
use Rattle.scratch.specs.Rows.{RowFilled}
use Rattle.pair_table.specs.Layout.{pair_product}
use Rattle.pair_table.proofs.products_row.Given as goal

abbrev pub invariant-loop-j : goal.invariant-loop-j
invariant-loop-j live = RowFilled (λ l byte. byte + 1 ≡ pair_product live.first live.n1 live.second live.n2 live.initial.scratch live.i l) (laid_products_base + live.i * live.count) live.j live.initial.scratch live.scratch × (live.j ≤ live.count)
