-- `pair_table::lay_products` meets its contract: the rows that were passed are laid out. Assumes nothing.
use Prim.Native.Nat.{◌+◌, ◌≤◌}
use mathlib.Core.Path.{◌≡◌}
use Rattle.scratch.specs.Map.{laid_products_base}
use Rattle.scratch.specs.Rows.{RowsFilled}
use Rattle.pair_table.specs.Layout.{pair_product}
use Rattle.pair_table.proofs.lay_products.Given as goal

abbrev pub invariant-loop-i : goal.invariant-loop-i
invariant-loop-i live = RowsFilled (λ l j byte. byte + 1 ≡ pair_product live.first live.n1 live.second live.n2 live.initial.scratch l j) laid_products_base live.count live.count live.i live.initial.scratch live.scratch × (live.i ≤ live.count)
