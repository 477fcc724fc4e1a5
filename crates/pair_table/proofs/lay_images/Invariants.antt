-- `pair_table::lay_images` meets its contract: the letters that were passed have their pairs. Assumes nothing.
use Prim.Native.Nat.{◌+◌, ◌≤◌}
use mathlib.Core.Path.{◌≡◌}
use Rattle.scratch.specs.Map.{laid_images_base}
use Rattle.scratch.specs.Rows.{RowFilled}
use Rattle.pair_table.specs.Layout.{pair_image}
use Rattle.pair_table.proofs.lay_images.Given as goal

abbrev pub invariant-loop-x : goal.invariant-loop-x
invariant-loop-x live = RowFilled (λ l byte. byte + 1 ≡ pair_image live.first live.n1 live.second live.n2 live.initial.scratch l) laid_images_base live.x live.initial.scratch live.scratch × (live.x ≤ live.k)
