-- `reduce_table::lay_images` meets its contract: the letters that were passed have their blocks. Assumes nothing.
use Prim.Native.Nat.{◌≤◌}
use Rattle.scratch.specs.Map.{laid_images_base}
use Rattle.reduce_table.specs.Layout.{block_image, Filled}
use Rattle.reduce_table.proofs.lay_images.Given as goal

abbrev pub invariant-loop-a : goal.invariant-loop-a
invariant-loop-a l = Filled (block_image l.rule l.n l.initial.scratch) laid_images_base l.a l.initial.scratch l.scratch × (l.a ≤ l.k)
