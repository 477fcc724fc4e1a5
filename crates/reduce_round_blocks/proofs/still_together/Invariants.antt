-- `reduce_round_blocks::still_together` meets its contract: the letters that were passed keep the elements together. Assumes nothing.
use Rattle.formats.specs.Table.{morphism_at}
use Rattle.reduce_first_round.specs.Map.{InOneBlock}
use Rattle.reduce_first_round.proofs.Products.{TogetherBelow}
use Rattle.reduce_round_blocks.proofs.still_together.Given as goal

abbrev pub invariant-loop-a : goal.invariant-loop-a
invariant-loop-a l = TogetherBelow (morphism_at l.rule l.n l.k) (InOneBlock l.scratch) l.s l.t l.a
