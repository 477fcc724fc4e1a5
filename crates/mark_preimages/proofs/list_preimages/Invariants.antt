-- `mark_preimages::list_preimages` meets its contract: the letters that were passed have their lists. Assumes nothing.
use Prim.Native.Nat.{◌≤◌}
use Rattle.formats.specs.Table.{morphism_at}
use Rattle.mark_preimages.specs.Listing.{LettersListed}
use Rattle.mark_preimages.proofs.list_preimages.Given as goal

abbrev pub invariant-loop-a : goal.invariant-loop-a
invariant-loop-a l = LettersListed (morphism_at l.rule l.n l.k) l.a l.initial.scratch l.scratch × (l.a ≤ l.k)
