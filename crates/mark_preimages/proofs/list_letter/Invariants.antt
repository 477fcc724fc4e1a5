-- `mark_preimages::list_letter` meets its contract: the values that were passed are listed. Assumes nothing.
use Prim.Native.Nat.{◌+◌, ◌≤◌}
use Rattle.formats.specs.Table.{morphism_at}
use Rattle.mark_preimages.specs.Listing.{LetterListed}
use Rattle.mark_preimages.proofs.list_letter.Given as goal

abbrev pub invariant-loop-c : goal.invariant-loop-c
invariant-loop-c l = LetterListed (morphism_at l.rule l.n l.k) l.a l.c l.initial.scratch l.scratch × (l.c ≤ l.n + 1)
