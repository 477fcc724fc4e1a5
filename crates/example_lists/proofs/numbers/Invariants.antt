-- `example_lists::numbers` meets its contract: each turn stores what one word more stands for, and a list has no other words.
-- Assumes nothing.
use lib.ListN.{length}
use Rattle.example_parts.specs.Parts.{part_of}
use Rattle.example_parts.specs.Digits.{colon}
use Rattle.example_lists.proofs.Listing.{WordsSoFar}
use Rattle.example_lists.proofs.numbers.Given as goal

abbrev pub invariant-loop-word : goal.invariant-loop-word
invariant-loop-word l = WordsSoFar (part_of colon l.k l.line) l.initial.out l.out l.at (length l.yielded)
