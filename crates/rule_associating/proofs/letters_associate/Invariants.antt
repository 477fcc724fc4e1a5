-- The loops hold the answers of the letters in front that were passed, and of the letters behind the one that is tried. The measures are
-- the numbers of letters left. Assumes nothing.
use Prim.Native.Nat.{◌<◌}
use mathlib.Core.Path.{◌≡◌}
use lib.ListN.{get_or}
use Rattle.rule_associating.specs.Tests.{LettersBetween}
use Rattle.rule_associating.proofs.Passed.{RowBetween}
use Rattle.rule_associating.proofs.letters_associate.Given as goal

abbrev pub invariant-loop-j : goal.invariant-loop-j
invariant-loop-j l = RowBetween l.rule l.n l.k l.queue l.i l.j × LettersBetween l.rule l.n l.k l.queue l.i l.letters × (l.g ≡ get_or l.queue l.i 0) × (l.i < l.letters)

abbrev pub invariant-loop-i : goal.invariant-loop-i
invariant-loop-i l = LettersBetween l.rule l.n l.k l.queue l.i l.letters
