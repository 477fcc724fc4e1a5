-- The bytes of an entry behind the letters' are an element, an entry before it, and a letter; the loop holds the answers of the
-- entries that were passed. The measure is the number of entries left. Assumes nothing.
use Prim.Native.Nat.{◌≤◌}
use Rattle.rule_along_words.specs.Tests.{WordsAlong}
use Rattle.rule_along_words.proofs.words_associate.Given as goal

abbrev pub invariant-loop-i : goal.invariant-loop-i
invariant-loop-i l = WordsAlong l.rule l.n l.k l.queue l.letters l.i × (l.letters ≤ l.i)
