-- The loop holds the value of the letters that were passed, and multiplies it by the next letter's element. Assumes nothing.
use Prim.Native.Nat.{◌+◌}
use Rattle.lasso_cuts.proofs.Passes.{Begun}
use Rattle.lasso_cuts.proofs.word_value.Given as goal

abbrev pub invariant-loop-letter : goal.invariant-loop-letter
invariant-loop-letter l = Begun l.rule l.n l.k l.w l.s (l.letter-index + 1)
