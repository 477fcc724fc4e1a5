-- The loop holds the value of the first j letters and has stored the values of the beginnings up to it; all other bytes keep
-- their values. Assumes nothing.
use mathlib.Core.Path.{◌≡◌}
use lib.ListN.{length}
use Rattle.lasso_cuts.proofs.Tables.{BeginningsTo}
use Rattle.lasso_cuts.proofs.beginnings.Given as goal

abbrev pub invariant-loop-j : goal.invariant-loop-j
invariant-loop-j l =
    BeginningsTo l.rule l.n l.k l.w l.initial.scratch l.scratch l.base l.s l.j × (l.j-end ≡ length l.w)
