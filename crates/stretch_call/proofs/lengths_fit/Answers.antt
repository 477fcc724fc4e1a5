-- `stretch_call::lengths_fit` meets its contract: each test is one of the definition's. Assumes nothing.
use native.Mathlib.Omega.{arith}
use Rattle.stretch_call.proofs.Parts.{empty, long, fits_not_start, fits_not_cycle, fits_by_cycle}
use Rattle.stretch_call.proofs.lengths_fit.Goals as goal

pub returns-then-start-gt-LONGEST_WORD : goal.returns-then-start-gt-LONGEST_WORD
returns-then-start-gt-LONGEST_WORD c = let a = c.args in fits_not_start a.start.now a.cycle.now (long c.if-start-gt-LONGEST_WORD.true)

pub returns-then-cycle-lt1 : goal.returns-then-cycle-lt1
returns-then-cycle-lt1 c = let a = c.args in fits_not_cycle a.start.now a.cycle.now (empty c.if-cycle-lt1.true)

pub returns : goal.returns
returns c =
    let a = c.args in
    fits_by_cycle a.start.now a.cycle.now (record { some = omega arith; short = omega (arith, c.if-start-gt-LONGEST_WORD.false) }) (omega (arith, c.if-cycle-lt1.false))
