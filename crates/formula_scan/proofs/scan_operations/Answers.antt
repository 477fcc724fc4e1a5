-- `formula_scan::scan_operations` meets its contract: the verdict from the byte at hand on is that of all bytes. Assumes nothing.
use native.Mathlib.Omega.{arith}
use Rattle.std.proofs.lemmas.Result.{err_from_is_err_and}
use Rattle.formula_scan.proofs.Passing.{remaining_start, remaining_refused, next_further, remaining_next, remaining_one, remaining_other}
use Rattle.formula_scan.proofs.scan_operations.Goals as goal

pub loop-at-init : goal.loop-at-init
loop-at-init c = remaining_start

pub check-requires : goal.check-requires
check-requires c = (c.loop-at-test.true, c.requires, c.loop-at.invariant.few)

pub loop-at-smaller : goal.loop-at-smaller
loop-at-smaller c =
    omega (arith, c.loop-at-test.true, next_further c.loop-at.invariant c.loop-at-test.true c.check.ensures c.in_ok-reached.was)

pub loop-at-preserved : goal.loop-at-preserved
loop-at-preserved c =
    remaining_next c.loop-at.invariant c.loop-at-test.true c.check.ensures c.in_ok-reached.was

pub returns-in_err-reached : goal.returns-in_err-reached
returns-in_err-reached c =
    let p = err_from_is_err_and c.from_residual.result c.from_residual.ensures.1 in
    rw (p.1, p.2) (remaining_refused c.loop-at.invariant c.loop-at-test.true c.check.ensures c.in_err-reached.was)

pub returns-then-height-eq1 : goal.returns-then-height-eq1
returns-then-height-eq1 c = remaining_one c.loop-at.invariant c.loop-at-test.false c.if-height-eq1.true

pub returns : goal.returns
returns c = remaining_other c.loop-at.invariant c.loop-at-test.false c.if-height-eq1.false
