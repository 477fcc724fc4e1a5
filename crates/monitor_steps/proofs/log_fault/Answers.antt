-- `monitor_steps::log_fault` meets its contract: a word that is too long, then the first foreign letter. Assumes nothing.
use native.Mathlib.Omega.{arith}
use Rattle.monitor_steps.proofs.WordMoving.{log_long, log_found, log_good}
use Rattle.monitor_steps.proofs.log_fault.Goals as goal

pub returns-then-word-gt-LONGEST_LOG : goal.returns-then-word-gt-LONGEST_LOG
returns-then-word-gt-LONGEST_LOG c = log_long _ _ c.if-word-gt-LONGEST_LOG.true

pub returns-in-Some : goal.returns-in-Some
returns-in-Some c =
    let a = c.args in
    log_found a.k a.word.now (omega arith) c.first_out.result c.first_out.ensures c.in-Some.is

pub returns-in-None : goal.returns-in-None
returns-in-None c =
    let a = c.args in
    log_good a.k a.word.now (omega arith) c.first_out.result c.first_out.ensures c.in-None.is
