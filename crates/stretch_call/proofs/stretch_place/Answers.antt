-- `stretch_call::stretch_place` meets its contract: the position tells the word, and where the part begins there. Assumes nothing.
use native.Mathlib.Omega.{arith}
use native.Mathlib.Nat.{mod-lt}
use mathlib.Core.Path.{sym, ◌∙◌, ap}
use lib.ListN.{length}
use Prim.Native.Nat.{◌-◌}
use borrow.Author.Tests.{not-true, not-false}
use Rattle.stretch_call.proofs.Numbers.{cycle_some, numbers_none, numbers_start, numbers_cycle}
use mathlib.Core.Bool.{not}
use Rattle.stretch_call.proofs.stretch_place.Goals as goal

pub returns-then-not-lengths_fit : goal.returns-then-not-lengths_fit
returns-then-not-lengths_fit c = numbers_none _ _ _ (sym c.lengths_fit.ensures ∙ not-true _ (ap not c.if-not-lengths_fit.true))

pub returns-then-position-start : goal.returns-then-position-start
returns-then-position-start c = numbers_start _ _ _ (sym c.lengths_fit.ensures ∙ not-false _ (ap not c.if-not-lengths_fit.false)) c.if-position-start.true

pub nonzero_rem-at : goal.nonzero_rem-at
nonzero_rem-at c =
    let a = c.args in
    omega (arith, cycle_some a.start.now a.cycle.now a.position (sym c.lengths_fit.ensures ∙ not-false _ (ap not c.if-not-lengths_fit.false)))

pub overflow_sub-result-2 : goal.overflow_sub-result-2
overflow_sub-result-2 c =
    let a = c.args in
    let some = cycle_some a.start.now a.cycle.now a.position (sym c.lengths_fit.ensures ∙ not-false _ (ap not c.if-not-lengths_fit.false)) in
    omega (arith, mod-lt (a.position - length a.start.now) {m = length a.cycle.now} some)

pub returns : goal.returns
returns c = numbers_cycle _ _ _ (sym c.lengths_fit.ensures ∙ not-false _ (ap not c.if-not-lengths_fit.false)) c.if-position-start.false
