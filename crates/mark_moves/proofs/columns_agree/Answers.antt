-- `mark_moves::columns_agree` meets its contract: the marks of the starts that were passed are the same. Assumes nothing.
use native.Mathlib.Omega.{arith}
use Rattle.finite.proofs.Each.{each_none, each_more}
use Rattle.mark_moves.proofs.Agreeing.{answer_yes, answer_no, bytes_same, bytes_differ, left_differ}
use Rattle.mark_moves.proofs.columns_agree.Goals as goal

pub loop-s-init : goal.loop-s-init
loop-s-init c = each_none

pub bounds-scratch-s : goal.bounds-scratch-s
bounds-scratch-s c =
    omega (arith, c.requires.table.small, c.requires.move_needs.room, c.requires.left_equivalent.first.inside, c.loop-s-test.true)

pub bounds-scratch-s-in-loop-s : goal.bounds-scratch-s-in-loop-s
bounds-scratch-s-in-loop-s c =
    omega (arith, c.requires.table.small, c.requires.move_needs.room, c.requires.left_equivalent.second.inside, c.loop-s-test.true)

pub returns-then-scratch-s : goal.returns-then-scratch-s
returns-then-scratch-s c =
    let a = c.args in
    answer_no
    (left_differ c.requires.move_needs.lawful c.requires.move_needs.graded c.loop-s-test.true c.requires.left_equivalent
    (bytes_differ a.scratch.now c.loop-s.s a.e c.loop-s.s a.f c.if-scratch-s.true))

pub loop-s-preserved : goal.loop-s-preserved
loop-s-preserved c =
    let a = c.args in
    each_more c.loop-s.invariant (bytes_same a.scratch.now c.loop-s.s a.e c.loop-s.s a.f c.if-scratch-s.false)

pub returns : goal.returns
returns c = answer_yes (record { same = record { each = λ s h. c.loop-s.invariant.each s (omega (arith, c.loop-s-test.false)) } })
