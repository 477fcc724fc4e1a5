-- The loop looks at the pairs (p·e·r^j, e) one after the other, until they come again, and ends at one that is marked. Assumes nothing.
use Prim.{tt}
use mathlib.Core.Path.{subst}
use lib.Dec.{T}
use Rattle.theory.proofs.IdempotentPowers.{least_power_idempotent}
use Rattle.rule_table.proofs.Facts.{table_place}
use Rattle.scratch.proofs.Markings.{front_mark}
use Rattle.lasso_powers.proofs.Raises.{raised_stays}
use Rattle.lasso_powers.proofs.Turning.{turn_start, turn_next, turn_ends}
use Rattle.lasso_powers.proofs.powers_marked.Goals as goal

pub product-q-requires : goal.product-q-requires
product-q-requires c = table_place c.requires.table c.requires.p_lt_n.0 (least_power_idempotent c.requires.least_power).inside

pub loop-j-init : goal.loop-j-init
loop-j-init c =
    turn_start _ c.requires.table c.requires.lawful c.requires.p_lt_n.0 c.requires.p_lt_n.1 c.requires.least_power c.product-q.ensures

pub returns-then-marks-q-gt0 : goal.returns-then-marks-q-gt0
returns-then-marks-q-gt0 c e = absurd (subst T e tt)

pub product-q-requires-in-loop-j : goal.product-q-requires-in-loop-j
product-q-requires-in-loop-j c =
    let i = c.loop-j.invariant in
    table_place i.table i.s_inside i.r_inside

pub loop-j-preserved : goal.loop-j-preserved
loop-j-preserved c =
    let l = c.loop-j.invariant in
    turn_next _ l c.loop-j-test.true (front_mark _ _ _) (raised_stays c.if-marks-q-gt0.false) c.product-q-in-loop-j.ensures

pub returns : goal.returns
returns c e = turn_ends _ c.loop-j.invariant c.loop-j-test.false
