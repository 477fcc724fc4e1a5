-- The loop looks at the pairs (p·e·r^j, e) one after the other, until they come again, and keeps the highest mark. Assumes nothing.
use Rattle.theory.proofs.IdempotentPowers.{least_power_idempotent}
use Rattle.rule_table.proofs.Facts.{table_place}
use Rattle.scratch.proofs.Markings.{front_mark}
use Rattle.lasso_powers.proofs.Turning.{turn_start, turn_next, turn_ends}
use Rattle.lasso_powers.proofs.powers_highest.Goals as goal

pub product-s-requires : goal.product-s-requires
product-s-requires c = table_place c.requires.table c.requires.p_lt_n.0 (least_power_idempotent c.requires.least_power).inside

pub loop-j-init : goal.loop-j-init
loop-j-init c =
    turn_start _ c.requires.table c.requires.lawful c.requires.p_lt_n.0 c.requires.p_lt_n.1 c.requires.least_power c.product-s.ensures

pub product-s-requires-in-loop-j : goal.product-s-requires-in-loop-j
product-s-requires-in-loop-j c =
    let i = c.loop-j.invariant in
    table_place i.table i.s_inside i.r_inside

pub loop-j-preserved : goal.loop-j-preserved
loop-j-preserved c =
    let l = c.loop-j.invariant in
    turn_next _ l c.loop-j-test.true (front_mark _ _ _) c.higher-high.ensures c.product-s-in-loop-j.ensures

pub returns : goal.returns
returns c = turn_ends _ c.loop-j.invariant c.loop-j-test.false
