-- The loop looks at the cuts one after the other, from the first that shows a mark on, and keeps the highest mark; it ends where that is
-- the highest of all marks, or after all cuts. Assumes nothing.
use native.Mathlib.Omega.{arith}
use Rattle.lasso_turns.proofs.Searching.{cut_start, cut_next, cut_top, cut_ends}
use Rattle.lasso_turns.proofs.highest_from.Goals as goal

pub loop-j-init : goal.loop-j-init
loop-j-init c =
    cut_start c.requires.table c.requires.lawful c.requires.cut_values c.requires.s_lt_n c.requires.unmarked_before

pub cut_at-cut-requires : goal.cut_at-cut-requires
cut_at-cut-requires c =
    let l = c.loop-j.invariant in record {
      table = l.table;
      cut_values = l.values;
      s_lt_n = (l.inside, c.loop-j-test.true);
    }

pub turn_highest-high-requires : goal.turn_highest-high-requires
turn_highest-high-requires c =
    let l = c.loop-j.invariant in
    let here = c.cut_at-cut.ensures in record {
      table = l.table;
      lawful = l.law;
      beginnings_base_in_bounds = omega (arith, l.values.long);
      p_lt_n = (here.before_inside, here.turn_inside);
    }

pub returns-then-top-high : goal.returns-then-top-high
returns-then-top-high c =
    cut_top (cut_next c.loop-j.invariant c.loop-j-test.true c.cut_at-cut.ensures c.turn_highest-high.ensures) c.requires.marks_up_to c.if-top-high.true

pub loop-j-preserved : goal.loop-j-preserved
loop-j-preserved c =
    cut_next c.loop-j.invariant c.loop-j-test.true c.cut_at-cut.ensures c.turn_highest-high.ensures

pub returns : goal.returns
returns c = cut_ends c.loop-j.invariant c.loop-j-test.false
