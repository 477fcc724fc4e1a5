-- The loop looks at the cuts one after the other and ends at the first that shows a mark, or after all cuts. Assumes nothing.
use native.Mathlib.Omega.{arith}
use Rattle.lasso_turns.proofs.Searching.{unmarked_start, cut_start, cut_next, cut_unmarked, all_unmarked}
use Rattle.lasso_turns.proofs.first_marked.Goals as goal

pub loop-j-init : goal.loop-j-init
loop-j-init c =
    cut_start c.requires.table c.requires.lawful c.requires.cut_values c.requires.s_lt_n (unmarked_start _ _ _ _ _)

pub cut_at-cut-requires : goal.cut_at-cut-requires
cut_at-cut-requires c =
    let l = c.loop-j.invariant in record {
      table = l.table;
      cut_values = l.values;
      s_lt_n = (l.inside, c.loop-j-test.true);
    }

pub turn_marked-requires : goal.turn_marked-requires
turn_marked-requires c =
    let l = c.loop-j.invariant in
    let here = c.cut_at-cut.ensures in record {
      table = l.table;
      lawful = l.law;
      beginnings_base_in_bounds = omega (arith, l.values.long);
      p_lt_n = (here.before_inside, here.turn_inside);
    }

pub returns-then-turn_marked : goal.returns-then-turn_marked
returns-then-turn_marked c = cut_unmarked c.loop-j.invariant

pub loop-j-preserved : goal.loop-j-preserved
loop-j-preserved c =
    cut_next c.loop-j.invariant c.loop-j-test.true c.cut_at-cut.ensures (c.turn_marked.ensures c.if-turn_marked.false)

pub returns : goal.returns
returns c = all_unmarked c.loop-j.invariant c.loop-j-test.false
