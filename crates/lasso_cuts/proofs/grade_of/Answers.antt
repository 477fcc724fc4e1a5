-- The two passes fill the tables of values behind the marks, and the search of the cuts over them answers the test of membership.
-- Assumes nothing.
use native.Mathlib.Omega.{arith}
use Rattle.formats.specs.Table.{morphism_at}
use Rattle.theory.proofs.Values.{inside_of}
use Rattle.lasso_turns.proofs.Cutting.{BothTables, both_tables, cut_values, cut_membership, marks_up_to, greatest_up_to}
use Rattle.lasso_cuts.proofs.grade_of.Goals as goal

-- both tables stand after the two passes
tables : (c : goal.After-slice_known-3-1)
    → BothTables
    (morphism_at
    c.args.rule.now
    c.args.n
    c.args.k)
    c.args.v.now
    c.args.scratch.now
    c.ends.new.scratch
tables c =
    both_tables c.requires.call_word_2.short c.beginnings-cycle.ensures.values c.beginnings-cycle.ensures.others c.ends.ensures.values c.ends.ensures.others

-- both tables stand after the two passes
tables-2 : (c : goal.After-highest_cut-grade)
    → BothTables
    (morphism_at
    c.args.rule.now
    c.args.n
    c.args.k)
    c.args.v.now
    c.args.scratch.now
    c.ends.new.scratch
tables-2 c =
    both_tables c.requires.call_word_2.short c.beginnings-cycle.ensures.values c.beginnings-cycle.ensures.others c.ends.ensures.values c.ends.ensures.others

pub overflow_mul-n : goal.overflow_mul-n
overflow_mul-n c = omega (arith, c.requires.table.small)

pub greatest-top-requires : goal.greatest-top-requires
greatest-top-requires c = omega (arith, c.requires.table.small, c.requires.scratch_size_in_bounds)

pub beginnings-cycle-requires : goal.beginnings-cycle-requires
beginnings-cycle-requires c = record {
  table = c.requires.table;
  lawful = c.requires.lawful;
  call_word = c.requires.call_word_2;
  w_in_bounds = omega (arith, c.requires.call_word_2.short, c.requires.scratch_size_in_bounds);
}

pub ends-requires : goal.ends-requires
ends-requires c = record {
  table = c.requires.table;
  lawful = c.requires.lawful;
  call_word = c.requires.call_word_2;
  w_in_bounds = omega (arith, c.requires.call_word_2.short, c.requires.scratch_size_in_bounds, c.beginnings-cycle.ensures.others.same_length);
}

pub highest_cut-grade-requires : goal.highest_cut-grade-requires
highest_cut-grade-requires c =
    let t = tables c in record {
      table = c.requires.table;
      lawful = c.requires.lawful;
      cut_values = cut_values c.requires.lawful _ _ c.requires.call_word_2.over t.begins t.ends c.requires.call_word_2.short (omega (arith, c.requires.scratch_size_in_bounds, t.same_length));
      s_lt_n = inside_of c.requires.lawful c.requires.call_word.over c.word_value-s.ensures;
      marks_up_to = marks_up_to _ _ c.requires.table.small t.marks (greatest_up_to _ c.requires.table.small c.greatest-top.ensures);
    }

pub returns : goal.returns
returns c = record {
  grade = cut_membership c.requires.lawful c.requires.table.small c.requires.call_word.over c.requires.call_word_2.over c.word_value-s.ensures (tables-2 c) c.highest_cut-grade.ensures;
  cycle = c.beginnings-cycle.ensures.whole;
}
