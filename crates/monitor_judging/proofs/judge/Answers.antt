-- `monitor_judging::judge` meets its contract: strength first, and then the closure decides. Assumes nothing.
use borrow.Author.Tests.{not-true, not-false}
use Rattle.monitor_judging.proofs.Judging.{look_room, judged_weak, judged_decided}
use mathlib.Core.Bool.{not}
use mathlib.Core.Path.{ap}
use Rattle.monitor_judging.proofs.judge.Goals as goal

pub values_grade-looked-requires : goal.values_grade-looked-requires
values_grade-looked-requires c = record {
  table = c.requires.table;
  lawful = c.requires.decide_needs.lawful;
  before_lt_n = c.requires.before_lt_n;
  scratch_size_in_bounds = look_room c.requires.decide_needs c.requires.before_lt_n.0 c.requires.before_lt_n.1 c.decide-strong.ensures;
}

pub returns-then-not-strong : goal.returns-then-not-strong
returns-then-not-strong c =
    judged_weak c.requires.decide_needs c.requires.before_lt_n.0 c.requires.before_lt_n.1 c.decide-strong.ensures c.zero.ensures (not-true _ (ap not c.if-not-strong.true))

pub returns : goal.returns
returns c =
    judged_decided c.requires.decide_needs c.requires.before_lt_n.0 c.requires.before_lt_n.1 c.decide-strong.ensures c.values_grade-looked.ensures.grade (not-false _ (ap not c.if-not-strong.false)) c.values_grade-looked.ensures.turns c.zero.ensures
