-- `advance_call::step_answer` meets its contract: a foreign step is refused, and another moves the monitor. Assumes nothing.
use mathlib.Core.Path.{refl}
use Rattle.promises.proofs.EventWords.{step_foreign, step_known}
use Rattle.advance_call.proofs.Stepping.{said_foreign, said_known}
use Rattle.advance_call.proofs.step_answer.Goals as goal

pub returns-then-foreign : goal.returns-then-foreign
returns-then-foreign c =
    let a = c.args in
    (step_foreign _ a.k a.step (said_foreign a.k a.step c.foreign.result c.foreign.ensures c.if-foreign.true), refl)

pub moved-next-requires : goal.moved-next-requires
moved-next-requires c = record {
  table = c.requires.table;
  good_monitor = c.requires.good_monitor;
  fact = said_known _ _ c.foreign.result c.foreign.ensures c.if-foreign.false;
}

pub monitor_grade-looked-requires : goal.monitor_grade-looked-requires
monitor_grade-looked-requires c = record {
  table = c.requires.table;
  lawful = c.requires.lawful;
  good_monitor = c.moved-next.ensures.good;
  scratch_size_in_bounds = c.requires.scratch_size_in_bounds;
}

pub returns : goal.returns
returns c =
    let a = c.args in (
      step_known _ a.k a.step (said_known a.k a.step c.foreign.result c.foreign.ensures c.if-foreign.false),
      record { moved = c.moved-next.ensures.moved; good = c.moved-next.ensures.good; read = c.monitor_grade-looked.ensures.grade; settled = c.monitor_grade-looked.ensures.turns },
    )
