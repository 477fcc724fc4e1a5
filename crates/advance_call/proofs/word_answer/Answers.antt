-- `advance_call::word_answer` meets its contract: a word that is too long or has a foreign letter is refused, and another moves the monitor. Assumes nothing.
use mathlib.Core.Path.{refl}
use Rattle.promises.proofs.EventWords.{log_passes}
use Rattle.monitor_steps.proofs.WordFaults.{said_good_log, said_bad_log}
use Rattle.advance_call.proofs.word_answer.Goals as goal

pub returns-in-Err : goal.returns-in-Err
returns-in-Err c =
    let a = c.args in
    (said_bad_log a.k a.word.now c.log_fault.result c.log_fault.ensures c.in-Err.is _, refl)

pub moved_by_word-last-requires : goal.moved_by_word-last-requires
moved_by_word-last-requires c = record {
  table = c.requires.table;
  good_monitor = c.requires.good_monitor;
  over = (said_good_log c.args.k c.args.word.now c.log_fault.result c.log_fault.ensures c.in-Ok.is).over;
}

pub monitor_grade-looked-requires : goal.monitor_grade-looked-requires
monitor_grade-looked-requires c = record {
  table = c.requires.table;
  lawful = c.requires.lawful;
  good_monitor = c.moved_by_word-last.ensures.good;
  scratch_size_in_bounds = c.requires.scratch_size_in_bounds;
}

pub returns : goal.returns
returns c =
    let a = c.args in
    let good = said_good_log a.k a.word.now c.log_fault.result c.log_fault.ensures c.in-Ok.is in (
      log_passes _ a.k a.word.now good.short good.over,
      record { moved = c.moved_by_word-last.ensures.moved; good = c.moved_by_word-last.ensures.good; read = c.monitor_grade-looked.ensures.grade; settled = c.monitor_grade-looked.ensures.turns },
    )
