-- `advance_call::advance_word` meets its contract: the rule's checks, the monitor's values and the strength, and then the word. Assumes nothing.
use Rattle.monitor_standing.proofs.Ways.{said_stands, said_refused}
use Rattle.advance_call.proofs.Ways.{word_not_standing, word_answered}
use Rattle.advance_call.proofs.advance_word.Goals as goal

pub returns-in-Err : goal.returns-in-Err
returns-in-Err c =
    word_not_standing _ _ _ _ (said_refused _ _ _ _ _ c.check_standing.result c.check_standing.ensures c.in-Err.is) _

pub word_answer-answer-requires : goal.word_answer-answer-requires
word_answer-answer-requires c =
    let s = said_stands _ _ _ _ _ c.check_standing.result c.check_standing.ensures c.in-Ok.is in record {
      table = s.table;
      lawful = s.lawful;
      good_monitor = s.good;
      scratch_size_in_bounds = s.room;
    }

pub returns : goal.returns
returns c =
    let s = said_stands _ _ _ _ _ c.check_standing.result c.check_standing.ensures c.in-Ok.is in
    word_answered s c.zero.ensures c.word_answer-answer.result _ c.word_answer-answer.ensures
