-- The theorem on named points, from what holds of every log. Assumes nothing.
use Rattle.promises.specs.PointsTheorem.{PointsTheorem}
use Rattle.promises.proofs.Logs.{log_run, return_stored, log_monitor, log_point, log_verdict, fresh_logged, event_logged, mark_logged, in_place_logged, advance_logged, advance_word_logged, feed_logged, keep_logged, return_logged}
use Rattle.promises.proofs.HistoryGrades.{log_graded, log_turns}

pub points_theorem : PointsTheorem
points_theorem = record {
  monitor = λ bytes f points history names log. log_monitor bytes log;
  point = λ bytes f points history names log name h past e. log_point bytes log name h e;
  run = λ bytes f points history names log. log_run bytes log;
  stored_there = λ bytes f g points history names log name entry exit p. return_stored bytes log p;
  verdict = λ bytes f g points history names log run entry entry' exit exit' answer answer' long long' p q. log_verdict bytes log long long' run p q;
  graded = λ bytes f points history names log entry exit grade turns p. log_graded log p;
  turns = λ bytes f points history names log entry exit grade turns p. log_turns log p;
  fresh_logged = λ bytes points none. fresh_logged none;
  event_logged = λ bytes f points l letter entry exit answer p. event_logged l answer p;
  mark_logged = λ bytes f points l entry exit answer p. mark_logged l answer p;
  in_place_logged = λ bytes f g points l letter entry exit answer p. in_place_logged l answer p;
  advance_logged = λ bytes f points l input step entry exit answer p. advance_logged l answer p;
  advance_word_logged = λ bytes f points l input w entry exit answer p. advance_word_logged l answer p;
  feed_logged = λ bytes f points l w entry exit answer p. feed_logged l answer p;
  keep_logged = λ bytes f points l name points-exit entry exit answer p. keep_logged l answer p;
  return_logged = λ bytes f points l name entry exit answer p. return_logged l answer p;
}
