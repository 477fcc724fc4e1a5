-- What `feed` promises: a monitor moved by a whole word of events from one check of the rule, for weak rules too. Assumes nothing.
use Rattle.std.specs.Prelude.{◌≡◌, List, ◌++◌, ℕ}
use Rattle.answer.specs.Checks.{Check, FirstFailure}
use Rattle.formats.specs.RuleFile.{letters_of, morphism_of}
use Rattle.formats.specs.Calls.{after_call}
use Rattle.promises.specs.declared.Monitor.{Monitor}
use Rattle.promises.specs.declared.Moved.{Moved}
use Rattle.promises.specs.Monitor.{monitor_checks}
use Rattle.promises.specs.Moves.{moved_verdict, HandsBack}
use Rattle.promises.specs.EventWords.{log_checks, after_word}

-- "13, the rule's, 3 for the monitor's values, 11 (input 1, place 0) above 16,777,216 letters, 10 with the position of the first foreign letter (input 1)"
abbrev pub feed_checks : List ℕ → Monitor → List ℕ → List ℕ → List Check
feed_checks bytes f w scratch = monitor_checks bytes f scratch ++ log_checks 1 (letters_of bytes) w

-- "the monitor after the events of the word, in their order"; "a refusal hands the monitor back unchanged, as if no letter had come"
pub record FeedPromise (bytes : List ℕ) (f : Monitor) (w entry exit : List ℕ) (answer : Moved) : Type 0 where
  pub refusal : FirstFailure (feed_checks bytes f w entry) (moved_verdict answer)
  pub monitor : HandsBack f (after_word (morphism_of bytes) f w) answer
  pub scratch : exit ≡ after_call entry
