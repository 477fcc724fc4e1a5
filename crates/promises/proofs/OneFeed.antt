-- Two answers of `feed` for the same rule, monitor, word and scratch are one, and leave scratch alike. Assumes nothing.
use Prim.Native.Nat.{ℕ}
use mathlib.Core.Path.{◌≡◌, sym, ◌∙◌}
use mathlib.Core.List.{List}
use Rattle.answer.proofs.Order.{AllSingle, single_append, one_verdict}
use Rattle.formats.specs.RuleFile.{letters_of, morphism_of}
use Rattle.promises.specs.declared.Monitor.{Monitor}
use Rattle.promises.specs.declared.Moved.{Moved}
use Rattle.promises.specs.EventWords.{after_word}
use Rattle.promises.specs.Feed.{feed_checks, FeedPromise}
use Rattle.promises.proofs.EventWords.{log_single}
use Rattle.promises.proofs.OneMove.{monitor_single, same_moved}

pub feed_single : (bytes : List ℕ) (f : Monitor) (w entry : List ℕ) → AllSingle (feed_checks bytes f w entry)
feed_single bytes f w entry = single_append (monitor_single bytes f entry) (log_single 1 (letters_of bytes) w)

module _ {bytes : List ℕ} {f : Monitor} {w entry exit exit' : List ℕ} where
  pub one_feed : {answer answer' : Moved} → FeedPromise bytes f w entry exit answer → FeedPromise bytes f w entry exit' answer' → answer ≡ answer'
  one_feed {answer} {answer'} p q =
      same_moved f (after_word (morphism_of bytes) f w) answer answer' p.monitor q.monitor (one_verdict (feed_single bytes f w entry) p.refusal q.refusal)

  pub one_feed_scratch : {answer answer' : Moved} → FeedPromise bytes f w entry exit answer → FeedPromise bytes f w entry exit' answer' → exit ≡ exit'
  one_feed_scratch p q = p.scratch ∙ sym q.scratch
