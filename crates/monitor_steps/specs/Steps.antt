-- What a word of events makes of a monitor, letter by letter, and its own checks. Assumes nothing.
use Rattle.std.specs.Prelude.{Result, Ok, Err}
use Rattle.answer.specs.declared.Fault.{Fault}
use Rattle.std.specs.Prelude.{ℕ, ◌≤◌, ◌<◌, ◌≡◌, List, length}
use Rattle.answer.specs.Checks.{refused, FirstFailure}
use Rattle.theory.specs.Words.{Over}
use Rattle.theory.specs.Rules.{Morphism}
use Rattle.promises.specs.EventWords.{longest_log, log_checks, after_word}

-- a monitor's since after a word, from an element, whatever its before is
pub record Along (m : Morphism) (since : ℕ) (w : List ℕ) (r : ℕ) : Type 0 where
  pub after : (before : ℕ) → record { before = before; since = r } ≡ after_word m (record { before = before; since = since }) w
  pub inside : r < m.size

-- a word of events that is taken
pub record GoodLog (k : ℕ) (w : List ℕ) : Type 0 where
  pub short : length w ≤ longest_log
  pub over : Over k w

-- or the first of its checks that fails, whatever the number of its input is
abbrev pub LogAnswer : ℕ → List ℕ → Result (Unit {0}) Fault → Type 0
LogAnswer k w (Ok done) = GoodLog k w
LogAnswer k w (Err fault) = (input : ℕ) → FirstFailure (log_checks input k w) (refused fault.refusal input fault.place)
