-- A rule that is checked and a monitor whose values are good. Assumes nothing.
use Rattle.std.specs.Prelude.{ℕ, ◌<◌, ◌≡◌, Bool, true, false, ◌⊎◌, List, Result, Ok, Err}
use Rattle.answer.specs.declared.Refused.{Refused}
use Rattle.answer.specs.Checks.{FirstFailure, verdict_of}
use Rattle.theory.specs.Rules.{join}
use Rattle.formats.specs.Table.{morphism_at}
use Rattle.rule_layout.specs.declared.Shape.{Shape}
use Rattle.rule_layout.specs.Answers.{IsShape}
use Rattle.formats.specs.Calls.{after_call}
use Rattle.promises.specs.declared.Monitor.{Monitor}
use Rattle.promises.specs.Monitor.{no_value, value_of, number_for, ValueOutOfRange, monitor_checks}

-- an element or none
abbrev pub GoodNumber : ℕ → ℕ → Type 0
GoodNumber n s = (s < n) ⊎ (s ≡ no_value)

-- the product of two such numbers
unfoldable pub join_at : List ℕ → ℕ → ℕ → ℕ → ℕ → ℕ
join_at bytes n k a b = number_for (join (morphism_at bytes n k) (value_of a) (value_of b))

abbrev pub OutOfRangeAnswer : ℕ → ℕ → Bool → Type 0
OutOfRangeAnswer n s true = ValueOutOfRange n s
OutOfRangeAnswer n s false = GoodNumber n s

-- each value of a monitor is an element or none
pub record GoodMonitor (n : ℕ) (f : Monitor) : Type 0 where
  pub before_good : GoodNumber n f.before
  pub since_good : GoodNumber n f.since

abbrev pub StrayAnswer : ℕ → Monitor → Bool → Type 0
StrayAnswer n f true = ValueOutOfRange n f.before ⊎ ValueOutOfRange n f.since
StrayAnswer n f false = GoodMonitor n f

-- a rule that is ready: its counts
abbrev pub ReadyShape : List ℕ → Result Shape Refused → Type 0
ReadyShape bytes (Ok shape) = IsShape bytes shape
ReadyShape bytes (Err r) = Unit {0}

pub record ReadyPromise (bytes : List ℕ) (f : Monitor) (entry exit : List ℕ) (answer : Result Shape Refused) : Type 0 where
  pub refusal : FirstFailure (monitor_checks bytes f entry) (verdict_of answer)
  pub shape : ReadyShape bytes answer
  pub scratch : exit ≡ after_call entry
