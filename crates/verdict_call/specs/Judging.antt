-- The steps of the call for a monitor's verdict: its values are looked at, and then judged by the marks in scratch. Assumes nothing.
use Rattle.std.specs.Prelude.{Result, Ok, Err}
use Rattle.answer.specs.declared.Fault.{Fault}
use Rattle.std.specs.Prelude.{ℕ, ◌<◌, ◌≡◌, cond, List, [], ◌∷◌, eqb}
use Rattle.answer.specs.Checks.{Check, refused, FirstFailure}
use Rattle.promises.specs.declared.Monitor.{Monitor}
use Rattle.promises.specs.Monitor.{no_value, ValueOutOfRange, monitor_value_check}
use Rattle.promises.specs.Verdict.{none_check}

-- 3 for the values of a monitor, then 11
abbrev pub value_checks : ℕ → Monitor → List Check
value_checks n f = monitor_value_check 1 n f ∷ none_check f ∷ []

-- "that of its cycle alone" (document 02, Job 4): where before is none, since stands for it
unfoldable pub start_element : Monitor → ℕ
start_element f = cond (eqb f.before no_value) f.since f.before

-- no number is stray, and since is an element
pub record Judgeable (n : ℕ) (f : Monitor) : Type 0 where
  pub before_good : ValueOutOfRange n f.before → ⊥
  pub start_inside : start_element f < n
  pub since_inside : f.since < n
  pub since_some : f.since ≡ no_value → ⊥

-- they can be judged, or the first of the two checks that fails
abbrev pub ValuesAnswer : ℕ → Monitor → Result (Unit {0}) Fault → Type 0
ValuesAnswer n f (Ok done) = Judgeable n f
ValuesAnswer n f (Err fault) = FirstFailure (value_checks n f) (refused fault.refusal 1 fault.place)
