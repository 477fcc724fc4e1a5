-- The monitor (document 01: follower): two values, before and since, the fresh one, and the checks of a call that is handed one.
-- Assumes nothing.
use Rattle.std.specs.Prelude.{ℕ, ◌≤◌, ◌≡◌, cond, ◌⊎◌, eqb, List, [], ◌∷◌, ◌++◌}
use Rattle.theory.specs.Rules.{Value, none, element}
use Rattle.promises.specs.declared.Monitor.{Monitor}
use Rattle.answer.specs.declared.Refusal.TheVariants.{EntryOutOfRange}
use Rattle.answer.specs.Checks.{Check}
use Rattle.formats.specs.RuleFile.{elements_of}
use Rattle.formats.specs.Calls.{checked_checks}

-- "each an element or 64 for none"
abbrev pub no_value : ℕ
no_value = 64

-- the value that a number of a monitor stands for
unfoldable pub value_of : ℕ → Value
value_of s = cond (eqb s no_value) none (element s)

-- the number that stands for a value
unfoldable pub number_for : Value → ℕ
number_for none = no_value
number_for (element s) = s

-- "a fresh one has 64 twice"
abbrev pub fresh_monitor : Monitor
fresh_monitor = record { before = no_value; since = no_value }

-- "a follower's value is neither an element nor 64"
pub record ValueOutOfRange (n s : ℕ) : Type 0 where
  pub no_element : n ≤ s
  pub not_none : s ≡ no_value → ⊥

-- 3 of a monitor's values; place "0 for a follower"
pub record MonitorValueOutOfRangeAt (n : ℕ) (f : Monitor) (place : ℕ) : Type 0 where
  pub stray : ValueOutOfRange n f.before ⊎ ValueOutOfRange n f.since
  pub is_place : place ≡ 0

-- 3 for the values of a monitor of a rule with n elements, which is the input of the given number
abbrev pub monitor_value_check : ℕ → ℕ → Monitor → Check
monitor_value_check input n f = record { refusal = EntryOutOfRange; input = input; Fails = MonitorValueOutOfRangeAt n f }

-- "Then 3 for a follower's values": after the rule's own checks
abbrev pub monitor_checks : List ℕ → Monitor → List ℕ → List Check
monitor_checks bytes f scratch = checked_checks 1 bytes scratch ++ monitor_value_check 1 (elements_of bytes) f ∷ []
