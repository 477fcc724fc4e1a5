-- The checks of the calls on named points that follow the rule's own, and what the functions that try them answer. Assumes nothing.
use Rattle.std.specs.Prelude.{Result, Ok, Err}
use Rattle.answer.specs.declared.Fault.{Fault}
use Rattle.std.specs.Prelude.{ℕ, ◌<◌, Bool, true, false, ◌⊎◌, List, [], ◌∷◌}
use Rattle.answer.specs.Checks.{Check, passed, refused, FirstFailure}
use Rattle.promises.specs.declared.Monitor.{Monitor}
use Rattle.promises.specs.Monitor.{ValueOutOfRange}
use Rattle.promises.specs.Points.{NeverKept, point_at, name_check, never_kept_check, point_values_check, PointOutOfRange}

-- 15, then 3
abbrev pub keep_faults : ℕ → Monitor → ℕ → List ℕ → List Check
keep_faults n f name points = name_check name ∷ point_values_check n f points ∷ []

-- 15, then 16, then 3
abbrev pub return_faults : ℕ → Monitor → ℕ → List ℕ → List Check
return_faults n f name points = name_check name ∷ never_kept_check points name ∷ point_values_check n f points ∷ []

-- the name was kept with a value that is out of range
pub record KeptOutOfRange (n : ℕ) (points : List ℕ) (name : ℕ) : Type 0 where
  pub kept : NeverKept points name → ⊥
  pub stray : ValueOutOfRange n (point_at points name).before ⊎ ValueOutOfRange n (point_at points name).since

abbrev pub NameAnswer : ℕ → List ℕ → ℕ → Bool → Type 0
NameAnswer n points name true = KeptOutOfRange n points name
NameAnswer n points name false = KeptOutOfRange n points name → ⊥

abbrev pub PointsAnswer : ℕ → List ℕ → Bool → Type 0
PointsAnswer n points true = PointOutOfRange n points
PointsAnswer n points false = PointOutOfRange n points → ⊥

-- a value of the monitor or of a kept name is out of range
abbrev pub AnyOutOfRange : ℕ → Monitor → List ℕ → Type 0
AnyOutOfRange n f points = (ValueOutOfRange n f.before ⊎ ValueOutOfRange n f.since) ⊎ PointOutOfRange n points

abbrev pub ValuesAnswer : ℕ → Monitor → List ℕ → Bool → Type 0
ValuesAnswer n f points true = AnyOutOfRange n f points
ValuesAnswer n f points false = AnyOutOfRange n f points → ⊥

-- the checks pass, or the first that fails, of input 1
abbrev pub PointFault : List Check → Result (Unit {0}) Fault → Type 0
PointFault checks (Ok done) = FirstFailure checks passed
PointFault checks (Err fault) = FirstFailure checks (refused fault.refusal 1 fault.place)

-- none of the names tried so far
pub record NoneBelow (n : ℕ) (points : List ℕ) (names : ℕ) : Type 0 where
  pub none : (name : ℕ) → name < names → KeptOutOfRange n points name → ⊥
