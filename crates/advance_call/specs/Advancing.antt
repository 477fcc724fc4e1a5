-- The steps of the calls that move a monitor and grade it, once the rule stands: the letters are looked at, and the grade is read from the closure of the marks.
-- Assumes nothing.
use Rattle.std.specs.Prelude.{ℕ, ◌≡◌, Bool, true, false, List}
use Rattle.answer.specs.Checks.{Check, passed, refused, FirstFailure}
use Rattle.theory.specs.Rules.{Morphism}
use Rattle.promises.specs.declared.Monitor.{Monitor}
use Rattle.promises.specs.declared.Step.{Step}
use Rattle.promises.specs.declared.Advanced.{Advanced}
use Rattle.promises.specs.declared.Advanced.TheVariants.{To, Refused}
use Rattle.promises.specs.Advance.{ForeignStep}
use Rattle.monitor_state.specs.Ready.{GoodMonitor}
use Rattle.monitor_standing.specs.Standing.{GradeRead, TurnsRead}

abbrev pub ForeignAnswer : ℕ → Step → Bool → Type 0
ForeignAnswer k step true = ForeignStep k step
ForeignAnswer k step false = ForeignStep k step → ⊥

-- the moved monitor with what was read of it
pub record ReadTo (m : Morphism) (scratch : List ℕ) (next g : Monitor) (grade turns : ℕ) : Type 0 where
  pub moved : g ≡ next
  pub good : GoodMonitor m.size g
  pub read : GradeRead m scratch g grade
  pub settled : TurnsRead m g turns

-- what is answered of a rule that stands, by the checks that are left: the first of them that fails, and the monitor as it was; or the moved one
abbrev pub LaterAnswer : Morphism → List ℕ → List Check → Monitor → Monitor → Advanced → Type 0
LaterAnswer m scratch later f next (To g grade turns) = FirstFailure later passed × ReadTo m scratch next g grade turns
LaterAnswer m scratch later f next (Refused g refusal i place) = FirstFailure later (refused refusal i place) × (g ≡ f)
