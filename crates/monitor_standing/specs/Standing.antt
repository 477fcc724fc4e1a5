-- A strong rule and a monitor of it that passed their checks, with the closure of the marks in scratch; and what is read there of a monitor. Assumes nothing.
use Rattle.std.specs.Prelude.{ℕ, ◌≤◌, ◌≡◌, List, length, replicate, Result, Ok, Err}
use Rattle.answer.specs.declared.Refused.{Refused}
use Rattle.answer.specs.Checks.{passed, refused, FirstFailure}
use Rattle.theory.specs.Rules.{Morphism, Lawful}
use Rattle.theory.specs.Pairs.{LeastExponent}
use Rattle.theory.proofs.Strength.{settled_start, settled_cycle}
use Rattle.formats.proofs.Tables.{Table}
use Rattle.formats.specs.Table.{morphism_at}
use Rattle.formats.specs.RuleChecks.{scratch_size}
use Rattle.formats.specs.Calls.{after_call}
use Rattle.scratch.specs.Map.{second_base, marks_from}
use Rattle.rule_layout.specs.declared.Shape.{Shape}
use Rattle.rule_layout.specs.Answers.{IsShape}
use Rattle.promises.specs.declared.Monitor.{Monitor}
use Rattle.promises.specs.Monitor.{no_value}
use Rattle.promises.specs.Advance.{no_grade, MonitorGrade, strong_monitor_checks}
use Rattle.monitor_state.specs.Ready.{GoodMonitor}
use Rattle.verdict_call.specs.Judging.{start_element}

-- none, or the closure's mark of the pair that the values settle to; where before is none, since stands for it
pub record GradeRead (m : Morphism) (scratch : List ℕ) (f : Monitor) (grade : ℕ) : Type 0 where
  pub without : f.since ≡ no_value → grade ≡ no_grade
  pub has_since : (f.since ≡ no_value → ⊥) → grade ≡ marks_from scratch second_base (settled_start m (start_element f) f.since) (settled_cycle m f.since)

-- none, or the turns that settle since
pub record TurnsRead (m : Morphism) (f : Monitor) (turns : ℕ) : Type 0 where
  pub without : f.since ≡ no_value → turns ≡ 0
  pub has_since : (f.since ≡ no_value → ⊥) → LeastExponent m f.since turns

-- what is known of a rule that passed: its table, and what a grade that is read in scratch says of the file
pub record Stands (input : ℕ) (bytes : List ℕ) (f : Monitor) (entry exit : List ℕ) (shape : Shape) : Type 0 where
  pub passes : FirstFailure (strong_monitor_checks input bytes f entry) passed
  pub shape_is : IsShape bytes shape
  pub table : Table bytes shape.elements shape.letters
  pub lawful : Lawful (morphism_at bytes shape.elements shape.letters)
  pub good : GoodMonitor shape.elements f
  pub room : scratch_size ≤ length exit
  pub zeros : (after : List ℕ) → after ≡ replicate (length exit) 0 → after ≡ after_call entry
  pub grades : (g : Monitor) (grade : ℕ) → GoodMonitor shape.elements g → GradeRead (morphism_at bytes shape.elements shape.letters) exit g grade → MonitorGrade bytes g grade

abbrev pub StandingAnswer : ℕ → List ℕ → Monitor → List ℕ → List ℕ → Result Shape Refused → Type 0
StandingAnswer input bytes f entry exit (Ok shape) = Stands input bytes f entry exit shape
StandingAnswer input bytes f entry exit (Err refusal) = FirstFailure (strong_monitor_checks input bytes f entry) (refused refusal.refusal refusal.input refusal.place) × (exit ≡ after_call entry)
