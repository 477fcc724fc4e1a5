-- What is asked for on the way from two checked files to the rule of their pairs. Assumes nothing.
use Rattle.std.specs.Prelude.{ℕ, ◌≤◌, List, length}
use Rattle.formats.specs.RuleChecks.{rule_size}
use Rattle.rule_layout.specs.declared.Shape.{Shape}
use Rattle.std.specs.Prelude.{Ok}
use Rattle.two_rules.specs.Checking.{BothPromise}

-- both files were checked, and there is room for the longest file
pub record BothReady (first second : List ℕ) (one two : Shape) (scratch out : List ℕ) : Type 0 where
  pub entry : List ℕ
  pub checked : BothPromise first second entry scratch (Ok (one, two))
  pub out_room : rule_size ≤ length out
