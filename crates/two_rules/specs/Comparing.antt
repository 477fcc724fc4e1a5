-- Two checked files whose letter counts are compared and whose strengths are decided. Assumes nothing.
use Rattle.std.specs.Prelude.{ℕ, ◌≡◌, List, length, Result, Ok, Err}
use Rattle.answer.specs.declared.Refused.{Refused}
use Rattle.answer.specs.Checks.{refused, FirstFailure}
use Rattle.rule_layout.specs.declared.Shape.{Shape}
use Rattle.promises.specs.Combine.{pair_checks}
use Rattle.two_rules.specs.Checking.{BothPromise}
use Rattle.two_rules.specs.Deciding.{StrongFiles}

-- both files were checked
pub record BothChecked (first second : List ℕ) (one two : Shape) (scratch : List ℕ) : Type 0 where
  pub entry : List ℕ
  pub checked : BothPromise first second entry scratch (Ok (one, two))

-- both rules are strong, over as many letters, and the closures of their marks stand in scratch
pub record StrongAlike (first second : List ℕ) (one two : Shape) (scratch : List ℕ) : Type 0 where
  pub files : StrongFiles first second one two scratch
  pub same_letters : one.letters ≡ two.letters

-- a refusal is that of the first of these checks that fails
abbrev pub ComparedAfter : List ℕ → List ℕ → Shape → Shape → List ℕ → Result Unit Refused → Type 0
ComparedAfter first second one two exit (Ok done) = StrongAlike first second one two exit
ComparedAfter first second one two exit (Err r) = FirstFailure (pair_checks first second) (refused r.refusal r.input r.place)

-- the promise of the checks behind those of the files
pub record BothCompared (first second : List ℕ) (one two : Shape) (entry exit : List ℕ) (answer : Result Unit Refused) : Type 0 where
  pub same_length : length exit ≡ length entry
  pub compared : ComparedAfter first second one two exit answer
