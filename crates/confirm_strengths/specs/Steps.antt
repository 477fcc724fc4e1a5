-- What is asked for and what is promised on the way from two checked files and a map to the answer. Assumes nothing.
use Rattle.std.specs.Prelude.{ℕ, ◌≡◌, List, [], ◌∷◌, length}
use Rattle.answer.specs.Checks.{FirstFailure}
use Rattle.rule_layout.specs.declared.Shape.{Shape}
use Rattle.std.specs.Prelude.{Ok}
use Rattle.two_rules.specs.Checking.{BothPromise}
use Rattle.promises.specs.declared.Confirmation.{Confirmation}
use Rattle.promises.specs.Weak.{weak_check}
use Rattle.promises.specs.Confirm.{confirmation_verdict, ConfirmationAnswer}

-- both files were checked
pub record FilesReady (first second : List ℕ) (one two : Shape) (scratch : List ℕ) : Type 0 where
  pub entry : List ℕ
  pub checked : BothPromise first second entry scratch (Ok (one, two))

-- the verdict of the check behind those of the files, and the answer
pub record CheckedPromise (first second map entry exit : List ℕ) (answer : Confirmation) : Type 0 where
  pub refusal : FirstFailure (weak_check 1 first ∷ []) (confirmation_verdict answer)
  pub answered : ConfirmationAnswer first second map answer
  pub same_length : length exit ≡ length entry
