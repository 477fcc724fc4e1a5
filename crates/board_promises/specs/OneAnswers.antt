-- The theorem that each promise of the board leaves one answer and one of every lent byte. Assumes nothing.
use Rattle.std.specs.Prelude.{ℕ, List}
use Rattle.promises.specs.OneAnswers.{OneAnswer}
use Rattle.board_promises.specs.declared.Board.{Board}
use Rattle.board_promises.specs.declared.Posted.{Posted}
use Rattle.board_promises.specs.Promises.{EnterPromise, LeavePromise, BoardEventPromise, BoardMarkPromise}

pub record BoardOneAnswers : Type 0 where
  pub enter : (b : Board) (name : ℕ) (file files entry : List ℕ)
      → OneAnswer (λ (left : List ℕ × List ℕ) (answer : Posted). EnterPromise b name file files left.0 entry left.1 answer)
  pub leave : (b : Board) (name : ℕ) (files entry : List ℕ) → OneAnswer (λ (exit : List ℕ) (answer : Posted). LeavePromise b name files entry exit answer)
  pub event : (b : Board) (letter : ℕ) (files entry : List ℕ) → OneAnswer (λ (exit : List ℕ) (answer : Posted). BoardEventPromise b letter files entry exit answer)
  pub mark : (b : Board) (files entry : List ℕ) → OneAnswer (λ (exit : List ℕ) (answer : Posted). BoardMarkPromise b files entry exit answer)
