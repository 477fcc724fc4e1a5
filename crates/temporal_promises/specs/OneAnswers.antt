-- The theorem that each promise leaves one answer and one of every lent byte, as the other calls have it. Assumes nothing.
use Rattle.std.specs.Prelude.{ℕ, List}
use Rattle.promises.specs.OneAnswers.{OneAnswer}
use Rattle.promises.specs.declared.Written.{Written}
use Rattle.temporal_promises.specs.FirstLetter.{FirstLetterPromise, ConstantPromise}
use Rattle.temporal_promises.specs.Next.{NextPromise}
use Rattle.temporal_promises.specs.Until.{UntilPromise}

-- for each call
pub record TemporalOneAnswers : Type 0 where
  pub of_first_letter : (letters set grade : ℕ) (out : List ℕ)
      → OneAnswer (λ (after : List ℕ) (answer : Written). FirstLetterPromise letters set grade out after answer)
  pub constant : (letters grade : ℕ) (out : List ℕ) → OneAnswer (λ (after : List ℕ) (answer : Written). ConstantPromise letters grade out after answer)
  pub next : (bytes out entry : List ℕ)
      → OneAnswer (λ (left : List ℕ × List ℕ) (answer : Written). NextPromise bytes out left.0 entry left.1 answer)
  pub until : (first second out classes entry : List ℕ)
      → OneAnswer (λ (left : List ℕ × (List ℕ × List ℕ)) (answer : Written). UntilPromise first second out left.0 classes left.1.0 entry left.1.1 answer)
