-- What `reduce` prints for a file: the bytes that an answer of the call leaves at the front of out. Document 02, Job 8. Assumes nothing.
use Rattle.std.specs.Prelude.{ℕ, ◌≡◌, List, length}
use Rattle.formats.specs.Front.{AtFront}
use Rattle.promises.specs.declared.Written.{Written}
use Rattle.promises.specs.declared.Written.TheVariants.{Rule as Is-rule}
use Rattle.promises.specs.Reduce.{ReducePromise}

-- some buffers, and an answer that the promise of `reduce` allows for them: the file stands at the front of out
pub record Prints (bytes file : List ℕ) : Type 0 where
  pub before : List ℕ
  pub after : List ℕ
  pub map_before : List ℕ
  pub map_after : List ℕ
  pub entry : List ℕ
  pub exit : List ℕ
  pub end : ℕ
  pub promised : ReducePromise bytes before after map_before map_after entry exit (Is-rule end)
  pub printed : AtFront file before after end

-- an answer is no refusal, and says how long the file at the front of out is, which is what `reduce` prints
pub record Printed (bytes before after : List ℕ) (answer : Written) : Type 0 where
  pub file : List ℕ
  pub length_is : answer ≡ Is-rule (length file)
  pub front : AtFront file before after (length file)
  pub prints : Prints bytes file
