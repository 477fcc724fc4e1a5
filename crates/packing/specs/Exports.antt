-- What an exported function promises: an answer that meets the call's own promise, and the number that holds it. Assumes nothing.
use Rattle.std.specs.Prelude.{ℕ, ◌≡◌}
use Rattle.packing.specs.Packing.{Contents, pack}

pub record Exported {Answer : Type 0} (Promise : Answer → Type 0) (holds : Answer → Contents) (r : ℕ) : Type 0 where
  pub answer : Answer
  pub promise : Promise answer
  pub packed : r ≡ pack (holds answer)
