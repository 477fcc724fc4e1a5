-- What `reduce_rounds` promises: the blocks of a round of the reduction. Document 02, Jobs 9 and 12. Assumes nothing.
use Rattle.std.specs.Prelude.{ℕ, ◌≤◌, ◌<◌, ◌≡◌, Bool, false, List, [], ◌∷◌, ◌++◌}
use Rattle.finite.specs.Tells.{Tells}
use Rattle.answer.specs.declared.Refusal.TheVariants.{LimitOutOfRange}
use Rattle.answer.specs.Checks.{Check, Verdict, passed, refused, FirstFailure}
use Rattle.theory.specs.Rules.{Lawful}
use Rattle.theory.specs.Rounds.{GradesByValues, Together, Stable, IsBlocks}
use Rattle.formats.specs.RuleFile.{elements_of, morphism_of, marking_of}
use Rattle.formats.specs.RuleChecks.{buffer_check}
use Rattle.formats.specs.Calls.{checked_checks, scratch_left}
use Rattle.formats.specs.Front.{AtFront}
use Rattle.promises.specs.Weak.{weak_check}
use Rattle.promises.specs.declared.Partition.{Partition}
use Rattle.promises.specs.declared.Partition.TheVariants.{Blocks, Refused}

-- "Blocks go into a lent 64 bytes."
abbrev pub blocks_size : ℕ
blocks_size = 64

-- "a limit of 0 to 64 rounds after round 0"
abbrev pub most_rounds : ℕ
most_rounds = 64

-- "20, limit above 64"; place 0
pub record LimitOutOfRangeAt (limit place : ℕ) : Type 0 where
  pub above : most_rounds < limit
  pub is_place : place ≡ 0

abbrev pub limit_check : ℕ → Check
limit_check limit = record { refusal = LimitOutOfRange; input = 1; Fails = LimitOutOfRangeAt limit }

-- "tried after the rule's own checks and before 12"
abbrev pub rounds_checks : List ℕ → ℕ → List ℕ → List ℕ → List Check
rounds_checks bytes limit blocks scratch = buffer_check blocks_size blocks ∷ (checked_checks 1 bytes scratch ++ limit_check limit ∷ weak_check 1 bytes ∷ [])

-- document 01's number, input and place of an answer
abbrev pub partition_verdict : Partition → Verdict
partition_verdict (Blocks rounds finished) = passed
partition_verdict (Refused refusal input place) = refused refusal input place

-- "gives a byte for each element, the least in its block, and the rounds done. It says finished exactly if one round more would change
-- nothing, and stops at the first such round": the blocks stand at the front, the rest is kept, and it stops unfinished at the limit only
pub record PartitionedTo (bytes : List ℕ) (limit : ℕ) (before after : List ℕ) (rounds : ℕ) (finished : Bool) : Type 0 where
  pub lawful : Lawful (morphism_of bytes)
  pub grades : ℕ → ℕ → ℕ
  pub graded : GradesByValues (morphism_of bytes) (marking_of bytes) grades
  pub blocks : List ℕ
  pub least : IsBlocks (elements_of bytes) (Together (morphism_of bytes) grades rounds) blocks
  pub written : AtFront blocks before after (elements_of bytes)
  pub within : rounds ≤ limit
  pub first : (i : ℕ) → i < rounds → Stable (morphism_of bytes) grades i → ⊥
  pub stable : Tells (Stable (morphism_of bytes) grades rounds) finished
  pub at_limit : finished ≡ false → rounds ≡ limit

-- a refusal keeps every byte of blocks
abbrev pub PartitionAnswer : List ℕ → ℕ → List ℕ → List ℕ → Partition → Type 0
PartitionAnswer bytes limit before after (Blocks rounds finished) = PartitionedTo bytes limit before after rounds finished
PartitionAnswer bytes limit before after (Refused refusal input place) = after ≡ before

-- scratch as every call leaves it
pub record RoundsPromise (bytes : List ℕ) (limit : ℕ) (before after entry exit : List ℕ) (answer : Partition) : Type 0 where
  pub refusal : FirstFailure (rounds_checks bytes limit before entry) (partition_verdict answer)
  pub answered : PartitionAnswer bytes limit before after answer
  pub scratch : exit ≡ scratch_left blocks_size before entry
