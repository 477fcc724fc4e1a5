-- Two markings of a checked table compared in scratch: what the comparison asks for and leaves. Assumes nothing.
use Rattle.std.specs.Prelude.{ℕ, ◌≤◌, ◌<◌, ◌≡◌, List, length, replicate}
use Rattle.theory.specs.Rules.{Morphism, Lawful, Marking, AllReached}
use Rattle.theory.proofs.Gradings.{GradedMarks}
use Rattle.theory.proofs.ShortWords.{ShortWord}
use Rattle.formats.specs.Front.{AtFront}
use Rattle.promises.specs.Inclusion.{InclusionAnswer}
use Rattle.promises.specs.declared.Inclusion.{Inclusion}
use Rattle.promises.specs.declared.Inclusion.TheVariants.{Included as Is-included, NotIncluded}
use Rattle.scratch.specs.Map.{second_base, MarkingAt}
use Rattle.formats.specs.RuleChecks.{scratch_size}

-- a table whose elements are all reached, one of them, and room for its first word
pub record StartNeeds (m : Morphism) (s : ℕ) (out : List ℕ) : Type 0 where
  pub lawful : Lawful m
  pub reached : AllReached m
  pub inside : s < m.size
  pub room : 64 ≤ length out

-- a word of s with no more letters than there are elements stands at the front of the buffer
pub record StartWritten (m : Morphism) (s : ℕ) (entry exit : List ℕ) (r : ℕ) : Type 0 where
  pub found : ShortWord m s
  pub written : AtFront found.word entry exit r

-- a lawful table whose elements are all reached, and room, whatever stands behind both tables of marks
pub record CompareNeeds (m : Morphism) (scratch : List ℕ) : Type 0 where
  pub lawful : Lawful m
  pub reached : AllReached m
  pub room : scratch_size ≤ length scratch

-- an answer that is no refusal
pub data Answered : Inclusion → Type 0 where
  answered_included : Answered Is-included
  answered_apart : {u v : ℕ} → Answered (NotIncluded u v)

-- two markings compared; scratch is zeros then
pub record Compared (m : Morphism) (u-entry u-exit v-entry v-exit entry exit : List ℕ) (answer : Inclusion) : Type 0 where
  pub answers : (F S : Marking) → GradedMarks m F → GradedMarks m S → MarkingAt m.size F entry 0 → MarkingAt m.size S entry second_base
      → InclusionAnswer m F S u-entry u-exit v-entry v-exit answer
  pub answered : Answered answer
  pub scratch : exit ≡ replicate (length entry) 0
