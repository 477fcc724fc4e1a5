-- What the verdict on two values says and leaves. Assumes nothing.
use Rattle.std.specs.Prelude.{ℕ, ◌≡◌, List, length, replicate}
use Rattle.answer.specs.declared.Refusal.TheVariants.{NotStrong}
use Rattle.answer.specs.Checks.{refused}
use Rattle.theory.specs.Rules.{Morphism, Marking, element}
use Rattle.theory.specs.Pairs.{LeastExponent}
use Rattle.theory.specs.Grades.{StrongMarking, LassosGraded}
use Rattle.theory.proofs.Gradings.{GradedMarks}
use Rattle.scratch.specs.Map.{MarkingAt}
use Rattle.promises.specs.declared.LassoVerdict.{LassoVerdict}
use Rattle.promises.specs.declared.LassoVerdict.TheVariants.{Decided, Refused}

-- a strong marking with the answer for the values (before, since), or one that is not strong and 12
abbrev pub JudgedBy : Morphism → Marking → ℕ → ℕ → LassoVerdict → Type 0
JudgedBy m marks before since (Decided grade turns) = StrongMarking m marks × (LassosGraded m marks (element before) since grade × LeastExponent m since turns)
JudgedBy m marks before since (Refused refusal input place) = (StrongMarking m marks → ⊥) × (refused refusal input place ≡ refused NotStrong 1 0)

-- what the marks at the front of scratch say, and zeros are left
pub record Judges (m : Morphism) (before since : ℕ) (entry exit : List ℕ) (answer : LassoVerdict) : Type 0 where
  pub zeros : exit ≡ replicate (length entry) 0
  pub says : (marks : Marking) → GradedMarks m marks → MarkingAt m.size marks entry 0 → JudgedBy m marks before since answer
