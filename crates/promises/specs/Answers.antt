-- The two answers that several calls give: a rule that was written, and a verdict on lassos. Assumes nothing.
use Rattle.std.specs.Prelude.{ℕ, ◌≡◌, List}
use Rattle.answer.specs.Checks.{Verdict, passed, refused}
use Rattle.promises.specs.declared.Written.{Written}
use Rattle.promises.specs.declared.Written.TheVariants.{Rule, Refused as Not-written}
use Rattle.promises.specs.declared.LassoVerdict.{LassoVerdict}
use Rattle.promises.specs.declared.LassoVerdict.TheVariants.{Decided, Refused as Not-decided}

-- document 01's number, input and place of an answer
abbrev pub written_verdict : Written → Verdict
written_verdict (Rule end) = passed
written_verdict (Not-written refusal input place) = refused refusal input place

abbrev pub decided_verdict : LassoVerdict → Verdict
decided_verdict (Decided grade turns) = passed
decided_verdict (Not-decided refusal input place) = refused refusal input place

-- what holds of the rule's end; a refusal keeps every byte of out
abbrev pub WrittenAnswer : (ℕ → Type 0) → List ℕ → List ℕ → Written → Type 0
WrittenAnswer Made before after (Rule end) = Made end
WrittenAnswer Made before after (Not-written refusal input place) = after ≡ before

-- "Lasso and follower verdicts give the grade" (Job 12), and the turns of a cycle "whether or not the lasso is accepted" (Job 6)
abbrev pub DecidedAnswer : (ℕ → Type 0) → (ℕ → Type 0) → LassoVerdict → Type 0
DecidedAnswer GradeIs TurnsAre (Decided grade turns) = GradeIs grade × TurnsAre turns
DecidedAnswer GradeIs TurnsAre (Not-decided refusal input place) = Unit {0}
