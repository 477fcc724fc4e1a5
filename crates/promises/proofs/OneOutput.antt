-- Two answers with one verdict are one: rules that were written where their files are one, and verdicts on lassos where grades and turns are.
-- Assumes nothing.
use Prim.Native.Nat.{ℕ}
use mathlib.Core.Path.{◌≡◌, sym, ap, ap₂, ◌∙◌}
use mathlib.Core.List.{List}
use Rattle.answer.proofs.Verdicts.{same_refusal, not_passed}
use Rattle.formats.specs.Front.{AtFront}
use Rattle.formats.proofs.Front.{one_length, one_buffer}
use Rattle.promises.specs.declared.Written.{Written}
use Rattle.promises.specs.declared.Written.TheVariants.{Rule, Refused as Not-written}
use Rattle.promises.specs.declared.LassoVerdict.{LassoVerdict}
use Rattle.promises.specs.declared.LassoVerdict.TheVariants.{Decided, Refused as Not-decided}
use Rattle.promises.specs.Answers.{written_verdict, decided_verdict, WrittenAnswer, DecidedAnswer}

-- one file at the front of one buffer
pub one_front : {file file' before after after' : List ℕ} {r r' : ℕ} → AtFront file before after r → AtFront file' before after' r' → file' ≡ file
    → (r ≡ r') × (after ≡ after')
one_front p q e = (one_length p q e, one_buffer p q e)

module _ (Made Made' : ℕ → Type 0) (before after after' : List ℕ) (one : (r r' : ℕ) → Made r → Made' r' → (r ≡ r') × (after ≡ after')) where
  pub one_written : (a b : Written) → WrittenAnswer Made before after a → WrittenAnswer Made' before after' b → written_verdict a ≡ written_verdict b
      → (a ≡ b) × (after ≡ after')
  one_written (Rule r) (Rule r') p q e = (ap Rule (one r r' p q).0, (one r r' p q).1)
  one_written (Rule r) (Not-written k i place) p q e = absurd (not_passed (sym e))
  one_written (Not-written k i place) (Rule r) p q e = absurd (not_passed e)
  one_written (Not-written k i place) (Not-written k' i' place') p q e = (same_refusal Not-written k k' i i' place place' e, p ∙ sym q)

module _ (GradeIs TurnsAre : ℕ → Type 0) (one_grade : (a b : ℕ) → GradeIs a → GradeIs b → a ≡ b) (one_turns : (a b : ℕ) → TurnsAre a → TurnsAre b → a ≡ b) where
  pub one_decided : (a b : LassoVerdict) → DecidedAnswer GradeIs TurnsAre a → DecidedAnswer GradeIs TurnsAre b → decided_verdict a ≡ decided_verdict b → a ≡ b
  one_decided (Decided g t) (Decided g' t') p q e = ap₂ Decided (one_grade g g' p.0 q.0) (one_turns t t' p.1 q.1)
  one_decided (Decided g t) (Not-decided r i place) p q e = absurd (not_passed (sym e))
  one_decided (Not-decided r i place) (Decided g t) p q e = absurd (not_passed e)
  one_decided (Not-decided r i place) (Not-decided r' i' place') p q e = same_refusal Not-decided r r' i i' place place' e
