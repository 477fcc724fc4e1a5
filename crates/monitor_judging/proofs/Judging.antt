-- Two values judged by a marking: where it is strong, one look in its closure decides every lasso that has them. Assumes nothing.
use Prim.Native.Nat.{ℕ, ◌≤◌, ◌<◌}
use mathlib.Core.Path.{◌≡◌, refl, sym, ap, ◌∙◌, subst}
use mathlib.Core.Bool.{Bool, true, false}
use mathlib.Core.List.{List}
use native.Mathlib.Omega.{arith}
use lib.ListN.{length, replicate}
use Rattle.answer.specs.declared.Refusal.TheVariants.{NotStrong}
use Rattle.theory.specs.Rules.{Morphism, Marking, element}
use Rattle.theory.specs.Pairs.{LeastExponent}
use Rattle.theory.specs.Grades.{StrongMarking, LassosGraded}
use Rattle.theory.proofs.Gradings.{GradedMarks}
use Rattle.theory.proofs.Strength.{settled_start, settled_cycle, settled_linked}
use Rattle.minimality.proofs.GradeOutcomes.{grading, grading_lassos}
use Rattle.scratch.specs.Map.{second_base, marks_from, MarkingAt}
use Rattle.mark_strong.specs.Deciding.{DecideNeeds, StrongIf, Decided}
use Rattle.promises.specs.declared.LassoVerdict.TheVariants.{Decided as Is-decided, Refused}
use Rattle.monitor_judging.specs.Judges.{Judges}
use Rattle.formats.specs.RuleChecks.{scratch_size}

module _ {m : Morphism} {entry : List ℕ} (place : DecideNeeds m 0 entry) {before since : ℕ} (hb : before < m.size) (hs : since < m.size)
    {mid : List ℕ} {strong : Bool} (d : Decided m entry mid strong) where
  -- the room that the look asks for
  pub look_room : scratch_size ≤ length mid
  look_room = omega (arith, place.room, d.same_length)

  -- where zeros are left over what the decision left
  zeros_left : {exit : List ℕ} → exit ≡ replicate (length mid) 0 → exit ≡ replicate (length entry) 0
  zeros_left z = z ∙ ap (λ (x : ℕ). replicate x 0) d.same_length

  -- the marks are not strong
  pub judged_weak : {exit : List ℕ} → exit ≡ replicate (length mid) 0 → strong ≡ false → Judges m before since entry exit (Refused NotStrong 1 0)
  judged_weak z e = record {
    zeros = zeros_left z;
    says = λ marks k t. (subst (StrongIf m marks) e (d.decision marks k t), refl);
  }

  -- the marks are strong, and one byte was looked at
  module _ {grade : ℕ} (look : grade ≡ marks_from mid second_base (settled_start m before since) (settled_cycle m since)) (e : strong ≡ true) where
    module _ (marks : Marking) (k : GradedMarks m marks) (t : MarkingAt m.size marks entry 0) where
      strong_marks : StrongMarking m marks
      strong_marks = subst (StrongIf m marks) e (d.decision marks k t)

      -- the byte is the closure's, so it is the grade of the values
      look_closure : grading m marks before since ≡ grade
      unfolding grading
      look_closure =
          let l = settled_linked place.lawful hb hs in
          (d.closure marks k t).same (settled_start m before since) (settled_cycle m since) l.inside l.idempotent.inside ∙ sym look

      pub look_graded : LassosGraded m marks (element before) since grade
      look_graded = subst (LassosGraded m marks (element before) since) look_closure (grading_lassos place.lawful place.reached k strong_marks hb hs)

    pub judged_decided : {turns : ℕ} → LeastExponent m since turns → {exit : List ℕ} → exit ≡ replicate (length mid) 0 → Judges m before since entry exit (Is-decided grade turns)
    judged_decided settles z = record {
      zeros = zeros_left z;
      says = λ marks k t. (strong_marks marks k t, (look_graded marks k t, settles));
    }
