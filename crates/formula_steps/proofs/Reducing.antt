-- A strong rule for a formula, reduced into a slot: the slot has the formula's reduction. Assumes nothing.
use Prim.Native.Nat.{ℕ, ◌+◌, ◌*◌, ◌≤◌}
use mathlib.Core.Path.{◌≡◌, sym, ◌∙◌, subst}
use mathlib.Core.List.{List}
use native.Mathlib.Omega.{arith}
use lib.ListN.{length}
use Rattle.answer.specs.Checks.{passed}
use Rattle.answer.proofs.Verdicts.{not_passed}
use Rattle.theory.specs.Words.{Lasso}
use Rattle.temporal.specs.Formulas.{Formula}
use Rattle.formats.specs.RuleChecks.{scratch_size, rule_size}
use Rattle.formats.proofs.Buffers.{buffer_long}
use Rattle.board_promises.specs.Boards.{file_at}
use Rattle.promises.specs.declared.Written.{Written}
use Rattle.promises.specs.declared.Written.TheVariants.{Rule as Is-rule, Refused}
use Rattle.promises.specs.Answers.{written_verdict}
use Rattle.promises.specs.Reduce.{reduce_checks, ReducedTo, ReducedAnswer, ReducePromise}
use Rattle.promises.proofs.ReduceOrder.{none_fails}
use Rattle.temporal_promises.specs.Until.{until_classes_size}
use Rattle.formula_promises.specs.Checks.{ReductionOf}
use Rattle.formula_slots.specs.Slots.{ReductionFile}
use Rattle.formula_slots.specs.Kept.{OthersKept}
use Rattle.formula_slots.proofs.Files.{written_file}
use Rattle.formula_slots.proofs.Places.{lent_part, lent_back, lent_length, lent_read, lent_kept}
use Rattle.formula_makings.specs.Makings.{FormulaFile}
use Rattle.formula_makings.proofs.Checked.{none_refused}
use Rattle.formula_steps.specs.Steps.{ReducedInto}

-- the reduction of a strong rule for a formula is the formula's
module _ {letters : ℕ} {f : Formula} {bytes before after map map_after : List ℕ} {end : ℕ} (q : FormulaFile letters f bytes) (t : ReducedTo bytes before after map map_after end) where
  reduction_for : ReductionOf letters f t.reduced
  reduction_for =
      let same = t.reduction.same in
      record {
        same_letters = sym same.same_letters ∙ q.same_letters;
        grades = λ h some u v l.
            let a = q.grades h some u v l in
            let b = same.both_or_neither h some u v (subst (λ (n : ℕ). Lasso n u v) (sym q.same_letters) l) in
            (λ x. a.0 (b.1 x), λ x. b.0 (a.1 x));
        smallest = t.reduction.smallest;
        numbered = t.numbered;
        marks = t.reduction.marks;
      }

-- the slot is lent to be written
module _ (stack : List ℕ) {spare bytes new classes classes_exit entry exit : List ℕ} {slot : ℕ} (room : rule_size * slot + rule_size ≤ length stack) (map_room : until_classes_size ≤ length classes)
    (scratch_room : scratch_size ≤ length entry) where
  reduced_into : bytes ≡ file_at spare 0 → (answer : Written) → ReducePromise bytes (lent_part stack slot) new classes classes_exit entry exit answer
      → ReducedInto slot spare (lent_back stack slot new)
  reduced_into e answer promise = record {
    reduced = λ letters f q.
        let own = subst (FormulaFile letters f) (sym e) q in
        let part = lent_part stack slot in
        go letters f own answer promise.answered
        (none_refused (reduce_checks bytes part classes entry)
        (none_fails bytes part classes entry (omega (arith, lent_length stack slot room)) (omega arith) (buffer_long scratch_room (own.passes 1)) own.strong) promise.refusal);
  }
    where
      go : (letters : ℕ) (f : Formula) → FormulaFile letters f bytes → (answer : Written) → ReducedAnswer bytes (lent_part stack slot) new classes classes_exit answer
          → written_verdict answer ≡ passed → ReductionFile letters f (file_at (lent_back stack slot new) slot)
      go letters f q (Is-rule end) t passes = written_file t.reduced (reduction_for q t) t.written (lent_read stack slot room t.written)
      go letters f q (Refused refusal input place) t passes = absurd (not_passed passes)

  pub into_slot : bytes ≡ file_at spare 0 → length new ≡ length (lent_part stack slot) → (answer : Written) → ReducePromise bytes (lent_part stack slot) new classes classes_exit entry exit answer
      → ReducedInto slot spare (lent_back stack slot new) × OthersKept slot slot stack (lent_back stack slot new)
  into_slot e same answer promise = (reduced_into e answer promise, lent_kept stack slot room new same)
