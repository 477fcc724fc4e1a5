-- A rule of first letters or of a constant is smallest as it is written: it is the reduction of its formula. Assumes nothing.
use Prim.Native.Nat.{ℕ, ◌+◌, ◌*◌, ◌≤◌}
use mathlib.Core.Path.{◌≡◌}
use mathlib.Core.Logic.{◌↔◌, ⊎_elim}
use mathlib.Core.List.{List}
use native.Mathlib.Omega.{arith}
use lib.ListN.{length}
use Rattle.answer.specs.Checks.{passed, Passes}
use Rattle.answer.proofs.Order.{first_passes, none_left}
use Rattle.answer.proofs.Verdicts.{not_passed}
use Rattle.theory.specs.Rules.{Rule}
use Rattle.temporal.specs.Formulas.{Formula, first_letter, constant, Means}
use Rattle.formats.specs.RuleChecks.{rule_size}
use Rattle.formats.proofs.Buffers.{buffer_long}
use Rattle.board_promises.specs.Boards.{file_at}
use Rattle.promises.specs.declared.Written.{Written}
use Rattle.promises.specs.declared.Written.TheVariants.{Rule as Is-rule, Refused}
use Rattle.promises.specs.Answers.{written_verdict}
use Rattle.temporal_promises.specs.Formed.{FormedAnswer}
use Rattle.temporal_promises.specs.FirstLetter.{in_set, letter_count_check, grade_check, first_letter_checks, constant_checks, SmallestFor, FirstLetterHas, ConstantHas, FirstLetterPromise, ConstantPromise}
use Rattle.formula_slots.specs.Slots.{ReductionFile}
use Rattle.formula_slots.specs.Kept.{OthersKept}
use Rattle.formula_slots.proofs.Files.{written_file}
use Rattle.formula_slots.proofs.Places.{lent_part, lent_back, lent_length, lent_read, lent_kept}
use Rattle.formula_makings.proofs.Checked.{none_refused}
use Rattle.formula_pushes.specs.Pushes.{RuleNeeds, KnownLetters, SetFile, ConstantFile}

-- another way to say the meaning
smallest_alike : {letters : ℕ} {Has Has' : ℕ → List ℕ → List ℕ → Type 0} {x : Rule} → ((h : ℕ) (u v : List ℕ) → Has h u v ↔ Has' h u v) → SmallestFor letters Has x → SmallestFor letters Has' x
smallest_alike alike p = record {
  same_letters = p.same_letters;
  grades = λ h some u v l.
      let a = p.grades h some u v l in
      let b = alike h u v in
      (λ k. b.0 (a.0 k), λ k. a.1 (b.1 k));
  smallest = p.smallest;
  numbered = p.numbered;
  marks = p.marks;
}

module _ {letters grade : ℕ} (needs : RuleNeeds letters grade) where
  letters_pass : Passes (letter_count_check letters)
  letters_pass = record { nowhere = λ place a. ⊎_elim (λ l. omega (arith, needs.letters_some)) (λ l. omega (arith, needs.letters_few)) a.outside }

  grade_passes : Passes (grade_check grade)
  grade_passes = record { nowhere = λ place a. omega (arith, a.above, needs.small_grade) }

  -- a smallest rule that was written to a slot
  module _ (stack : List ℕ) (slot : ℕ) (room : rule_size * slot + rule_size ≤ length stack) where
    smallest_placed : (Has : ℕ → List ℕ → List ℕ → Type 0) (f : Formula) (new : List ℕ) → ((h : ℕ) (u v : List ℕ) → Has h u v ↔ Means letters f h u v) → (answer : Written)
        → FormedAnswer (SmallestFor letters Has) (lent_part stack slot) new answer → written_verdict answer ≡ passed → ReductionFile letters f (file_at (lent_back stack slot new) slot)
    smallest_placed Has f new alike (Is-rule end) w e = written_file w.rule (smallest_alike alike w.makes) w.written (lent_read stack slot room w.written)
    smallest_placed Has f new alike (Refused refusal input place) w e = absurd (not_passed e)

    set_made : {set : ℕ} {new : List ℕ} → KnownLetters letters set → (answer : Written) → FirstLetterPromise letters set grade (lent_part stack slot) new answer
        → SetFile letters set grade (file_at (lent_back stack slot new) slot)
    unfolding Means
    set_made {set} {new} known answer promise = record {
      made = λ g small e.
          smallest_placed (FirstLetterHas set grade) (first_letter (in_set set) g small) new (λ h u v. (λ k. (k.0, omega (arith, k.1)), λ k. (k.0, omega (arith, k.1)))) answer promise.answered
          (none_refused (first_letter_checks letters set grade (lent_part stack slot))
          (buffer_long (omega (arith, lent_length stack slot room)) (first_passes letters_pass (first_passes grade_passes
          (first_passes (record { nowhere = λ place a. known.known place a.foreign a.is_in_set }) none_left)))) promise.refusal);
    }

    constant_made : {new : List ℕ} (answer : Written) → ConstantPromise letters grade (lent_part stack slot) new answer → ConstantFile letters grade (file_at (lent_back stack slot new) slot)
    unfolding Means
    constant_made {new} answer promise = record {
      made = λ g small e.
          smallest_placed (ConstantHas grade) (constant g small) new (λ h u v. (λ k. omega arith, λ k. omega arith)) answer promise.answered
          (none_refused (constant_checks letters grade (lent_part stack slot))
          (buffer_long (omega (arith, lent_length stack slot room)) (first_passes letters_pass (first_passes grade_passes none_left))) promise.refusal);
    }

    -- and the other slots are kept
    module _ {new : List ℕ} (same : length new ≡ length (lent_part stack slot)) where
      pub set_pushed : {set : ℕ} → KnownLetters letters set → (answer : Written) → FirstLetterPromise letters set grade (lent_part stack slot) new answer
          → SetFile letters set grade (file_at (lent_back stack slot new) slot) × OthersKept slot slot stack (lent_back stack slot new)
      set_pushed known answer promise = (set_made known answer promise, lent_kept stack slot room new same)

      pub constant_pushed : (answer : Written) → ConstantPromise letters grade (lent_part stack slot) new answer
          → ConstantFile letters grade (file_at (lent_back stack slot new) slot) × OthersKept slot slot stack (lent_back stack slot new)
      constant_pushed answer promise = (constant_made answer promise, lent_kept stack slot room new same)
