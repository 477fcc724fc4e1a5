-- What the library's answers come to for files of reductions: the file of a strong rule for the formula made of theirs, or 19 or 23 as the formula's checks have
-- them. Assumes nothing.
use Prim.Native.Nat.{ℕ, ◌≤◌}
use mathlib.Core.Path.{◌≡◌, ◌∙◌, subst, subst₂}
use mathlib.Core.List.{List, [], ◌∷◌}
use lib.ListN.{length}
use Rattle.answer.specs.Checks.{passed, FirstFailure}
use Rattle.answer.proofs.Verdicts.{not_passed}
use Rattle.temporal.specs.Formulas.{Formula, negation}
use Rattle.formats.specs.RuleChecks.{scratch_size, rule_size}
use Rattle.formats.proofs.Buffers.{buffer_long}
use Rattle.board_promises.specs.Boards.{file_at}
use Rattle.promises.specs.declared.Operation.{Operation}
use Rattle.promises.specs.declared.Operation.TheVariants.{Both, Either, Without}
use Rattle.promises.specs.declared.Written.{Written}
use Rattle.promises.specs.declared.Written.TheVariants.{Rule as Is-rule, Refused}
use Rattle.promises.specs.Answers.{written_verdict, WrittenAnswer}
use Rattle.promises.specs.Combine.{CombinedTo, CombinePromise}
use Rattle.promises.specs.Complement.{complement_checks, ComplementWritten, ComplementPromise}
use Rattle.promises.proofs.ComplementOrder.{none_fails}
use Rattle.temporal_promises.specs.Formed.{FormedAnswer}
use Rattle.temporal_promises.specs.Next.{NextMade, NextPromise}
use Rattle.temporal_promises.specs.Until.{until_classes_size, UntilMade, UntilPromise}
use Rattle.formula_promises.specs.Operations.{op_next, op_until, made_of_one, made_of_two}
use Rattle.formula_promises.specs.Checks.{making_pairs, makings_of_one, makings_of_two, making_checks}
use Rattle.formula_slots.specs.Slots.{ReductionFile}
use Rattle.formula_slots.proofs.Files.{file_good, file_reduction}
use Rattle.formula_makings.specs.Makings.{FormulaFile, told_at, IsWritten, two_of, ComplementMade, OneMade, TwoMade}
use Rattle.formula_makings.proofs.Checked.{none_refused, none_stand, and_stands, stands_told}
use Rattle.formula_makings.proofs.Refusals.{next_left, next_stands, combine_left, until_left_lem, pairs_stand, until_stands}
use Rattle.formula_makings.proofs.Rules.{written_formula}
use Rattle.formula_makings.proofs.Grades.{complement_means, next_means, combined_means, until_means}

-- each operation of `combine` is one making
one_check : (operation : Operation) (letters : ℕ) (f g : Formula) (at : ℕ) (answer : Written) → FirstFailure (making_checks letters at (making_pairs f g ∷ [])) (told_at at answer)
    → FirstFailure (making_checks letters at (makings_of_two (two_of operation) f g)) (told_at at answer)
unfolding makings_of_two
one_check Both letters f g at answer p = p
one_check Either letters f g at answer p = p
one_check Without letters f g at answer p = p

module _ {before after entry exit : List ℕ} (long : rule_size ≤ length before) (room : scratch_size ≤ length entry) where
  -- the complement is not refused
  complement_made : (file : List ℕ) (answer : Written) → ComplementPromise file before after entry exit answer → ComplementMade file (file_at after 0)
  complement_made file answer promise = record {
    made = λ letters f r.
        go letters f r answer promise.answered
        (none_refused (complement_checks file before entry) (none_fails file before entry long (buffer_long room (r.passes 1)) (file_reduction r).smallest.strong) promise.refusal);
  }
    where
      go : (letters : ℕ) (f : Formula) → ReductionFile letters f file → (answer : Written) → WrittenAnswer (ComplementWritten file before after) before after answer
          → written_verdict answer ≡ passed → FormulaFile letters (negation f) (file_at after 0)
      go letters f r (Is-rule end) w e =
          written_formula (record { morphism = _; lawful = (file_good r).lawful; marks = w.marks }) (file_reduction r).same_letters w.is_complement.strong
          (complement_means r w.is_complement w.written) w.written
      go letters f r (Refused refusal input place) w e = absurd (not_passed e)

  next_made : (file : List ℕ) (answer : Written) → NextPromise file before after entry exit answer → OneMade op_next file (file_at after 0) answer
  unfolding makings_of_one made_of_one making_checks
  next_made file answer promise = record {
    made = λ letters f r. record {
      checked = λ at. stands_told (and_stands (next_stands r at) none_stand) answer (next_left r long room promise.refusal);
      result = go letters f r answer promise.answered;
    };
  }
    where
      go : (letters : ℕ) (f : Formula) → ReductionFile letters f file → (answer : Written) → FormedAnswer (NextMade file) before after answer → IsWritten answer
          → FormulaFile letters (made_of_one op_next f) (file_at after 0)
      go letters f r (Is-rule end) w is =
          let n = w.makes.grades in
          written_formula w.rule (n.same_letters ∙ (file_reduction r).same_letters) w.makes.strong (next_means r n) w.written
      go letters f r (Refused _ _ _) w is = elim is [ ]

  combine_made : (first second : List ℕ) (operation : Operation) (answer : Written) → CombinePromise first second operation before after entry exit answer
      → TwoMade (two_of operation) first second (file_at after 0) answer
  unfolding making_checks
  combine_made first second operation answer promise = record {
    made = λ letters f g r s. record {
      checked = λ at. one_check operation letters f g at answer (stands_told (and_stands (pairs_stand r s at) none_stand) answer (combine_left r s long room promise.refusal));
      result = go letters f g r s answer promise.answered;
    };
  }
    where
      go : (letters : ℕ) (f g : Formula) → ReductionFile letters f first → ReductionFile letters g second → (answer : Written)
          → WrittenAnswer (CombinedTo first second operation before after) before after answer → IsWritten answer → FormulaFile letters (made_of_two (two_of operation) f g) (file_at after 0)
      go letters f g r s (Is-rule end) k is =
          written_formula k.rule (k.pairs.first_letters ∙ (file_reduction r).same_letters) k.strong (combined_means r s operation k) k.written
      go letters f g r s (Refused _ _ _) k is = elim is [ ]

  until_made : (first second : List ℕ) {classes classes_exit : List ℕ} → until_classes_size ≤ length classes → (answer : Written)
      → UntilPromise first second before after classes classes_exit entry exit answer → TwoMade op_until first second (file_at after 0) answer
  unfolding makings_of_two made_of_two making_checks
  until_made first second enough answer promise = record {
    made = λ letters f g r s. record {
      checked = λ at. stands_told (and_stands (pairs_stand r s at) (and_stands (until_stands r s at) none_stand)) answer (until_left_lem r s long room enough promise.refusal);
      result = go letters f g r s answer promise.answered;
    };
  }
    where
      go : (letters : ℕ) (f g : Formula) → ReductionFile letters f first → ReductionFile letters g second → (answer : Written) → FormedAnswer (UntilMade first second) before after answer
          → IsWritten answer → FormulaFile letters (made_of_two op_until f g) (file_at after 0)
      go letters f g r s (Is-rule end) w is =
          let n = w.makes.grades in
          written_formula w.rule (n.first_letters ∙ (file_reduction r).same_letters) w.makes.strong (until_means r s n) w.written
      go letters f g r s (Refused _ _ _) w is = elim is [ ]

  -- of the files that were read from slots
  module _ {file bytes : List ℕ} (e : bytes ≡ file) (answer : Written) where
    pub complement_asked : ComplementPromise bytes before after entry exit answer → ComplementMade file (file_at after 0)
    complement_asked promise = subst (λ (l : List ℕ). ComplementMade l (file_at after 0)) e (complement_made bytes answer promise)

    pub next_asked : NextPromise bytes before after entry exit answer → OneMade op_next file (file_at after 0) answer
    next_asked promise = subst (λ (l : List ℕ). OneMade op_next l (file_at after 0) answer) e (next_made bytes answer promise)

    module _ {file' bytes' : List ℕ} (e' : bytes' ≡ file') where
      pub combine_asked : (operation : Operation) → CombinePromise bytes bytes' operation before after entry exit answer → TwoMade (two_of operation) file file' (file_at after 0) answer
      combine_asked operation promise =
          subst₂ (λ (l l' : List ℕ). TwoMade (two_of operation) l l' (file_at after 0) answer) e e' (combine_made bytes bytes' operation answer promise)

      pub until_asked : {classes classes_exit : List ℕ} → until_classes_size ≤ length classes → UntilPromise bytes bytes' before after classes classes_exit entry exit answer
          → TwoMade op_until file file' (file_at after 0) answer
      until_asked enough promise = subst₂ (λ (l l' : List ℕ). TwoMade op_until l l' (file_at after 0) answer) e e' (until_made bytes bytes' enough answer promise)
