-- The refusals of `combine`, `until` and `next` for files of reductions: 19 and 23 only, and those are what the formula's checks say. Assumes nothing.
use Prim.Native.Nat.{ℕ, ◌≤◌}
use mathlib.Core.Path.{◌≡◌, refl, sym, ◌∙◌}
use mathlib.Core.List.{List, [], ◌∷◌, ◌++◌}
use native.Mathlib.Omega.{arith}
use lib.ListN.{length}
use Rattle.answer.specs.declared.Refusal.TheVariants.{TooManyPairs, TooManyClasses}
use Rattle.answer.specs.Checks.{Check, Verdict, Passes, FirstFailure}
use Rattle.temporal.specs.Formulas.{Formula}
use Rattle.formats.specs.RuleFile.{letters_of}
use Rattle.formats.specs.RuleChecks.{scratch_size, rule_size, buffer_check, rule_checks}
use Rattle.formats.specs.Calls.{checked_checks}
use Rattle.formats.proofs.Buffers.{buffer_long}
use Rattle.promises.specs.Weak.{weak_check}
use Rattle.promises.specs.Combine.{letters_check, pairs_check, combine_checks}
use Rattle.temporal_promises.specs.Next.{next_classes_check, next_checks}
use Rattle.temporal_promises.specs.Until.{until_classes_size, until_classes_check, until_checks}
use Rattle.formula_promises.specs.Checks.{PairsTooManyAt, UntilTooManyAt, NextTooManyAt}
use Rattle.formula_slots.specs.Slots.{ReductionFile}
use Rattle.formula_slots.proofs.Files.{file_rule, file_reduction}
use Rattle.formula_makings.proofs.Checked.{others_decide, after_first, StandsFor}
use Rattle.formula_makings.proofs.Rules.{reduction_reads}
use Rattle.formula_makings.proofs.Transfers.{more_next_read, more_pairs_read, many_until_read}

long_passes : {needed : ℕ} {buffer : List ℕ} → needed ≤ length buffer → Passes (buffer_check needed buffer)
long_passes h = record { nowhere = λ place s. omega (arith, s.short) }

-- one rule: its checks and 12 pass
module _ {letters : ℕ} {f : Formula} {file : List ℕ} (r : ReductionFile letters f file) where
  pub strong_passes : (input : ℕ) → Passes (weak_check input file)
  strong_passes input = record { nowhere = λ place a. a.weak (file_reduction r).smallest.strong }

  module _ {out entry : List ℕ} (long : rule_size ≤ length out) (room : scratch_size ≤ length entry) {v : Verdict} where
    -- 23 is left
    pub next_left : FirstFailure (next_checks file out entry) v → FirstFailure (next_classes_check file ∷ []) v
    next_left p =
        after_first (strong_passes 1) (others_decide (checked_checks 1 file entry) (weak_check 1 file ∷ next_classes_check file ∷ []) (buffer_long room (r.passes 1)) (after_first (long_passes long) p))

  -- 23 of the file is 23 of the formula
  pub next_stands : (at : ℕ) → StandsFor at (next_classes_check file) (record { refusal = TooManyClasses; input = 1; Fails = NextTooManyAt letters f at })
  next_stands at = record {
    same_refusal = refl;
    first_input = refl;
    fails_there = λ place a. record { rule = file_rule r; reduction = file_reduction r; more = a.more; is_place = refl };
    fails_too = λ place a. (0, record { more = more_next_read a.rule.lawful (reduction_reads r a.rule a.reduction) a.more; is_place = refl });
  }

-- two rules: the checks of both, 18 and 12 pass
module _ {letters : ℕ} {f g : Formula} {first second : List ℕ} (r : ReductionFile letters f first) (s : ReductionFile letters g second) where
  one_letters : letters_of first ≡ letters_of second
  one_letters = (file_reduction r).same_letters ∙ sym (file_reduction s).same_letters

  pairs_left : {entry : List ℕ} {rest : List Check} {v : Verdict} → scratch_size ≤ length entry
      → FirstFailure (checked_checks 1 first entry ++ (rule_checks 2 second ++ letters_check first second ∷ weak_check 1 first ∷ weak_check 2 second ∷ rest)) v → FirstFailure rest v
  pairs_left {entry} room p =
      after_first (strong_passes s 2) (after_first (strong_passes r 1) (after_first (record { nowhere = λ place a. a.differ one_letters })
      (others_decide (rule_checks 2 second) _ (s.passes 2) (others_decide (checked_checks 1 first entry) _ (buffer_long room (r.passes 1)) p))))

  module _ {out entry : List ℕ} (long : rule_size ≤ length out) (room : scratch_size ≤ length entry) {v : Verdict} where
    -- 19 is left
    pub combine_left : FirstFailure (combine_checks first second out entry) v → FirstFailure (pairs_check first second ∷ []) v
    combine_left p = pairs_left room (after_first (long_passes long) p)

    -- 19 and 23 are
    pub until_left_lem : {classes : List ℕ} → until_classes_size ≤ length classes → FirstFailure (until_checks first second out classes entry) v
        → FirstFailure (pairs_check first second ∷ until_classes_check first second ∷ []) v
    until_left_lem enough p = pairs_left room (after_first (long_passes enough) (after_first (long_passes long) p))

  -- 19 and 23 of the files are 19 and 23 of the formulas
  pub pairs_stand : (at : ℕ) → StandsFor at (pairs_check first second) (record { refusal = TooManyPairs; input = 1; Fails = PairsTooManyAt letters f g at })
  pairs_stand at = record {
    same_refusal = refl;
    first_input = refl;
    fails_there = λ place a. record {
      first = file_rule r;
      second = file_rule s;
      first_reduction = file_reduction r;
      second_reduction = file_reduction s;
      more = a.more;
      is_place = refl;
    };
    fails_too = λ place a. (
      0,
      record {
        more =
            more_pairs_read a.first.lawful a.second.lawful (reduction_reads r a.first a.first_reduction) (reduction_reads s a.second a.second_reduction)
            (a.first_reduction.same_letters ∙ sym a.second_reduction.same_letters) a.more;
        is_place = refl;
      },
    );
  }

  pub until_stands : (at : ℕ) → StandsFor at (until_classes_check first second) (record { refusal = TooManyClasses; input = 1; Fails = UntilTooManyAt letters f g at })
  until_stands at = record {
    same_refusal = refl;
    first_input = refl;
    fails_there = λ place a. record {
      first = file_rule r;
      second = file_rule s;
      first_reduction = file_reduction r;
      second_reduction = file_reduction s;
      over = a.over;
      more = a.more;
      is_place = refl;
    };
    fails_too = λ place a. (
      0,
      many_until_read a.first.lawful a.second.lawful (reduction_reads r a.first a.first_reduction) (reduction_reads s a.second a.second_reduction)
          (a.first_reduction.same_letters ∙ sym a.second_reduction.same_letters) a.over a.more,
    );
  }
