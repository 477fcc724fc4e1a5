-- The derived operations but weak until, from the steps that they are made of. Assumes nothing.
use Prim.Native.Nat.{ℕ, ◌<◌}
use native.Mathlib.Nat.{le_refl}
use mathlib.Core.Path.{◌≡◌, refl}
use mathlib.Core.List.{List}
use native.Mathlib.Omega.{arith}
use Rattle.temporal.specs.Formulas.{Formula, negation, until, eventually}
use Rattle.board_promises.specs.Boards.{file_at}
use Rattle.promises.specs.declared.Written.{Written}
use Rattle.formula_promises.specs.Operations.{op_until, op_eventually, op_always, op_release, made_of_one, made_of_two}
use Rattle.formula_promises.specs.Checks.{Making, proper, makings_of_one, makings_of_two}
use Rattle.formula_slots.specs.Slots.{ReductionFile}
use Rattle.formula_slots.specs.Kept.{OthersKept}
use Rattle.formula_makings.specs.Makings.{Made}
use Rattle.formula_pushes.specs.Pushes.{ConstantFile}
use Rattle.formula_steps.specs.Steps.{PassedOn, Negated, OneStep, TwoStep}
use Rattle.formula_steps.proofs.Stepping.{made_on}
use Rattle.formula_derived.specs.Derived.{BothNegated, EventuallyNot, UntilNegated}
use Rattle.formula_derived.proofs.Keeping.{file_kept}

-- a negation of what was made
then_negated : {slot : ℕ} {entry exit : List ℕ} {letters : ℕ} {makings : List Making} (f : Formula) {made answer : Written} → Made letters makings (ReductionFile letters f (file_at entry slot)) made
    → PassedOn (Negated slot entry exit) made answer → Made letters makings (ReductionFile letters (negation f) (file_at exit slot)) answer
then_negated {slot} {entry} {exit} {letters} f m p = made_on (λ (n : Negated slot entry exit) r. n.made letters f r) m p

-- ---- eventually and always

module _ {letters slot : ℕ} {entry mid exit : List ℕ} where
  pub eventually_step : {free : ℕ} → slot < free → ConstantFile letters 3 (file_at mid free) → OthersKept free free entry mid → {answer : Written}
      → ((k : ℕ) → TwoStep k op_until free slot slot mid exit answer) → OneStep letters op_eventually slot entry exit answer
  unfolding makings_of_one makings_of_two made_of_one made_of_two
  eventually_step {free} lower constant kept step = record {
    made = λ f r.
        let apart : slot ≡ free → ⊥ = λ e. omega arith in
        (step letters).made proper f (constant.made 3 (le_refl 3) refl) (file_kept slot apart apart kept r);
  }

  pub eventually_not_step : Negated slot entry mid → {answer : Written} → OneStep letters op_eventually slot mid exit answer → EventuallyNot letters slot entry exit answer
  unfolding makings_of_one made_of_one
  eventually_not_step n step = record { made = λ f r. step.made (negation f) (n.made letters f r) }

  pub always_step : {made answer : Written} → EventuallyNot letters slot entry mid made → PassedOn (Negated slot mid exit) made answer → OneStep letters op_always slot entry exit answer
  unfolding made_of_one
  always_step e n = record { made = λ f r. then_negated (eventually (negation f)) (e.made f r) n }

-- ---- release

module _ {first second : ℕ} {entry mid exit : List ℕ} where
  pub both_negated : first < second → Negated first entry mid → OthersKept first first entry mid → Negated second mid exit → OthersKept second second mid exit → BothNegated first second entry exit
  both_negated lower n k n' k' =
      let apart : first ≡ second → ⊥ = λ e. omega arith in
      let back : second ≡ first → ⊥ = λ e. omega arith in
      record {
        first_made = λ letters f r. file_kept first apart apart k' (n.made letters f r);
        second_made = λ letters f r. n'.made letters f (file_kept second back back k r);
      }

  pub until_negated_step : BothNegated first second entry mid → {answer : Written} → ((letters : ℕ) → TwoStep letters op_until first second first mid exit answer)
      → (letters : ℕ) → UntilNegated letters first second entry exit answer
  unfolding makings_of_two made_of_two
  until_negated_step n step letters = record { made = λ f g r s. (step letters).made (negation f) (negation g) (n.first_made letters f r) (n.second_made letters g s) }

  pub release_step : {made answer : Written} → ((letters : ℕ) → UntilNegated letters first second entry mid made) → PassedOn (Negated first mid exit) made answer
      → (letters : ℕ) → TwoStep letters op_release first second first entry exit answer
  unfolding made_of_two
  release_step u n letters = record { made = λ f g r s. then_negated (until (negation f) (negation g)) ((u letters).made f g r s) n }
