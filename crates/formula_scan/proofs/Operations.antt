-- The checks of one operation: each that fails, and where all pass. Assumes nothing.
use Prim.Native.Nat.{ℕ, ◌+◌, ◌≤◌, ◌<◌}
use mathlib.Core.Path.{◌≡◌, refl, ap, ◌∙◌, subst}
use mathlib.Core.Bool.{Bool, true, false}
use mathlib.Core.Logic.{inl, inr, ⊎_elim}
use mathlib.Core.List.{List, [], ◌∷◌}
use native.Mathlib.Omega.{arith}
use lib.ListN.{length}
use Rattle.answer.specs.declared.Refusal.{Refusal}
use Rattle.answer.specs.declared.Refusal.TheVariants.{Truncated, EntryOutOfRange, UnknownLetter, UnbalancedFormula}
use Rattle.answer.specs.Checks.{Verdict, refused, Passes, FirstFailure}
use Rattle.answer.proofs.Order.{first_passes, first_fails, none_left}
use Rattle.formula_promises.specs.Operations as defined
use Rattle.formula_promises.specs.Operations.{push_set, push_constant, push_copy, on_one, on_two, operation_at, bytes_of, asks, height_after}
use Rattle.formula_promises.specs.Checks.{highest_stack, grade_of, set_of, NoSuchCodeAt, OperandsCutAt, GradeAboveAt, ForeignLetterAt, UnbalancedAt, operation_checks}
use Rattle.formula_promises.specs.Values.{meant}
use Rattle.formula_reading.specs.declared.Reading.{Reading}
use Rattle.formula_reading.specs.Readings.{ReadingAt}
use Rattle.std.specs.Prelude.{Ok, Err}
use Rattle.formula_scan.specs.Scanning.{SomeForeign, ForeignAnswer, OperationChecked}

pub bytes_few : (o : defined.Operation) → (1 ≤ bytes_of o) × (bytes_of o ≤ 4)
unfolding bytes_of
bytes_few (push_set set grade) = omega arith
bytes_few (push_constant grade) = omega arith
bytes_few (push_copy d) = omega arith
bytes_few (on_one o) = omega arith
bytes_few (on_two o) = omega arith

-- what is read of the operation at a byte, and what its checks come to
module _ (letters height : ℕ) {formula : List ℕ} {at : ℕ} {r : Reading} (read : ReadingAt formula at r) where
  -- a refusal leads nowhere
  refused_operation : {refusal : Refusal} {place : ℕ} → FirstFailure (operation_checks letters formula at height) (refused refusal 1 place)
      → OperationChecked letters formula at height (Err (record { refusal = refusal; place = place }))
  refused_operation f = record { refusal = f; leads = λ reached e. absurd (let z : ◌≡◌ {A = ℕ} 0 1 = cc in omega arith) }

  pub no_code : 12 < r.code → OperationChecked letters formula at height (Err (record { refusal = EntryOutOfRange; place = at }))
  no_code h = refused_operation (first_fails _ (record { above = omega (arith, read.code); is_place = refl }))

  module _ (code : r.code ≤ 12) {size : ℕ} (size_is : size ≡ bytes_of (meant r.operation)) where
    pub size_at : size ≡ bytes_of (operation_at formula at)
    size_at = size_is ∙ ap bytes_of read.operation

    known : Passes (record { refusal = EntryOutOfRange; input = 1; Fails = NoSuchCodeAt formula at })
    known = record { nowhere = λ place a. omega (arith, a.above, read.code) }

    pub operands_cut : length formula < at + size → OperationChecked letters formula at height (Err (record { refusal = Truncated; place = length formula }))
    operands_cut h = refused_operation (first_passes known (first_fails _ (record { cut = omega (arith, size_at); is_place = refl })))

    module _ (whole : at + size ≤ length formula) {grade : ℕ} (grade_is : grade ≡ grade_of (meant r.operation)) where
      grade_at : grade ≡ grade_of (operation_at formula at)
      grade_at = grade_is ∙ ap grade_of read.operation

      present : Passes (record { refusal = Truncated; input = 1; Fails = OperandsCutAt formula at })
      present = record { nowhere = λ place a. omega (arith, a.cut, size_at) }

      pub grade_above : 3 < grade → OperationChecked letters formula at height (Err (record { refusal = EntryOutOfRange; place = at + 1 }))
      grade_above h =
          refused_operation (first_passes known (first_passes present (first_fails _ (record { above = omega (arith, grade_at); is_place = refl }))))

      module _ (low : grade ≤ 3) {set : ℕ} (set_is : set ≡ set_of (meant r.operation)) where
        set_at : set ≡ set_of (operation_at formula at)
        set_at = set_is ∙ ap set_of read.operation

        graded : Passes (record { refusal = EntryOutOfRange; input = 1; Fails = GradeAboveAt formula at })
        graded = record { nowhere = λ place a. omega (arith, a.above, grade_at) }

        -- the letters of the set
        module _ (b : Bool) (answer : ForeignAnswer letters set b) where
          pub foreign_letter : b ≡ true → OperationChecked letters formula at height (Err (record { refusal = UnknownLetter; place = at + 2 }))
          foreign_letter e =
              let s = subst (SomeForeign letters) set_at (subst (ForeignAnswer letters set) e answer) in
              refused_operation (first_passes known (first_passes present (first_passes graded
              (first_fails _ (record { letter = s.letter; foreign = s.foreign; is_in_set = s.is_in_set; is_place = refl })))))

          module _ (own : b ≡ false) {asked : ℕ} (asked_is : asked ≡ asks (meant r.operation)) where
            asked_at : asked ≡ asks (operation_at formula at)
            asked_at = asked_is ∙ ap asks read.operation

            lettered : Passes (record { refusal = UnknownLetter; input = 1; Fails = ForeignLetterAt letters formula at })
            lettered =
                let none = subst (λ (x : ℕ). ForeignAnswer letters x false) set_at (subst (ForeignAnswer letters set) own answer) in
                record { nowhere = λ place a. none a.letter a.foreign a.is_in_set }

            unbalanced : {v : Verdict} → FirstFailure (record { refusal = UnbalancedFormula; input = 1; Fails = UnbalancedAt formula at height } ∷ []) v
                → FirstFailure (operation_checks letters formula at height) v
            unbalanced f = first_passes known (first_passes present (first_passes graded (first_passes lettered f)))

            pub too_few : height < asked → OperationChecked letters formula at height (Err (record { refusal = UnbalancedFormula; place = at }))
            too_few h = refused_operation (unbalanced (first_fails _ (record { unbalanced = inl (omega (arith, asked_at)); is_place = refl })))

            module _ (enough : asked ≤ height) {left : ℕ} (left_is : left ≡ height_after (meant r.operation) height) where
              left_at : left ≡ height_after (operation_at formula at) height
              left_at = left_is ∙ ap (λ (p : defined.Operation). height_after p height) read.operation

              pub too_many : highest_stack < left → OperationChecked letters formula at height (Err (record { refusal = UnbalancedFormula; place = at }))
              too_many h = refused_operation (unbalanced (first_fails _ (record { unbalanced = inr (omega (arith, left_at)); is_place = refl })))

              pub all_pass : left ≤ highest_stack → OperationChecked letters formula at height (Ok (record { at = at + size; height = left }))
              all_pass few = record {
                refusal =
                    unbalanced (first_passes (record { nowhere = λ place a. ⊎_elim (λ h. omega (arith, asked_at)) (λ h. omega (arith, left_at)) a.unbalanced }) none_left);
                leads = λ reached e.
                    let n : reached.at ≡ at + size = cc in
                    let l : reached.height ≡ left = cc in
                    (n ∙ ap (λ (x : ℕ). at + x) size_at, l ∙ left_at);
              }
