-- The run over the operations: from one to the next, and at the end. Assumes nothing.
use Prim.Native.Nat.{ℕ, zero, suc, ◌+◌, ◌-◌, ◌≤◌, ◌<◌}
use mathlib.Core.Path.{◌≡◌, refl, sym, ap, ◌∙◌, subst}
use mathlib.Core.Bool.{true, false}
use mathlib.Core.Logic.{by_cases}
use mathlib.Core.List.{List, [], ◌∷◌, ◌++◌}
use native.Mathlib.Omega.{arith}
use native.Mathlib.Decide.{ℕ_discrete}
use borrow.Author.Tests.{lt-ltb, le-ltb}
use lib.ListN.{length}
use Rattle.answer.specs.declared.Refusal.{Refusal}
use Rattle.answer.specs.Checks.{Check, Verdict, passed, refused, FirstFailure}
use Rattle.answer.proofs.Order.{none_left, refused_before, passed_before, passed_first, passed_last, passes_head, passes_tail}
use Rattle.temporal.specs.Formulas.{Formula}
use Rattle.formula_promises.specs.Operations.{Operation, operation_at, bytes_of, behind, height_after, stack_after, stack_from, stack_at_end}
use Rattle.formula_promises.specs.Checks.{highest_stack, makings, making_checks, operation_checks, program_checks, run_checks, scan_checks}
use Rattle.formula_slots.specs.Slots.{Standing, none_stands}
use Rattle.formula_slots.proofs.Stands.{standing_top}
use Rattle.formula_promises.specs.Values.{meant}
use Rattle.formula_reading.specs.declared.Reading.{Reading}
use Rattle.formula_reading.specs.Readings.{ReadingAt}
use Rattle.std.specs.Prelude.{Result, Ok, Err, IsOk}
use Rattle.formula_operations.specs.Applying.{applied_verdict, OperationApplied}
use Rattle.formula_scan.proofs.Operations.{bytes_few}
use Rattle.formula_scan.proofs.Passing.{program_on, program_ends, passed_within, passed_few}
use Rattle.formula_run.specs.Running.{FormulaStands, FormulaRan}
use Rattle.formula_run.proofs.Needs.{passed_enough, stack_counted}

-- an operation that was carried out passed its checks
ok_passed : {checks : List Check} (at : ℕ) (answer : Result Unit Refusal) → IsOk answer → FirstFailure checks (applied_verdict at answer) → FirstFailure checks passed
ok_passed at (Ok done) ok f = f
ok_passed at (Err refusal) ok f = absurd (let z : false ≡ true = ok in cc)

pub not_refused : (answer : Result Unit Refusal) → ((refusal : Refusal) → answer ≡ Err refusal → ⊥) → IsOk answer
not_refused (Ok done) n = refl
not_refused (Err refusal) n = absurd (n refusal refl)

-- what is left to be made from a byte on, and the formulas at the end
module _ (letters : ℕ) (formula : List ℕ) (at : ℕ) (stack : List Formula) (steps : ℕ) where
  run_on : at < length formula
      → run_checks (suc steps) letters formula at stack
      ≡ making_checks letters at (makings (operation_at formula at) stack) ++ run_checks steps letters formula (behind formula at) (stack_after (operation_at formula at) stack)
  unfolding run_checks
  run_on h = simp (lt-ltb at (length formula) h)

  stack_on : at < length formula → stack_from (suc steps) formula at stack ≡ stack_from steps formula (behind formula at) (stack_after (operation_at formula at) stack)
  unfolding stack_from
  stack_on h = simp (lt-ltb at (length formula) h)

run_ends : (letters : ℕ) (formula : List ℕ) (at : ℕ) (stack : List Formula) (steps : ℕ) → length formula ≤ at → run_checks steps letters formula at stack ≡ []
unfolding run_checks
run_ends letters formula at stack zero h = refl
run_ends letters formula at stack (suc steps) h = simp (le-ltb at (length formula) h)

stack_ends : (formula : List ℕ) (at : ℕ) (stack : List Formula) (steps : ℕ) → length formula ≤ at → stack_from steps formula at stack ≡ stack
unfolding stack_from
stack_ends formula at stack zero h = refl
stack_ends formula at stack (suc steps) h = simp (le-ltb at (length formula) h)

-- the formulas that stand, the checks that passed from here on, and that the verdict and the formulas at the end are those of all bytes
pub record Running (letters : ℕ) (formula stack : List ℕ) (at height : ℕ) : Type 0 where
  pub formulas : List Formula
  pub counted : length formulas ≡ height
  pub standing : Standing letters stack formulas
  pub steps : ℕ
  pub enough : length formula ≤ at + steps
  pub within : at ≤ length formula
  pub few : height ≤ highest_stack
  pub scanned : FirstFailure (program_checks (suc steps) letters formula at height) passed
  pub whole : (v : Verdict) → FirstFailure (run_checks steps letters formula at formulas) v → FirstFailure (run_checks (length formula) letters formula 0 []) v
  pub at_end : stack_from steps formula at formulas ≡ stack_at_end formula

pub running_start : {letters : ℕ} {formula stack : List ℕ} → FirstFailure (scan_checks letters formula) passed → Running letters formula stack 0 0
running_start {formula = formula} f = record {
  formulas = [];
  counted = refl;
  standing = none_stands;
  steps = length formula;
  enough = omega arith;
  within = omega arith;
  few = omega arith;
  scanned = passes_tail (passes_tail f);
  whole = λ v g. g;
  at_end = refl;
}

module _ {letters : ℕ} {formula stack : List ℕ} {at height : ℕ} (m : Running letters formula stack at height) where
  -- an operation more
  module _ (h : at < length formula) where
    both_passed : FirstFailure (operation_checks letters formula at height ++ program_checks m.steps letters formula (behind formula at) (height_after (operation_at formula at) height)) passed
    both_passed = subst (λ (checks : List Check). FirstFailure checks passed) (program_on letters formula at height m.steps h) m.scanned

    pub operation_passed : FirstFailure (operation_checks letters formula at height) passed
    operation_passed = passed_first _ _ both_passed

    last_step : suc (m.steps - 1) ≡ m.steps
    last_step = omega (arith, m.enough)

    making_whole : (v : Verdict)
        → FirstFailure (making_checks letters at (makings (operation_at formula at) m.formulas) ++ run_checks (m.steps - 1) letters formula (behind formula at) (stack_after (operation_at formula at) m.formulas)) v
        → FirstFailure (run_checks (length formula) letters formula 0 []) v
    making_whole v f =
        m.whole v (subst (λ (n : ℕ). FirstFailure (run_checks n letters formula at m.formulas) v) last_step
        (subst (λ (checks : List Check). FirstFailure checks v) (sym (run_on letters formula at m.formulas (m.steps - 1) h)) f))

    module _ {exit : List ℕ} {answer : Result Unit Refusal} {r : Reading} (read : ReadingAt formula at r)
        (applied : OperationApplied letters (meant r.operation) height stack exit answer) where
      is_operation : OperationApplied letters (operation_at formula at) height stack exit answer
      is_operation = subst (λ (o : Operation). OperationApplied letters o height stack exit answer) read.operation applied

      making_decided : FirstFailure (making_checks letters at (makings (operation_at formula at) m.formulas)) (applied_verdict at answer)
      making_decided = is_operation.checked m.formulas m.counted m.standing at

      pub running_refused : {refusal : Refusal} → answer ≡ Err refusal → FormulaRan letters formula exit (Err (record { refusal = refusal; place = at }))
      running_refused {refusal} e = record {
        refusal =
            making_whole (refused refusal 1 at) (refused_before _ _
            (subst (λ (a : Result Unit Refusal). FirstFailure (making_checks letters at (makings (operation_at formula at) m.formulas)) (applied_verdict at a)) e making_decided));
        stands = λ done. absurd (let z : false ≡ true = done in cc);
      }

      -- the operation's bytes
      module _ {size : ℕ} (size_is : size ≡ bytes_of (meant r.operation)) where
        size_at : size ≡ bytes_of (operation_at formula at)
        size_at = size_is ∙ ap bytes_of read.operation

        pub size_some : 1 ≤ size
        size_some = omega (arith, size_at, (bytes_few (operation_at formula at)).0)

        pub size_within : at + size ≤ length formula
        size_within = omega (arith, size_at, passed_within operation_passed)

        pub running_next : {left : ℕ} → left ≡ height_after (meant r.operation) height → IsOk answer → Running letters formula exit (at + size) left
        running_next {left} left_is ok =
            let place : behind formula at ≡ at + size = ap (λ (n : ℕ). at + n) (sym size_at) in
            let left_at : left ≡ height_after (operation_at formula at) height = left_is ∙ ap (λ (o : Operation). height_after o height) read.operation in
            let rules : height_after (operation_at formula at) height ≡ left = sym left_at in
            let n = m.steps - 1 in
            let after = stack_after (operation_at formula at) m.formulas in
            record {
              formulas = after;
              counted = stack_counted (operation_at formula at) m.formulas m.counted (passed_enough operation_passed) ∙ rules;
              standing = is_operation.stands ok m.formulas m.counted m.standing;
              steps = n;
              enough = omega (arith, m.enough, size_some);
              within = size_within;
              few = omega (arith, left_at, passed_few operation_passed);
              scanned =
                  subst (λ (x : ℕ). FirstFailure (program_checks (suc n) letters formula (at + size) x) passed) rules
                  (subst (λ (x : ℕ). FirstFailure (program_checks (suc n) letters formula x (height_after (operation_at formula at) height)) passed) place
                  (subst (λ (x : ℕ). FirstFailure (program_checks x letters formula (behind formula at) (height_after (operation_at formula at) height)) passed) (sym last_step)
                  (passed_last (operation_checks letters formula at height) _ both_passed)));
              whole = λ v g.
                  making_whole v (passed_before _ _
                  (ok_passed at answer ok making_decided)
                  (subst (λ (x : ℕ). FirstFailure (run_checks n letters formula x after) v) (sym place) g));
              at_end =
                  ap (λ (x : ℕ). stack_from n formula x after) (sym place) ∙ sym (stack_on letters formula at m.formulas n h)
                  ∙ ap (λ (x : ℕ). stack_from x formula at m.formulas) last_step ∙ m.at_end;
            }

  -- at the end
  module _ (h : length formula ≤ at) where
    one_left : height ≡ 1
    one_left =
        by_cases (ℕ_discrete height 1) (λ (e : height ≡ 1). e)
        (λ other. absurd ((passes_head (subst (λ (checks : List Check). FirstFailure checks passed) (program_ends letters formula at height m.steps h) m.scanned)).nowhere (length formula) (record { not_one = other; is_place = refl })))

    stands_alone : (list : List Formula) → list ≡ m.formulas → length list ≡ 1 → Standing letters stack list → FormulaStands letters formula stack
    stands_alone [] e l s = absurd (let z : ⊥ = omega arith in z)
    stands_alone (f ∷ []) e l s = record {
      meaning = f;
      formula_is = record { alone = sym m.at_end ∙ stack_ends formula at m.formulas m.steps h ∙ sym e };
      file = standing_top s;
    }
    stands_alone (g ∷ f ∷ rest) e l s = absurd (let z : ⊥ = omega arith in z)

    pub running_done : FormulaRan letters formula stack (Ok tt)
    running_done = record {
      refusal = m.whole passed (subst (λ (checks : List Check). FirstFailure checks passed) (sym (run_ends letters formula at m.formulas m.steps h)) none_left);
      stands = λ done. stands_alone m.formulas refl (m.counted ∙ one_left) m.standing;
    }
