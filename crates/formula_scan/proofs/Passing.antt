-- The pass over the bytes, from an operation on to the next and at the end. Assumes nothing.
use Prim.Native.Nat.{ℕ, suc, ◌+◌, ◌-◌, ◌≤◌, ◌<◌}
use mathlib.Core.Path.{◌≡◌, refl, sym, subst}
use mathlib.Core.Logic.{inr, ⊎_elim}
use mathlib.Core.List.{List, [], ◌∷◌, ◌++◌}
use native.Mathlib.Omega.{arith}
use borrow.Author.Tests.{lt-ltb, le-ltb}
use lib.ListN.{length}
use Rattle.finite.proofs.Numbers.{le_or_lt}
use Rattle.answer.specs.declared.Refusal.TheVariants.{WordLength, UnbalancedFormula}
use Rattle.answer.specs.Checks.{Check, Verdict, passed, refused, FirstFailure}
use Rattle.answer.proofs.Order.{first_passes, first_fails, none_left, refused_before, passed_before, passes_head, passes_tail}
use Rattle.formula_promises.specs.Operations.{operation_at, behind, height_after}
use Rattle.formula_promises.specs.Checks.{highest_stack, longest_formula, length_check, NotOneAt, operation_checks, program_checks}
use Rattle.answer.specs.declared.Fault.{Fault}
use Rattle.formula_scan.specs.declared.Reached.{Reached}
use Rattle.std.specs.Prelude.{Result, Ok, Err}
use Rattle.formula_scan.specs.Scanning.{OperationChecked}
use Rattle.formula_scan.proofs.Operations.{bytes_few}

-- what there is to check from a byte on
module _ (letters : ℕ) (formula : List ℕ) (at height steps : ℕ) where
  pub program_on : at < length formula
      → program_checks (suc steps) letters formula at height
      ≡ operation_checks letters formula at height ++ program_checks steps letters formula (behind formula at) (height_after (operation_at formula at) height)
  unfolding program_checks
  program_on h = simp (lt-ltb at (length formula) h)

  pub program_ends : length formula ≤ at
      → program_checks (suc steps) letters formula at height ≡ record { refusal = UnbalancedFormula; input = 1; Fails = NotOneAt formula height } ∷ []
  unfolding program_checks
  program_ends h = simp (le-ltb at (length formula) h)

-- an operation that passes ends within the formula and leaves few rules
module _ {letters : ℕ} {formula : List ℕ} {at height : ℕ} (f : FirstFailure (operation_checks letters formula at height) passed) where
  pub passed_within : behind formula at ≤ length formula
  passed_within =
      ⊎_elim (λ h. h) (λ l. absurd ((passes_head (passes_tail f)).nowhere (length formula) (record { cut = l; is_place = refl }))) (le_or_lt (behind formula at) (length formula))

  pub passed_few : height_after (operation_at formula at) height ≤ highest_stack
  passed_few =
      ⊎_elim (λ h. h) (λ l. absurd ((passes_head (passes_tail (passes_tail (passes_tail (passes_tail f))))).nowhere at (record { unbalanced = inr l; is_place = refl })))
      (le_or_lt (height_after (operation_at formula at) height) highest_stack)

-- the verdict from a byte on is that of all bytes
pub record Remaining (letters : ℕ) (formula : List ℕ) (at height : ℕ) : Type 0 where
  pub steps : ℕ
  pub enough : length formula ≤ at + steps
  pub within : at ≤ length formula
  pub few : height ≤ highest_stack
  pub whole : (v : Verdict) → FirstFailure (program_checks (suc steps) letters formula at height) v → FirstFailure (program_checks (suc (length formula)) letters formula 0 0) v

pub remaining_start : {letters : ℕ} {formula : List ℕ} → Remaining letters formula 0 0
remaining_start {formula = formula} = record { steps = length formula; enough = omega arith; within = omega arith; few = omega arith; whole = λ v f. f }

module _ {letters : ℕ} {formula : List ℕ} {at height : ℕ} (m : Remaining letters formula at height) where
  -- an operation, and then what follows it
  operation_whole : at < length formula → (v : Verdict)
      → FirstFailure (operation_checks letters formula at height ++ program_checks m.steps letters formula (behind formula at) (height_after (operation_at formula at) height)) v
      → FirstFailure (program_checks (suc (length formula)) letters formula 0 0) v
  operation_whole h v f = m.whole v (subst (λ (checks : List Check). FirstFailure checks v) (sym (program_on letters formula at height m.steps h)) f)

  pub remaining_refused : at < length formula → {fault : Fault} {answer : Result Reached Fault} → OperationChecked letters formula at height answer → answer ≡ Err fault
      → FirstFailure (program_checks (suc (length formula)) letters formula 0 0) (refused fault.refusal 1 fault.place)
  remaining_refused h {fault} f e =
      operation_whole h (refused fault.refusal 1 fault.place) (refused_before _ _ (subst (OperationChecked letters formula at height) e f).refusal)

  module _ (h : at < length formula) {reached : Reached} {answer : Result Reached Fault} (checked : OperationChecked letters formula at height answer) (to : answer ≡ Ok reached) where
    passes : FirstFailure (operation_checks letters formula at height) passed
    passes = (subst (OperationChecked letters formula at height) to checked).refusal

    pub next_further : at < reached.at
    next_further = omega (arith, (checked.leads reached to).0, (bytes_few (operation_at formula at)).0)

    pub remaining_next : Remaining letters formula reached.at reached.height
    remaining_next =
        let place : reached.at ≡ behind formula at = (checked.leads reached to).0 in
        let rules : reached.height ≡ height_after (operation_at formula at) height = (checked.leads reached to).1 in
        let one : suc (m.steps - 1) ≡ m.steps = omega (arith, m.enough) in
        record {
          steps = m.steps - 1;
          enough = omega (arith, m.enough, next_further);
          within = omega (arith, passed_within passes);
          few = omega (arith, passed_few passes);
          whole = λ v g.
              operation_whole h v (passed_before _ _ passes
              (subst (λ (n : ℕ). FirstFailure (program_checks m.steps letters formula (behind formula at) n) v) rules
              (subst (λ (n : ℕ). FirstFailure (program_checks m.steps letters formula n reached.height) v) place
              (subst (λ (n : ℕ). FirstFailure (program_checks n letters formula reached.at reached.height) v) one g))));
        }

  -- at the end
  end_whole : length formula ≤ at → (v : Verdict) → FirstFailure (record { refusal = UnbalancedFormula; input = 1; Fails = NotOneAt formula height } ∷ []) v
      → FirstFailure (program_checks (suc (length formula)) letters formula 0 0) v
  end_whole h v f = m.whole v (subst (λ (checks : List Check). FirstFailure checks v) (sym (program_ends letters formula at height m.steps h)) f)

  pub remaining_one : length formula ≤ at → height ≡ 1 → FirstFailure (program_checks (suc (length formula)) letters formula 0 0) passed
  remaining_one h e = end_whole h passed (first_passes (record { nowhere = λ place a. a.not_one e }) none_left)

  pub remaining_other : length formula ≤ at → (height ≡ 1 → ⊥) → FirstFailure (program_checks (suc (length formula)) letters formula 0 0) (refused UnbalancedFormula 1 (length formula))
  remaining_other h f = end_whole h (refused UnbalancedFormula 1 (length formula)) (first_fails _ (record { not_one = f; is_place = refl }))

-- ---- before the operations

module _ {formula : List ℕ} {checks : List Check} where
  pub too_long : longest_formula < length formula → FirstFailure (length_check formula ∷ checks) (refused WordLength 1 0)
  too_long h = first_fails (length_check formula) (record { longer = h; is_place = refl })

  pub length_passes : length formula ≤ longest_formula → {v : Verdict} → FirstFailure checks v → FirstFailure (length_check formula ∷ checks) v
  length_passes h = first_passes (record { nowhere = λ place a. omega (arith, a.longer) })
