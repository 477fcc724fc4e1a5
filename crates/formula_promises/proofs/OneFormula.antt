-- Two answers of `formula_rule` for the same formula and buffers are one: each check has one place, and of the smallest rules with a formula's grades only one is
-- numbered by first words. Assumes nothing.
use Prim.Native.Nat.{ℕ, zero, suc}
use mathlib.Core.Path.{◌≡◌, sym, ap, ◌∙◌, subst}
use mathlib.Core.Bool.{Bool, true, false, cond}
use mathlib.Core.List.{List, [], ◌∷◌}
use lib.ListN.{length}
use lib.Dec.{ltb}
use Rattle.answer.specs.Checks.{Check}
use Rattle.answer.proofs.Order.{AllSingle, single_nil, single_at, single_cons, single_append}
use Rattle.temporal.specs.Formulas.{Formula}
use Rattle.formats.proofs.Buffers.{buffer_single}
use Rattle.promises.specs.declared.Written.{Written}
use Rattle.temporal_promises.specs.FirstLetter.{LettersOutOfRangeAt}
use Rattle.temporal_promises.proofs.OneFormed.{OneFile, one_formed}
use Rattle.temporal_promises.proofs.OneFirstLetter.{smallest_file}
use Rattle.formula_promises.specs.Operations.{behind, height_after, stack_after, operation_at, below}
use Rattle.formula_promises.specs.Checks.{TooLongAt, NoSuchCodeAt, OperandsCutAt, GradeAboveAt, ForeignLetterAt, UnbalancedAt, NotOneAt, operation_checks, program_checks, Making, making_pairs, making_until, making_next, makings, ReductionOf, PairsTooManyAt, UntilTooManyAt, NextTooManyAt, making_checks, run_checks, lent_checks, formula_checks}
use Rattle.formula_promises.specs.FormulaRule.{FormulaOf, FormulaMade, FormulaPromise}

single_either : (b : Bool) {x y : List Check} → AllSingle x → AllSingle y → AllSingle (cond b x y)
single_either true p q = p
single_either false p q = q

operation_single : (letters : ℕ) (formula : List ℕ) (at height : ℕ) → AllSingle (operation_checks letters formula at height)
operation_single letters formula at height =
    single_cons (single_at (λ place (a : NoSuchCodeAt formula at place). a.is_place))
    (single_cons (single_at (λ place (a : OperandsCutAt formula at place). a.is_place))
    (single_cons (single_at (λ place (a : GradeAboveAt formula at place). a.is_place))
    (single_cons (single_at (λ place (a : ForeignLetterAt letters formula at place). a.is_place))
    (single_cons (single_at (λ place (a : UnbalancedAt formula at height place). a.is_place)) single_nil))))

program_single : (steps letters : ℕ) (formula : List ℕ) (at height : ℕ) → AllSingle (program_checks steps letters formula at height)
unfolding program_checks
program_single zero letters formula at height = single_nil
program_single (suc steps) letters formula at height =
    single_either (ltb at (length formula))
    (single_append (operation_single letters formula at height) (program_single steps letters formula (behind formula at) (height_after (operation_at formula at) height)))
    (single_cons (single_at (λ place (a : NotOneAt formula height place). a.is_place)) single_nil)

making_single : (letters at : ℕ) (list : List Making) → AllSingle (making_checks letters at list)
unfolding making_checks
making_single letters at [] = single_nil
making_single letters at (making_pairs f g ∷ rest) =
    single_cons (single_at (λ place (a : PairsTooManyAt letters f g at place). a.is_place)) (making_single letters at rest)
making_single letters at (making_until f g ∷ rest) =
    single_cons (single_at (λ place (a : PairsTooManyAt letters f g at place). a.is_place))
    (single_cons (single_at (λ place (a : UntilTooManyAt letters f g at place). a.is_place)) (making_single letters at rest))
making_single letters at (making_next f ∷ rest) =
    single_cons (single_at (λ place (a : NextTooManyAt letters f at place). a.is_place)) (making_single letters at rest)

run_single : (steps letters : ℕ) (formula : List ℕ) (at : ℕ) (stack : List Formula) → AllSingle (run_checks steps letters formula at stack)
unfolding run_checks
run_single zero letters formula at stack = single_nil
run_single (suc steps) letters formula at stack =
    single_either (ltb at (length formula))
    (single_append (making_single letters at (makings (operation_at formula at) stack)) (run_single steps letters formula (behind formula at) (stack_after (operation_at formula at) stack)))
    single_nil

formula_single : (letters : ℕ) (formula : List ℕ) → AllSingle (formula_checks letters formula)
formula_single letters formula =
    single_append
    (single_cons (single_at (λ place (a : LettersOutOfRangeAt letters place). a.is_place))
    (single_cons (single_at (λ place (a : TooLongAt formula place). a.is_place)) (program_single (suc (length formula)) letters formula 0 0)))
    (run_single (length formula) letters formula 0 [])

lent_single : (out stack spare classes scratch : List ℕ) → AllSingle (lent_checks out stack spare classes scratch)
lent_single out stack spare classes scratch = buffer_single (buffer_single (buffer_single (buffer_single (buffer_single single_nil))))

-- the operations leave one formula
pub same_formula : {formula : List ℕ} {f g : Formula} → FormulaOf formula f → FormulaOf formula g → f ≡ g
unfolding below
same_formula p q = ap (below 0) (sym p.alone ∙ q.alone)

pub formula_file : {letters : ℕ} {formula : List ℕ} → OneFile (FormulaMade letters formula)
formula_file {letters} = record {
  same = λ x y p q.
      smallest_file.same x y (subst (λ (f : Formula). ReductionOf letters f x) (same_formula p.formula_is q.formula_is) p.reduction) q.reduction;
}

module _ {letters : ℕ} {formula before after after' stack stack_exit stack-exit' spare spare_exit spare-exit' classes classes_exit classes-exit' entry exit exit' : List ℕ} where
  pub one_formula : (a b : Written) → FormulaPromise letters formula before after stack stack_exit spare spare_exit classes classes_exit entry exit a
      → FormulaPromise letters formula before after' stack stack-exit' spare spare-exit' classes classes-exit' entry exit' b → (a ≡ b) × (after ≡ after')
  one_formula a b p q =
      one_formed formula_file before after after' (single_append (lent_single before stack spare classes entry) (formula_single letters formula)) a b p.refusal q.refusal p.answered q.answered
