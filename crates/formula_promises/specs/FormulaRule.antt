-- What `formula_rule` promises: the smallest rule with the grades of a formula. Assumes nothing.
use Rattle.std.specs.Prelude.{ℕ, ◌≡◌, Bool, cond, ◌||◌, List, [], ◌∷◌, ◌++◌, length, replicate, ltb}
use Rattle.answer.specs.Checks.{FirstFailure}
use Rattle.theory.specs.Rules.{Rule}
use Rattle.temporal.specs.Formulas.{Formula}
use Rattle.formats.specs.RuleChecks.{rule_size, scratch_size}
use Rattle.promises.specs.declared.Written.{Written}
use Rattle.promises.specs.Answers.{written_verdict}
use Rattle.temporal_promises.specs.Formed.{FormedAnswer}
use Rattle.temporal_promises.specs.Until.{until_classes_size}
use Rattle.formula_promises.specs.Operations.{stack_at_end}
use Rattle.formula_promises.specs.Checks.{stack_size, ReductionOf, lent_checks, formula_checks}

-- the formula that the operations leave, alone on the stack
pub record FormulaOf (formula : List ℕ) (f : Formula) : Type 0 where
  pub alone : stack_at_end formula ≡ f ∷ []

-- "`out` holds THE reduction, in the printed order, of the formula's meaning: each lasso of every length, empty starts too, has the grade that `Means` gives by
-- each least grade from 1 to 3; smallest against every rival"
pub record FormulaMade (letters : ℕ) (formula : List ℕ) (rule : Rule) : Type 0 where
  pub meaning : Formula
  pub formula_is : FormulaOf formula meaning
  pub reduction : ReductionOf letters meaning rule

-- "All but `out` end as zeros, except after 13"
unfoldable pub some_short : List ℕ → List ℕ → List ℕ → List ℕ → List ℕ → Bool
some_short out stack spare classes scratch =
    ltb (length out) rule_size || (ltb (length stack) stack_size || (ltb (length spare) rule_size || (ltb (length classes) until_classes_size || ltb (length scratch) scratch_size)))

abbrev pub lent_left : Bool → List ℕ → List ℕ
lent_left short buffer = cond short buffer (replicate (length buffer) 0)

pub record FormulaPromise (letters : ℕ) (formula before after stack stack_exit spare spare_exit classes classes_exit entry exit : List ℕ) (answer : Written) : Type 0 where
  pub refusal : FirstFailure (lent_checks before stack spare classes entry ++ formula_checks letters formula) (written_verdict answer)
  pub answered : FormedAnswer (FormulaMade letters formula) before after answer
  pub stack_left : stack_exit ≡ lent_left (some_short before stack spare classes entry) stack
  pub spare_left : spare_exit ≡ lent_left (some_short before stack spare classes entry) spare
  pub classes_left : classes_exit ≡ lent_left (some_short before stack spare classes entry) classes
  pub scratch_at_exit : exit ≡ lent_left (some_short before stack spare classes entry) entry
