-- The theorem on whole formulas: one answer for each input, and equal print exactly for equal meaning. Assumes nothing.
use Rattle.std.specs.Prelude.{ℕ, ◌≤◌, ◌≡◌, ◌↔◌, List}
use Rattle.theory.specs.Words.{Lasso}
use Rattle.temporal.specs.Formulas.{Formula, Means}
use Rattle.formats.specs.Front.{AtFront}
use Rattle.promises.specs.OneAnswers.{OneAnswer}
use Rattle.promises.specs.declared.Written.{Written}
use Rattle.promises.specs.declared.Written.TheVariants.{Rule as Is-rule}
use Rattle.formula_promises.specs.FormulaRule.{FormulaOf, FormulaPromise}

-- two formulas "mean the same on every lasso"
pub record SameMeaning (letters : ℕ) (f g : Formula) : Type 0 where
  pub same : (h : ℕ) → 1 ≤ h → (u v : List ℕ) → Lasso letters u v → Means letters f h u v ↔ Means letters g h u v

-- some buffers, and an answer that the promise allows for them: the file stands at the front of out
pub record FormulaPrints (letters : ℕ) (formula file : List ℕ) : Type 0 where
  pub before : List ℕ
  pub after : List ℕ
  pub stack : List ℕ
  pub stack_exit : List ℕ
  pub spare : List ℕ
  pub spare_exit : List ℕ
  pub classes : List ℕ
  pub classes_exit : List ℕ
  pub entry : List ℕ
  pub exit : List ℕ
  pub end : ℕ
  pub promised : FormulaPromise letters formula before after stack stack_exit spare spare_exit classes classes_exit entry exit (Is-rule end)
  pub printed : AtFront file before after end

pub record FormulasTheorem : Type 0 where
  pub one_answer : (letters : ℕ) (formula out stack spare classes entry : List ℕ)
      → OneAnswer
      (λ (left : List ℕ × (List ℕ × (List ℕ × (List ℕ × List ℕ)))) (answer : Written).
      FormulaPromise letters formula out left.0 stack left.1.0 spare left.1.1.0 classes left.1.1.1.0 entry left.1.1.1.1 answer)
  -- "two formulas over the same letters that are both answered are written byte for byte alike exactly if they mean the same on every lasso"
  pub equal : (letters : ℕ) (formula formula' file file' : List ℕ) → FormulaPrints letters formula file → FormulaPrints letters formula' file'
      → (f g : Formula) → FormulaOf formula f → FormulaOf formula' g → (file ≡ file') ↔ SameMeaning letters f g
