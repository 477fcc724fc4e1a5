-- The rules that stand on the stack of a formula: slot i of the lent buffer has the rule of the i-th formula from below, as the file of its reduction. Assumes nothing.
use Rattle.std.specs.Prelude.{ℕ, ◌≤◌, ◌≡◌, List, [], ◌∷◌, length}
use Rattle.answer.specs.Checks.{passed, FirstFailure}
use Rattle.theory.specs.Rules.{Rule}
use Rattle.temporal.specs.Formulas.{Formula}
use Rattle.formats.specs.RuleChecks.{rule_size, scratch_size, rule_checks}
use Rattle.formats.specs.WrittenFile.{file_of}
use Rattle.formats.specs.ReadBack.{ReadsBack, FileShape}
use Rattle.temporal_promises.specs.Until.{until_classes_size}
use Rattle.board_promises.specs.Boards.{file_at}
use Rattle.formula_promises.specs.Checks.{stack_size, ReductionOf}

-- the file of a formula's reduction: it passes every check of a rule file, and means the rule
pub record ReductionFile (letters : ℕ) (f : Formula) (file : List ℕ) : Type 0 where
  pub rule : Rule
  pub reduction : ReductionOf letters f rule
  pub file_is : file ≡ file_of rule.morphism rule.marks
  pub passes : (input : ℕ) → FirstFailure (rule_checks input file) passed
  pub reads_back : ReadsBack rule.morphism rule.marks file
  pub shape : FileShape file

-- the formulas of a stack, its top first, stand in the slots from 0 on
pub data Standing (letters : ℕ) (stack : List ℕ) : List Formula → Type 0 where
  none_stands : Standing letters stack []
  one_more : {f : Formula} {rest : List Formula} → ReductionFile letters f (file_at stack (length rest)) → Standing letters stack rest → Standing letters stack (f ∷ rest)

-- the buffers are long enough
pub record LentRoom (stack spare classes scratch : List ℕ) : Type 0 where
  pub stack_room : stack_size ≤ length stack
  pub spare_room : rule_size ≤ length spare
  pub classes_room : until_classes_size ≤ length classes
  pub scratch_room : scratch_size ≤ length scratch

-- and keep their lengths
pub record LentLengths (stack stack_exit spare spare_exit classes classes_exit scratch scratch-exit : List ℕ) : Type 0 where
  pub stack_length : length stack_exit ≡ length stack
  pub spare_length : length spare_exit ≡ length spare
  pub classes_length : length classes_exit ≡ length classes
  pub scratch_length : length scratch-exit ≡ length scratch
