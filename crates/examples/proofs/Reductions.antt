-- How many elements a reduction has: two reductions of rules with the same grades have as many, so every reduction of a strong
-- rule has as many as the model computes. Assumes nothing.
use Prim.Native.Nat.{ℕ}
use mathlib.Core.Path.{◌≡◌, refl, ◌∙◌}
use mathlib.Core.Bool.{Bool, true}
use mathlib.Core.List.{List}
use Rattle.theory.specs.Rules.{Rule, AllReached}
use Rattle.theory.specs.Grades.{RuleStrong}
use Rattle.theory.specs.Smallest.{SameGrades, Reduction}
use Rattle.theory.proofs.Gradings.{GradedMarks}
use Rattle.finite.proofs.Highest.{highest}
use Rattle.theory.proofs.ClosureGrades.{closure_grade}
use Rattle.minimality.proofs.GradeOutcomes.{grading}
use Rattle.formats.proofs.GoodRule.{graded_marks, GoodRule}
use Rattle.minimality.proofs.Listed.{passing}
use Rattle.minimality.proofs.Blocks.{tab_from, least_of, same_test, products_test, kept_test, first_blocks, next_blocks}
use Rattle.minimality.proofs.Settle.{unchanged, settle_from, settle}
use Rattle.minimality.proofs.ReduceModel.{heads, heads_of, final_blocks, reduced_size, reduce_model_right}
use Rattle.promises.specs.Reduce.{rule_of}
use Rattle.theory.proofs.SameGrades.{same_self, reductions_size}
use Rattle.formats.specs.RuleFile.{morphism_of, marking_of}
use Rattle.examples.specs.Files.{W, Z₀}
use Rattle.examples.specs.Examples.{FileStrong, RuleReducesTo, ExampleReducesTo}
use Rattle.examples.proofs.Reading.{reading}
use Rattle.examples.proofs.Rules.{W_good, Z₀_good, W_strong, Z₀_strong}

-- opens the model of the reduction, and all that is read of a file
unfoldable pub reducing : Bool
unfolding reading reduced_size final_blocks heads_of heads settle settle_from unchanged first_blocks next_blocks least_of tab_from same_test products_test kept_test passing grading closure_grade highest
reducing = true

-- ---- rules with the same grades

-- ---- the model's number is that of every reduction

module _ (r : Rule) (reached : AllReached r.morphism) (marks_good : GradedMarks r.morphism r.marks) (strong : RuleStrong r) where
  pub reduces_as : {r' y : Rule} {n : ℕ} → SameGrades r r' → Reduction r' y → y.morphism.size ≡ n → RuleReducesTo r n
  reduces_as s q e =
      let k = reduce_model_right r reached marks_good strong in
      record { reduced = k.reduced; reduction = k.reduction; elements = λ other p. reductions_size s p q ∙ e }

  pub reduces_by_model : {n : ℕ} → reduced_size r.morphism r.marks ≡ n → RuleReducesTo r n
  reduces_by_model e =
      let k = reduce_model_right r reached marks_good strong in
      reduces_as (same_self r) k.reduction (k.size_is ∙ e)

-- the same for a file that passes every check
file_reduces : {bytes : List ℕ} {n : ℕ} → GoodRule bytes → FileStrong bytes → reduced_size (morphism_of bytes) (marking_of bytes) ≡ n → ExampleReducesTo bytes n
file_reduces {bytes} good strong e = record {
  lawful = good.lawful;
  reduces = λ law. reduces_by_model (rule_of bytes law) good.reached (graded_marks good) strong e;
}

pub W_reduces : ExampleReducesTo W 2
unfolding reducing
W_reduces = file_reduces W_good W_strong refl

pub Z₀_reduces : ExampleReducesTo Z₀ 1
unfolding reducing
Z₀_reduces = file_reduces Z₀_good Z₀_strong refl
