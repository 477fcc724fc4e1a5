-- What a file whose checks pass is known to be: no longer than the longest, and of no grade above 3. Assumes nothing.
use Prim.Native.Nat.{ℕ, ◌≤◌, ◌<◌}
use mathlib.Core.Path.{◌≡◌, refl}
use mathlib.Core.List.{List}
use native.Mathlib.Omega.{arith}
use native.Mathlib.Nat.{mul-le-mul}
use native.Mathlib.Decide.{dec_lt}
use lib.ListN.{length}
use Rattle.answer.specs.Checks.{passed, FirstFailure}
use Rattle.answer.proofs.Order.{passed_first, passed_last, passes_head}
use Rattle.theory.specs.Rules.{Value}
use Rattle.theory.specs.Grades.{Graded, LassosGraded}
use Rattle.theory.proofs.Values.{value_some}
use Rattle.theory.proofs.Gradings.{at_least_bounded}
use Rattle.formats.specs.Sections.{two_bytes}
use Rattle.formats.specs.RuleFile.{elements_of, letters_at, letters_of, marks_at, marks_of, rule_end, morphism_of, marks_in, marking_of}
use Rattle.formats.specs.RuleChecks.{rule_size, layout_checks, content_checks, rule_checks}
use Rattle.formats.proofs.RuleSections.{elements_good, letters_good, marks_good}
use Rattle.formats.proofs.MarkEntries.{grades_within}
use Rattle.formats.proofs.Grades.{grade_at_most}

module _ (input : ℕ) (bytes : List ℕ) (all : FirstFailure (rule_checks input bytes) passed) where
  layout : FirstFailure (layout_checks input bytes) passed
  unfolding rule_checks
  layout = passed_first _ _ all

  content : FirstFailure (content_checks input bytes) passed
  unfolding rule_checks
  content = passed_last (layout_checks input bytes) _ all

  -- it ends where its own counts say
  pub whole_file : length bytes ≡ rule_end bytes
  unfolding rule_end marks_of
  whole_file =
      let h : rule_end bytes < length bytes → ⊥ = λ l. (passes_head content).nowhere _ (record { longer = l; is_place = refl }) in
      omega (arith, (marks_good input bytes layout).inside)

  pub short_file : length bytes ≤ rule_size
  unfolding rule_end marks_of marks_at letters_of letters_at
  short_file =
      let n = (elements_good input bytes layout).within in
      omega (arith, whole_file, n, mul-le-mul n n, (letters_good input bytes layout).within, (marks_good input bytes layout).within)

  marking_small : (s e : ℕ) → marking_of bytes s e ≤ 3
  unfolding marks_in
  marking_small s e =
      grade_at_most bytes (marks_at bytes) s e (two_bytes bytes (marks_at bytes)) 3
      (λ j h. omega (arith, (grades_within (elements_of bytes) (marks_good input bytes layout) j h).below))

  pub grade_small : {x : Value} {e g : ℕ} → LassosGraded (morphism_of bytes) (marking_of bytes) x e g → g ≤ 3
  grade_small {x} {e} {g} k = go (dec_lt 0 g)
    where
      its_grade : Graded (morphism_of bytes) (marking_of bytes) k.start.word k.cycle.word g
      its_grade =
          k.graded k.start.word k.cycle.word
          (record { start_over = k.start.over; cycle_over = k.cycle.over; cycle_some = value_some (morphism_of bytes) k.cycle.word e k.cycle.its_value })
          k.start.its_value k.cycle.its_value

      go : Dec (0 < g) → g ≤ 3
      go (yes some) = at_least_bounded (marking_of bytes) 3 marking_small g (its_grade.attained (omega arith))
      go (no none) = omega arith
