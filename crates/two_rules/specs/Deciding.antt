-- Whether two markings are strong, decided one after the other in one scratch: what is answered, and which closures are left. Assumes nothing.
use Rattle.std.specs.Prelude.{ℕ, ◌+◌, ◌≤◌, ◌<◌, ◌≡◌, List, length, get_or}
use Rattle.theory.specs.Rules.{Morphism, Marking}
use Rattle.theory.specs.Grades.{StrongMarking}
use Rattle.theory.proofs.Gradings.{GradedMarks}
use Rattle.theory.proofs.ClosureGrades.{closure_grade}
use Rattle.formats.specs.RuleFile.{morphism_of, marking_of}
use Rattle.formats.specs.RuleChecks.{scratch_size}
use Rattle.scratch.specs.Map.{second_base, search_end, MarkingAt}
use Rattle.rule_layout.specs.declared.Shape.{Shape}
use Rattle.rule_layout.specs.Answers.{IsShape}
use Rattle.formats.proofs.GoodRule.{GoodRule}
use Rattle.two_rules.specs.declared.Strengths.{Strengths}
use Rattle.two_rules.specs.declared.Strengths.TheVariants.{Strong, FirstWeak, SecondWeak}

-- the first bytes from 61440 on were moved to the front, and those from 4096 on to 61440
pub record TablesMoved (count : ℕ) (entry exit : List ℕ) : Type 0 where
  pub same_length : length exit ≡ length entry
  pub front : (i : ℕ) → i < count → get_or exit i 0 ≡ get_or entry (search_end + i) 0
  pub behind : (i : ℕ) → i < count → get_or exit (search_end + i) 0 ≡ get_or entry (second_base + i) 0

-- both are strong, and the closure of each stands in scratch
pub record BothStrong (m₁ m₂ : Morphism) (first second : Marking) (exit : List ℕ) : Type 0 where
  pub first_strong : StrongMarking m₁ first
  pub second_strong : StrongMarking m₂ second
  pub first_closure : MarkingAt m₁.size (closure_grade m₁ first) exit search_end
  pub second_closure : MarkingAt m₂.size (closure_grade m₂ second) exit second_base

-- the first is strong, and the second is not
pub record OnlyFirstStrong (m₁ m₂ : Morphism) (first second : Marking) : Type 0 where
  pub first_strong : StrongMarking m₁ first
  pub second_weak : StrongMarking m₂ second → ⊥

abbrev pub StrengthsAre : Morphism → Morphism → Marking → Marking → List ℕ → Strengths → Type 0
StrengthsAre m₁ m₂ first second exit Strong = BothStrong m₁ m₂ first second exit
StrengthsAre m₁ m₂ first second exit FirstWeak = StrongMarking m₁ first → ⊥
StrengthsAre m₁ m₂ first second exit SecondWeak = OnlyFirstStrong m₁ m₂ first second

-- the verdict, on any markings that stand in front and at 61440
pub record BothDecided (m₁ m₂ : Morphism) (entry exit : List ℕ) (answer : Strengths) : Type 0 where
  pub same_length : length exit ≡ length entry
  pub strengths : (first second : Marking) → GradedMarks m₁ first → GradedMarks m₂ second → MarkingAt m₁.size first entry 0
      → MarkingAt m₂.size second entry search_end → StrengthsAre m₁ m₂ first second exit answer

-- two good files whose rules are strong, with their counts, and the closures of their marks in scratch
pub record StrongFiles (first second : List ℕ) (one two : Shape) (scratch : List ℕ) : Type 0 where
  pub first_good : GoodRule first
  pub second_good : GoodRule second
  pub first_shape : IsShape first one
  pub second_shape : IsShape second two
  pub strong : BothStrong (morphism_of first) (morphism_of second) (marking_of first) (marking_of second) scratch
  pub room : scratch_size ≤ length scratch
