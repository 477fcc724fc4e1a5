-- The theorem on empty starts. Document 02, Job 4, "Strong and smallest count such lassos too": for every rule and every rival, strong, same grades, smallest and
-- inclusion say what they said when only lassos with a letter in their start counted. The definitions of then are given here. Assumes nothing.
use Rattle.std.specs.Prelude.{ℕ, ◌≤◌, ◌<◌, ◌≡◌, ◌↔◌, List, length}
use Rattle.theory.specs.Words.{Over}
use Rattle.theory.specs.Rules.{Morphism, Pairs, Marking, Rule, level, value}
use Rattle.theory.specs.Acceptance.{Accepts}
use Rattle.theory.specs.Grades.{AtLeast, StrongMarking}
use Rattle.theory.specs.Smallest.{SameGrades, Renumbered, Smallest}
use Rattle.theory.specs.Inclusion.{IncludedGrades}

-- a lasso whose start has a letter; before document 02's Job 4 these were all
pub record Started (k : ℕ) (u v : List ℕ) : Type 0 where
  pub start_over : Over k u
  pub cycle_over : Over k v
  pub start_some : 0 < length u
  pub cycle_some : 0 < length v

pub record StrongStarted (m : Morphism) (P : Pairs) : Type 0 where
  pub both_or_neither : (u v u' v' : List ℕ) → Started m.letters u v → Started m.letters u' v'
      → value m u ≡ value m u' → value m v ≡ value m v' → Accepts m P u v ↔ Accepts m P u' v'

pub record StrongMarkingStarted (m : Morphism) (marks : Marking) : Type 0 where
  pub at_each : (g : ℕ) → 1 ≤ g → StrongStarted m (level g marks)

abbrev pub RuleStrongStarted : Rule → Type 0
RuleStrongStarted r = StrongMarkingStarted r.morphism r.marks

pub record SameStarted (r r' : Rule) : Type 0 where
  pub same_letters : r.morphism.letters ≡ r'.morphism.letters
  pub both_or_neither : (g : ℕ) → 1 ≤ g → (u v : List ℕ) → Started r.morphism.letters u v
      → AtLeast r.morphism r.marks g u v ↔ AtLeast r'.morphism r'.marks g u v

pub record SmallestStarted (r : Rule) : Type 0 where
  pub strong : RuleStrongStarted r
  pub at_least : (rival : Rule) → RuleStrongStarted rival → SameStarted r rival
      → r.morphism.size ≤ rival.morphism.size
  pub copy : (rival : Rule) → RuleStrongStarted rival → SameStarted r rival
      → rival.morphism.size ≡ r.morphism.size → Renumbered rival.morphism r.morphism

pub record IncludedStarted (m : Morphism) (P P' : Pairs) : Type 0 where
  pub accepted_too : (u v : List ℕ) → Started m.letters u v → Accepts m P u v → Accepts m P' u v

pub record IncludedGradesStarted (m : Morphism) (marks marks' : Marking) : Type 0 where
  pub at_each : (g : ℕ) → 1 ≤ g → IncludedStarted m (level g marks) (level g marks')

pub record EmptyStartsTheorem : Type 0 where
  pub strong : (m : Morphism) (marks : Marking) → StrongMarking m marks ↔ StrongMarkingStarted m marks
  pub same : (r r' : Rule) → SameGrades r r' ↔ SameStarted r r'
  pub smallest : (r : Rule) → Smallest r ↔ SmallestStarted r
  pub included : (m : Morphism) (marks marks' : Marking) → IncludedGrades m marks marks' ↔ IncludedGradesStarted m marks marks'
