-- Rules that give each lasso the same grade, the smallest of them, measured against every rule of any finite size (document 01,
-- "Demand 3 measures the reduction .."; document 02, Job 12), reduction and complement. Lassos with an empty start count (document 02,
-- Job 4). Assumes nothing.
use Rattle.std.specs.Prelude.{ℕ, ◌-◌, ◌≤◌, ◌<◌, ◌≡◌, ◌↔◌, List}
use Rattle.theory.specs.Words.{Lasso}
use Rattle.theory.specs.Rules.{Morphism, Marking, Rule}
use Rattle.theory.specs.Maps.{MapsOnto}
use Rattle.theory.specs.Pairs.{Linked}
use Rattle.theory.specs.Grades.{AtLeast, RuleStrong, LinkedGraded}

-- "To accept the same lassos .. now means to give each lasso the same grade" (Job 12): at each least grade it has it under both rules
-- or under neither, since nobody decides of a rival which grade a lasso has. They have the same letters.
pub record SameGrades (r r' : Rule) : Type 0 where
  pub same_letters : r.morphism.letters ≡ r'.morphism.letters
  pub both_or_neither : (g : ℕ) → 1 ≤ g → (u v : List ℕ) → Lasso r.morphism.letters u v
      → AtLeast r.morphism r.marks g u v ↔ AtLeast r'.morphism r'.marks g u v

-- "one map from the rival's elements, one-to-one and onto ours, takes the product of any two to the product of their
-- images, and each letter's element to our element of that letter"
pub record Renumbered (rival ours : Morphism) : Type 0 where
  pub same_letters : rival.letters ≡ ours.letters
  pub to : ℕ → ℕ
  pub inside : (a : ℕ) → a < rival.size → to a < ours.size
  pub one_to_one : (a b : ℕ) → a < rival.size → b < rival.size → to a ≡ to b → a ≡ b
  pub onto : (b : ℕ) → b < ours.size → (a : ℕ) × (a < rival.size) × (to a ≡ b)
  pub products : (a b : ℕ) → a < rival.size → b < rival.size
      → to (rival.product a b) ≡ ours.product (to a) (to b)
  pub images : (a : ℕ) → a < ours.letters → to (rival.image a) ≡ ours.image a

-- demand 3: the rule is strong; "the smallest rule is the smallest that gives every lasso its grade" (Job 12), among the strong rules
-- of any finite size, and one with just as many elements "has our table and letter images, elements renumbered"
pub record Smallest (r : Rule) : Type 0 where
  pub strong : RuleStrong r
  pub at_least : (rival : Rule) → RuleStrong rival → SameGrades r rival
      → r.morphism.size ≤ rival.morphism.size
  pub copy : (rival : Rule) → RuleStrong rival → SameGrades r rival
      → rival.morphism.size ≡ r.morphism.size → Renumbered rival.morphism r.morphism

-- "a written rule marks every linked pair whose lassos it grades 1 or more, with that grade" (Job 12), and no other pair of elements
pub record MarksGrades (m : Morphism) (marks : Marking) : Type 0 where
  pub of_linked : (s e : ℕ) → Linked m s e → LinkedGraded m marks s e (marks s e)
  pub of_others : (s e : ℕ) → s < m.size → e < m.size → (Linked m s e → ⊥) → marks s e ≡ 0

-- "Reduction of a strong rule: the smallest one with the same lassos", each with its grade, and with those marks
pub record Reduction (r reduced : Rule) : Type 0 where
  pub same : SameGrades r reduced
  pub smallest : Smallest reduced
  pub marks : MarksGrades reduced.morphism reduced.marks

-- "map onto the reduced elements, carry products and letter images over, keep every lasso's grade, and the reduced rule is strong and the
-- smallest" (Job 13): marks may be any that give the grades, and elements may be numbered in any way
pub record ReducedBy (r r' : Rule) (to : ℕ → ℕ) : Type 0 where
  pub maps : MapsOnto r.morphism r'.morphism to
  pub same : SameGrades r r'
  pub smallest : Smallest r'

-- "Complement turns g into 3 − g" (Job 12): a linked pair whose lassos have the grade g gets 3 − g
pub record Turned (m : Morphism) (marks : Marking) (s e g' : ℕ) : Type 0 where
  pub grade : ℕ
  pub graded : LinkedGraded m marks s e grade
  pub turned : g' ≡ 3 - grade

-- "Complement of a strong rule: same elements and numbering": each linked pair so, and no other pair of elements marked
pub record Complement (m : Morphism) (marks marks' : Marking) : Type 0 where
  pub of_linked : (s e : ℕ) → Linked m s e → Turned m marks s e (marks' s e)
  pub of_others : (s e : ℕ) → s < m.size → e < m.size → (Linked m s e → ⊥) → marks' s e ≡ 0
