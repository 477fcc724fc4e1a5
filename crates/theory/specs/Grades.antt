-- The grade of a lasso, of the lassos with two values and of a linked pair, and when a rule is strong. Document 02, Job 12: "Demand 2
-- then takes as accepted, for each least grade g from 1 to 3, the lassos of g or more". So grades are said by least grades, at each of
-- which a lasso is accepted or not. Assumes nothing.
use Rattle.std.specs.Prelude.{ℕ, ◌≤◌, ◌<◌, ◌≡◌, List}
use Rattle.theory.specs.Words.{Lasso}
use Rattle.theory.specs.Rules.{Morphism, Marking, Rule, Value, level, element, value, ValueWord, WordOf}
use Rattle.theory.specs.Acceptance.{Accepts, Strong}
use Rattle.theory.specs.Pairs.{Linked}

-- "the lassos of g or more": some pair marked with g or more accepts the lasso
abbrev pub AtLeast : Morphism → Marking → ℕ → List ℕ → List ℕ → Type 0
AtLeast m marks g u v = Accepts m (level g marks) u v

-- "A lasso's grade is the highest among marked pairs that accept it, else 0."
pub record Graded (m : Morphism) (marks : Marking) (u v : List ℕ) (g : ℕ) : Type 0 where
  pub attained : 1 ≤ g → AtLeast m marks g u v
  pub highest : (h : ℕ) → g < h → AtLeast m marks h u v → ⊥

-- "Strong means equal grades where document 01 said both accepted or both not": at each least grade two such lassos both have it or
-- both not
pub record StrongMarking (m : Morphism) (marks : Marking) : Type 0 where
  pub at_each : (g : ℕ) → 1 ≤ g → Strong m (level g marks)

abbrev pub RuleStrong : Rule → Type 0
RuleStrong r = StrongMarking r.morphism r.marks

-- the lassos whose start has the value x, none for an empty start, and whose cycle has the value e have the grade g; there is one
pub record LassosGraded (m : Morphism) (marks : Marking) (x : Value) (e g : ℕ) : Type 0 where
  pub start : ValueWord m x
  pub cycle : WordOf m e
  pub graded : (u v : List ℕ) → Lasso m.letters u v → value m u ≡ x → value m v ≡ element e → Graded m marks u v g

-- a linked pair whose lassos, those with its values, have the grade g
pub record LinkedGraded (m : Morphism) (marks : Marking) (s e g : ℕ) : Type 0 where
  pub linked : Linked m s e
  pub lassos : LassosGraded m marks (element s) e g
