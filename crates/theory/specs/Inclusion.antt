-- Two markings of one table compared: first two sets of marked pairs, as document 01's "Inclusion" has it, and then two markings by
-- their sets at each least grade (document 02, Job 12). Assumes nothing.
use Rattle.std.specs.Prelude.{ℕ, ◌+◌, ◌*◌, ◌-◌, ◌≤◌, ◌<◌, List, length}
use Rattle.theory.specs.Words.{Lasso}
use Rattle.theory.specs.Rules.{Morphism, Pairs, Marking, level}
use Rattle.theory.specs.Acceptance.{Accepts}

-- "each lasso accepted under the first marking is accepted under the second", of two sets of pairs
pub record Included (m : Morphism) (P P' : Pairs) : Type 0 where
  pub accepted_too : (u v : List ℕ) → Lasso m.letters u v → Accepts m P u v → Accepts m P' u v

-- "u of at most n letters and v of at most (n+1)·(n+1) − 1 letters, accepted under the first and not under the second", of two sets of
-- pairs; "The u found by inclusion still has a letter or more" (Job 4)
pub record Witness (m : Morphism) (P P' : Pairs) (u v : List ℕ) : Type 0 where
  pub lasso : Lasso m.letters u v
  pub start_some : 0 < length u
  pub start_short : length u ≤ m.size
  pub cycle_short : length v ≤ (m.size + 1) * (m.size + 1) - 1
  pub accepted_first : Accepts m P u v
  pub refused_second : Accepts m P' u v → ⊥

-- "Inclusion compares grades" (Job 12): a lasso of g or more under the first marking is one under the second
pub record IncludedGrades (m : Morphism) (marks marks' : Marking) : Type 0 where
  pub at_each : (g : ℕ) → 1 ≤ g → Included m (level g marks) (level g marks')

-- "and finds a lasso graded higher by the first" (Job 12): it has some grade or more there, and not under the second
pub record HigherGraded (m : Morphism) (marks marks' : Marking) (u v : List ℕ) : Type 0 where
  pub least : ℕ
  pub some : 1 ≤ least
  pub witness : Witness m (level least marks) (level least marks') u v
