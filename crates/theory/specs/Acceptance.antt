-- Which lassos a set of marked pairs accepts, and strength for one such set. Document 01, "What a rule means"; document 02, Job 4.
-- A rule has a set for each least grade (document 02, Job 12): specs/Grades says by them what its own lassos' grades are and when it
-- is strong. Assumes nothing.
use Rattle.std.specs.Prelude.{ℕ, ◌<◌, ◌≡◌, ◌↔◌, List, length, T}
use Rattle.theory.specs.Words.{Over, Lasso, endless}
use Rattle.theory.specs.Rules.{Morphism, Pairs, element, value}

-- "A rule accepts it if the same endless word can also be written as p followed by w for ever, p and w non-empty, with
-- (value of p, value of w) marked." A word whose value is an element is not empty. Nothing is accepted with no cycle. For an
-- empty u "acceptance is defined as before" (Job 4): p is not empty there either.
pub record Accepts (m : Morphism) (P : Pairs) (u v : List ℕ) : Type 0 where
  pub cycle_some : 0 < length v
  pub start : List ℕ
  pub cycle : List ℕ
  pub start_over : Over m.letters start
  pub cycle_over : Over m.letters cycle
  pub same : (i : ℕ) → endless start cycle i ≡ endless u v i
  pub element_of_start : ℕ
  pub cycle_element : ℕ
  pub start_value : value m start ≡ element element_of_start
  pub cycle_value : value m cycle ≡ element cycle_element
  pub has_mark : T (P element_of_start cycle_element)

-- "The rule is strong if any two lassos whose starts have equal values and whose cycles have equal values are both
-- accepted or both not." Since Job 12 this is strength at one least grade, P being the pairs marked with that or more; a rule is
-- strong if it is so at each. Lassos of every length count; "Strong and smallest count such lassos too, two empty starts being equal
-- in value" (Job 4): the value of an empty start is none, and that of any other start is an element.
pub record Strong (m : Morphism) (P : Pairs) : Type 0 where
  pub both_or_neither : (u v u' v' : List ℕ) → Lasso m.letters u v → Lasso m.letters u' v'
      → value m u ≡ value m u' → value m v ≡ value m v' → Accepts m P u v ↔ Accepts m P u' v'
