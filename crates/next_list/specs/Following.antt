-- What following a letter, every letter of an entry, and those of all entries come to. Assumes nothing.
use Rattle.std.specs.Prelude.{ℕ, ◌+◌, ◌≤◌, List, Option, Some, None}
use Rattle.theory.specs.Rules.{Morphism}
use Rattle.temporal.specs.Nexts.{MoreNextClasses}
use Rattle.next_list.specs.Pairs.{Listing}
use Rattle.next_list.specs.Adding.{ListKept}

-- the search has come to letter x of entry p, from a list of count classes on
pub record Grown (m : Morphism) (exit : List ℕ) (count p x total : ℕ) : Type 0 where
  pub listing : Listing m exit total p x
  pub more : count ≤ total

abbrev pub GrownAnswer : Morphism → List ℕ → ℕ → ℕ → ℕ → Option ℕ → Type 0
GrownAnswer m exit count p x (Some total) = Grown m exit count p x total
GrownAnswer m exit count p x None = MoreNextClasses m 64

-- letter x was followed from entry p
pub record Followed (m : Morphism) (entry exit : List ℕ) (count p x : ℕ) (answer : Option ℕ) : Type 0 where
  pub kept : ListKept entry exit
  pub says : GrownAnswer m exit count p (x + 1) answer

-- every letter was
pub record EntryFollowed (m : Morphism) (entry exit : List ℕ) (count p : ℕ) (answer : Option ℕ) : Type 0 where
  pub kept : ListKept entry exit
  pub says : GrownAnswer m exit count p m.letters answer

-- and from every entry
abbrev pub ListAnswer : Morphism → List ℕ → Option ℕ → Type 0
ListAnswer m exit (Some count) = Listing m exit count count m.letters
ListAnswer m exit None = MoreNextClasses m 64

pub record NextListed (m : Morphism) (entry exit : List ℕ) (answer : Option ℕ) : Type 0 where
  pub kept : ListKept entry exit
  pub says : ListAnswer m exit answer
