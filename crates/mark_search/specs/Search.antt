-- What the search answers. `first` and `second` are the bytes where the two tables of marks begin. Assumes nothing.
use Rattle.std.specs.Prelude.{ℕ, ◌≤◌, ◌<◌, ◌≡◌, List, length, get_or, Option, Some, None}
use Rattle.theory.specs.Rules.{Morphism, Lawful, Marking, Pairs, level}
use Rattle.theory.proofs.Escapes.{Escapes}
use Rattle.scratch.specs.Map.{MarkingAt, search_end, second_base, tables_end}
use Rattle.scratch.specs.Preimages.{Preimages}
use Rattle.mark_search_list.specs.Queue.{seen_at}
use Rattle.mark_search_run.specs.Search.{EndedAt}
use Rattle.mark_search.specs.declared.Escape.{Escape}
use Rattle.formats.specs.RuleChecks.{scratch_size}

-- tables of marks and the lists of preimages, and no state found yet
pub record AllNeeds (m : Morphism) (first second : ℕ) (scratch : List ℕ) : Type 0 where
  pub lawful : Lawful m
  pub first_base : first ≤ second_base
  pub second_in_base : second ≤ second_base
  pub room : scratch_size ≤ length scratch
  pub preimages : Preimages m scratch
  pub unseen : (c : ℕ) → c < 4225 → seen_at scratch c ≤ 0

-- the same whatever stands behind the tables of marks
pub record EscapeNeeds (m : Morphism) (first second : ℕ) (scratch : List ℕ) : Type 0 where
  pub lawful : Lawful m
  pub first_base : first ≤ second_base
  pub second_in_base : second ≤ second_base
  pub room : scratch_size ≤ length scratch

-- the search ended at an entry for the start value s
pub record EscapedAt (m : Morphism) (P P' : Pairs) (s : ℕ) (scratch : List ℕ) (i : ℕ) : Type 0 where
  pub start_inside : s < m.size
  pub ended : EndedAt m P P' s scratch i

-- a start value with a cycle that escapes, and the entry that ends its search; or there is none
abbrev pub EscapeAnswer : Morphism → Pairs → Pairs → List ℕ → Option Escape → Type 0
EscapeAnswer m P P' scratch (Some e) = EscapedAt m P P' e.start scratch e.entry
EscapeAnswer m P P' scratch None = (s : ℕ) → s < m.size → (v : List ℕ) → Escapes m P P' s v → ⊥

-- the answer for any markings that stand in the tables, at the least grade; the tables of marks and the bytes behind the lists of preimages
-- are as they were
pub record Escaped (m : Morphism) (least first second : ℕ) (entry exit : List ℕ) (answer : Option Escape) : Type 0 where
  pub same_length : length exit ≡ length entry
  pub says : (F S : Marking) → MarkingAt m.size F entry first → MarkingAt m.size S entry second → EscapeAnswer m (level least F) (level least S) exit answer
  pub marks : (i : ℕ) → i < tables_end → get_or exit i 0 ≡ get_or entry i 0
  pub behind : (i : ℕ) → search_end ≤ i → get_or exit i 0 ≡ get_or entry i 0
