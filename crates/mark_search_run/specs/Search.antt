-- What the search at one start value answers. `first` and `second` are the bytes where the two tables of marks begin. Assumes nothing.
use Rattle.std.specs.Prelude.{ℕ, ◌+◌, ◌≤◌, ◌<◌, ◌≡◌, List, length, Option, Some, None, T}
use Rattle.theory.specs.Rules.{Morphism, Lawful, Marking, Pairs, level}
use Rattle.theory.proofs.Escapes.{Escapes}
use Rattle.scratch.specs.Map.{MarkingAt, second_base}
use Rattle.scratch.specs.Preimages.{after_letter, Preimages}
use Rattle.mark_search_list.specs.Queue.{front_at, back_at, letter_at, parent_at, seen_at, Queue, HasState, Kept, Grown}
use Rattle.mark_search_letters.specs.Steps.{before_letter, Takes}
use Rattle.mark_search_visit.specs.Visits.{split_marked}
use Rattle.formats.specs.RuleChecks.{scratch_size}

-- where an entry comes from: it is a cycle value that P pairs with s, or it is found from an earlier entry whose split P' has not
pub data Source (m : Morphism) (P P' : Pairs) (s : ℕ) (scratch : List ℕ) (i : ℕ) : Type 0 where
  a_start : front_at scratch i < m.size → T (P s (front_at scratch i)) → back_at scratch i ≡ m.size → Source m P P' s scratch i
  a_step : parent_at scratch i < i → letter_at scratch i < m.letters → front_at scratch (parent_at scratch i) < m.size
      → after_letter m (letter_at scratch i) (front_at scratch i) ≡ front_at scratch (parent_at scratch i)
      → back_at scratch i ≡ before_letter m (letter_at scratch i) (back_at scratch (parent_at scratch i))
      → (T (split_marked m P' s (front_at scratch (parent_at scratch i)) (back_at scratch (parent_at scratch i))) → ⊥)
      → Source m P P' s scratch i

-- the states found for s, each with where it comes from
pub record Entries (m : Morphism) (P P' : Pairs) (s : ℕ) (scratch : List ℕ) (count : ℕ) : Type 0 where
  pub queue : Queue m.size s scratch count
  pub source : (i : ℕ) → i < count → Source m P P' s scratch i

-- an entry that was tried: it has an element in front, and where its split is not marked every step from it is an entry
pub record Tried (m : Morphism) (P' : Pairs) (s : ℕ) (scratch : List ℕ) (count p : ℕ) : Type 0 where
  pub has_front : front_at scratch p < m.size
  pub takes : (T (split_marked m P' s (front_at scratch p) (back_at scratch p)) → ⊥) → (a : ℕ) → a < m.letters
      → Takes m a (front_at scratch p) (back_at scratch p) scratch count

-- the entries before `at` were tried, and each entry has its source
pub record Searching (m : Morphism) (P P' : Pairs) (s : ℕ) (entry now : List ℕ) (count at : ℕ) : Type 0 where
  pub grown : Grown m.size s entry 0 now count
  pub preimages : Preimages m now
  pub source : (i : ℕ) → i < count → Source m P P' s now i
  pub starts : (e : ℕ) → e < m.size → T (P s e) → HasState now count e m.size
  pub tried : (p : ℕ) → p < at → Tried m P' s now count p
  pub within : at ≤ count

-- an entry with nothing in front
pub record EndedAt (m : Morphism) (P P' : Pairs) (s : ℕ) (scratch : List ℕ) (i : ℕ) : Type 0 where
  pub count : ℕ
  pub entries : Entries m P P' s scratch count
  pub below : i < count
  pub no_front : front_at scratch i ≡ m.size

-- tables of marks, the lists of preimages, and no state found for s yet
pub record SearchNeeds (m : Morphism) (first second s : ℕ) (scratch : List ℕ) : Type 0 where
  pub lawful : Lawful m
  pub start_inside : s < m.size
  pub first_base : first ≤ second_base
  pub second_in_base : second ≤ second_base
  pub room : scratch_size ≤ length scratch
  pub preimages : Preimages m scratch
  pub unseen : (c : ℕ) → c < 4225 → seen_at scratch c ≤ s

-- the same without what only its beginning asks for
pub record RunNeeds (m : Morphism) (first second s : ℕ) : Type 0 where
  pub lawful : Lawful m
  pub start_inside : s < m.size
  pub first_base : first ≤ second_base
  pub second_in_base : second ≤ second_base

-- a cycle that escapes ends the search at an entry; where none does, nothing ends it
abbrev pub Ends : Morphism → Pairs → Pairs → ℕ → List ℕ → Option ℕ → Type 0
Ends m P P' s scratch (Some i) = EndedAt m P P' s scratch i
Ends m P P' s scratch None = (v : List ℕ) → Escapes m P P' s v → ⊥

-- for any markings that stand in the tables, at the least grade
pub record Searched (m : Morphism) (least first second s : ℕ) (entry exit : List ℕ) (answer : Option ℕ) : Type 0 where
  pub ends : (F S : Marking) → MarkingAt m.size F entry first → MarkingAt m.size S entry second → Ends m (level least F) (level least S) s exit answer
  pub kept : Kept entry exit
  pub seen : (c : ℕ) → c < 4225 → seen_at exit c ≤ s + 1
