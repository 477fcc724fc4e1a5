-- What the beginning of the search does to the worklist. Assumes nothing.
use Rattle.std.specs.Prelude.{ℕ, ◌≤◌, ◌<◌, ◌≡◌, List, T}
use Rattle.theory.specs.Rules.{Pairs}
use Rattle.scratch.specs.Map.{second_base}
use Rattle.mark_search_list.specs.Queue.{front_at, back_at, Queue, HasState, Grown}

-- a table of marks that begins at a byte in front of the worklist
pub record BeginNeeds (n s : ℕ) (scratch : List ℕ) (first count : ℕ) : Type 0 where
  pub queue : Queue n s scratch count
  pub base : first ≤ second_base

-- the state (e, none) is an entry where (s, e) is one of P, and no other was added
pub record BegunWith (n s : ℕ) (P : Pairs) (e : ℕ) (entry : List ℕ) (count : ℕ) (exit : List ℕ) (total : ℕ) : Type 0 where
  pub grown : Grown n s entry count exit total
  pub holds : T (P s e) → HasState exit total e n
  pub front : (j : ℕ) → count ≤ j → j < total → front_at exit j ≡ e
  pub back : (j : ℕ) → count ≤ j → j < total → back_at exit j ≡ n
  pub has_mark : (j : ℕ) → count ≤ j → j < total → T (P s e)

-- the entries are the states (e, none) for the pairs (s, e) of P, of the elements e below a number
pub record Begun (n s : ℕ) (P : Pairs) (below : ℕ) (entry exit : List ℕ) (count : ℕ) : Type 0 where
  pub within : below ≤ n
  pub grown : Grown n s entry 0 exit count
  pub holds : (e : ℕ) → e < below → T (P s e) → HasState exit count e n
  pub front : (j : ℕ) → j < count → front_at exit j < below
  pub back : (j : ℕ) → j < count → back_at exit j ≡ n
  pub has_mark : (j : ℕ) → j < count → T (P s (front_at exit j))
