-- Automata on endless words: paths of a word, runs, and the lassos that an automaton accepts. Document 01, "The rule file and
-- the automaton file" and "Automaton to rule"; no limit of the file format stands here. Assumes nothing.
use Rattle.std.specs.Prelude.{ℕ, suc, ◌≤◌, ◌<◌, Bool, List, [], ◌∷◌, T}
use Rattle.theory.specs.Words.{endless}

-- states "plain, initial, final, both", letters, and transitions "(from, letter, to)": states are the numbers below `states`,
-- letters those below `letters`; what the three tests give at other numbers means nothing
pub record Automaton : Type 0 where
  pub states : ℕ
  pub letters : ℕ
  pub initial : ℕ → Bool
  pub final : ℕ → Bool
  pub step : ℕ → ℕ → ℕ → Bool

-- a path of a word from p to q: a transition for each letter, from state to state
pub data WordPath (a : Automaton) : List ℕ → ℕ → ℕ → Type 0 where
  path_end : {p : ℕ} → p < a.states → WordPath a [] p p
  path_step : {x p r q : ℕ} {w : List ℕ} → p < a.states → T (a.step p x r) → WordPath a w r q → WordPath a (x ∷ w) p q

-- "some path from p to q meets a final state, its ends included": the path begins in one, or the rest of it meets one
pub data FinalPath (a : Automaton) : List ℕ → ℕ → ℕ → Type 0 where
  final_here : {p q : ℕ} {w : List ℕ} → T (a.final p) → WordPath a w p q → FinalPath a w p q
  final_later : {x p r q : ℕ} {w : List ℕ} → p < a.states → T (a.step p x r) → FinalPath a w r q → FinalPath a (x ∷ w) p q

-- a "run from an initial state" on an endless word: a state for each position, and a transition for each letter
pub record Run (a : Automaton) (α : ℕ → ℕ) : Type 0 where
  pub state : ℕ → ℕ
  pub inside : (i : ℕ) → state i < a.states
  pub starts : T (a.initial (state 0))
  pub steps : (i : ℕ) → T (a.step (state i) (α i) (state (suc i)))

-- the run is in a final state at this position, which is n or later
pub record FinalFrom (a : Automaton) (state : ℕ → ℕ) (n : ℕ) : Type 0 where
  pub at : ℕ
  pub later : n ≤ at
  pub ends_final : T (a.final (state at))

-- "some run from an initial state meets a final state again and again"
pub record AcceptingRun (a : Automaton) (α : ℕ → ℕ) : Type 0 where
  pub run : Run a α
  pub again : (n : ℕ) → FinalFrom a run.state n

-- the lasso u, then v for ever, is one "on which some run from an initial state meets a final state again and again"
pub record AcceptedBy (a : Automaton) (u v : List ℕ) : Type 0 where
  pub accepting : AcceptingRun a (endless u v)
