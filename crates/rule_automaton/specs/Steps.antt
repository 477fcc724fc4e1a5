-- What the steps of the calls on a rule's automaton ask for and answer. Assumes nothing.
use Rattle.std.specs.Prelude.{ℕ, ◌≤◌, ◌<◌, ◌≡◌, Bool, true, cond, ◌||◌, List, [], ◌∷◌, eqb, length}
use Rattle.answer.specs.Checks.{FirstFailure}
use Rattle.theory.specs.Rules.{Morphism, Marking, Lawful}
use Rattle.buchi.specs.RuleAutomaton.{is_state}
use Rattle.formats.specs.Table.{morphism_at}
use Rattle.formats.proofs.Tables.{Table}
use Rattle.scratch.specs.Map.{MarkingAt}
use Rattle.promises.specs.declared.StateKind.{StateKind}
use Rattle.promises.specs.Monitor.{value_of}
use Rattle.promises.specs.RuleAutomaton.{successors_size, kind_own_checks, kind_verdict, KindAnswer}
use Rattle.monitor_state.specs.Ready.{GoodNumber, join_at}

-- the kind by whichever marking stands in the bytes
pub record KindSaid (m : Morphism) (s e least : ℕ) (bytes : List ℕ) (answer : StateKind) : Type 0 where
  pub refusal : FirstFailure (kind_own_checks m s e least) (kind_verdict answer)
  pub kind : (marks : Marking) → MarkingAt m.size marks bytes 0 → KindAnswer m marks s e least answer

-- by numbers: h times t is s, or is `turned`
unfoldable pub leads_at : List ℕ → ℕ → ℕ → ℕ → ℕ → ℕ → ℕ → Bool
leads_at bytes n k s turned h t = eqb (join_at bytes n k h t) s || eqb (join_at bytes n k h t) turned

-- t if it is led to
unfoldable pub successor_if_any : List ℕ → ℕ → ℕ → ℕ → ℕ → ℕ → ℕ → List ℕ
successor_if_any bytes n k s turned h t = cond (leads_at bytes n k s turned h t) (t ∷ []) []

-- a letter's element, and a t to hold against
pub record LeadsNeeds (bytes : List ℕ) (n k h t : ℕ) : Type 0 where
  pub table : Table bytes n k
  pub element : h < n
  pub good : GoodNumber n t

-- and room for it
pub record SuccessorNeeds (bytes : List ℕ) (n k h t : ℕ) (out : List ℕ) (at : ℕ) : Type 0 where
  pub needs : LeadsNeeds bytes n k h t
  pub room : at < length out

-- a state and a letter of a lawful rule, and room for every t
pub record ListNeeds (bytes : List ℕ) (n k s e a : ℕ) (out : List ℕ) : Type 0 where
  pub table : Table bytes n k
  pub lawful : Lawful (morphism_at bytes n k)
  pub state : is_state (morphism_at bytes n k) (value_of s) e ≡ true
  pub letter : a < k
  pub room : successors_size ≤ length out
