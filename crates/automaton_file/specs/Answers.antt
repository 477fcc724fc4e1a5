-- What the answers of this crate's functions say. Assumes nothing.
use Rattle.std.specs.Prelude.{ℕ, ◌+◌, ◌*◌, ◌≤◌, ◌<◌, ◌≡◌, Bool, true, false, List, length, get_or, Result, Ok, Err}
use Rattle.answer.specs.declared.Fault.{Fault}
use Rattle.answer.specs.declared.Refused.{Refused}
use Rattle.answer.specs.Checks.{FirstFailure, verdict_of}
use Rattle.formats.specs.Calls.{after_call}
use Rattle.scratch.specs.Map.{transition_table_size}
use Rattle.formats.specs.AutomatonFile.{states_of, automaton_letters_of, transitions_at, transitions_of, from_of, letter_of, to_of, has_transition}
use Rattle.formats.specs.AutomatonChecks.{read_checks}
use Rattle.formats.proofs.GoodAutomaton.{GoodSections}
use Rattle.automaton_sections.specs.declared.Counts.{Counts}
use Rattle.automaton_sections.specs.Sections.{CountsAre}

-- a byte for a transition: 1 where there is one
abbrev pub one_if : Bool → ℕ
one_if true = 1
one_if false = 0

-- where the byte of scratch for the transition from p by a to q stands
abbrev pub triple_index : ℕ → ℕ → ℕ → ℕ
triple_index p a q = p * 96 + (a * 6 + q)

-- the index of the i-th transition
abbrev pub index_of : List ℕ → ℕ → ℕ
index_of bytes i = triple_index (from_of bytes i) (letter_of bytes i) (to_of bytes i)

-- good sections, and where the transitions' section stands in them
pub record TransitionsNeeds (bytes : List ℕ) (at count : ℕ) : Type 0 where
  pub sections : GoodSections bytes
  pub is_place : at ≡ transitions_at bytes
  pub is_count : count ≡ transitions_of bytes

-- room for the transitions, all bytes 0
pub record BlankRoom (table : List ℕ) : Type 0 where
  pub room : transition_table_size ≤ length table
  pub blank : (i : ℕ) → i < transition_table_size → get_or table i 0 ≡ 0

-- transitions laid out in a buffer of so many bytes: 1 at the index of each, 0 at that of any other triple of m states and k letters
pub record TransitionsLaid (present : ℕ → ℕ → ℕ → Bool) (m k size : ℕ) (exit : List ℕ) : Type 0 where
  pub same_length : length exit ≡ size
  pub transition : (p a q : ℕ) → p < m → a < k → q < m → get_or exit (triple_index p a q) 0 ≡ one_if (present p a q)

-- the transitions of a file are laid out; or, where a check fails, nothing is said of the bytes but their number
abbrev pub LaidAnswer : List ℕ → List ℕ → List ℕ → Result (Unit {0}) Fault → Type 0
LaidAnswer bytes entry exit (Ok done) = TransitionsLaid (has_transition bytes) (states_of bytes) (automaton_letters_of bytes) (length entry) exit
LaidAnswer bytes entry exit (Err fault) = length exit ≡ length entry

-- an automaton that was read: its counts, and scratch holds its transitions
pub record AutomatonLaid (bytes : List ℕ) (states letters transitions : ℕ) (entry exit : List ℕ) : Type 0 where
  pub counts_are : CountsAre bytes states letters transitions
  pub laid : TransitionsLaid (has_transition bytes) (states_of bytes) (automaton_letters_of bytes) (length entry) exit

abbrev pub ScratchAfter : List ℕ → List ℕ → List ℕ → Result Counts Refused → Type 0
ScratchAfter bytes entry exit (Ok counts) = AutomatonLaid bytes counts.states counts.letters counts.transitions entry exit
ScratchAfter bytes entry exit (Err r) = exit ≡ after_call entry

-- the promise of the reading: which refusal and when; else the automaton's counts, and its transitions in scratch
pub record ReadPromise (input : ℕ) (bytes entry exit : List ℕ) (answer : Result Counts Refused) : Type 0 where
  pub refusal : FirstFailure (read_checks input bytes entry) (verdict_of answer)
  pub scratch : ScratchAfter bytes entry exit answer
