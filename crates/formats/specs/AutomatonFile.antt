-- The automaton file: where its sections stand, and the automaton that its bytes mean. Document 01, "The rule file and the
-- automaton file". Assumes nothing.
use Rattle.std.specs.Prelude.{ℕ, ◌+◌, ◌*◌, ◌%◌, Bool, cond, ◌&&◌, ◌||◌, List, get_or, eqb}
use Rattle.finite.specs.Search.{any_below}
use Rattle.formats.specs.Sections.{Section, one_byte, two-byte, two_bytes}

-- "triples (from, letter, to) of three bytes"
abbrev pub transition_width : ℕ
transition_width = 3

-- "a one_byte count of states": the first byte
abbrev pub states_of : List ℕ → ℕ
states_of bytes = get_or bytes 0 0

-- "then a byte for each": that of state p
unfoldable pub kind_at : List ℕ → ℕ → ℕ
kind_at bytes p = get_or bytes (1 + p) 0

-- "0 plain, 1 initial, 2 final, 3 both": state p is initial
unfoldable pub is_initial : List ℕ → ℕ → Bool
is_initial bytes p = eqb (kind_at bytes p) 1 || eqb (kind_at bytes p) 3

-- "0 plain, 1 initial, 2 final, 3 both": state p is final
unfoldable pub is_final : List ℕ → ℕ → Bool
is_final bytes p = eqb (kind_at bytes p) 2 || eqb (kind_at bytes p) 3

-- the letters' section stands after the states': their count and a byte for each
unfoldable pub automaton_letters_at : List ℕ → ℕ
automaton_letters_at bytes = 1 + states_of bytes

-- "a one_byte count of letters"
unfoldable pub automaton_letters_of : List ℕ → ℕ
automaton_letters_of bytes = get_or bytes (automaton_letters_at bytes) 0

-- the transitions' section stands after the letters' count, "with no bytes following it"
unfoldable pub transitions_at : List ℕ → ℕ
transitions_at bytes = automaton_letters_at bytes + 1

-- "a two-byte count of transitions"
unfoldable pub transitions_of : List ℕ → ℕ
transitions_of bytes = two_bytes bytes (transitions_at bytes)

-- the first byte of the i-th transition
unfoldable pub transition_at : List ℕ → ℕ → ℕ
transition_at bytes i = transitions_at bytes + (2 + transition_width * i)

-- "(from, letter, to)": the i-th transition's first state
unfoldable pub from_of : List ℕ → ℕ → ℕ
from_of bytes i = get_or bytes (transition_at bytes i) 0

-- "(from, letter, to)": its letter
unfoldable pub letter_of : List ℕ → ℕ → ℕ
letter_of bytes i = get_or bytes (transition_at bytes i + 1) 0

-- "(from, letter, to)": its last state
unfoldable pub to_of : List ℕ → ℕ → ℕ
to_of bytes i = get_or bytes (transition_at bytes i + 2) 0

-- the i-th transition goes from p by a to q
unfoldable pub is_transition : List ℕ → ℕ → ℕ → ℕ → ℕ → Bool
is_transition bytes p a q i = eqb (from_of bytes i) p && (eqb (letter_of bytes i) a && eqb (to_of bytes i) q)

-- some transition goes from p by a to q
unfoldable pub has_transition : List ℕ → ℕ → ℕ → ℕ → Bool
has_transition bytes p a q = any_below (transitions_of bytes) (is_transition bytes p a q)

-- the end of the last section
unfoldable pub automaton_end : List ℕ → ℕ
automaton_end bytes = transitions_at bytes + (2 + transition_width * transitions_of bytes)

-- "a one_byte count of states, 1 to 6, then a byte for each (0 plain, 1 initial, 2 final, 3 both)"
abbrev pub states_section : Section
states_section = record { width = one_byte; low = 1; high = 6; entries = λ m. m; floor = λ m i. 0; bound = λ m i. 4 }

-- "a one_byte count of letters, 1 to 16, with no bytes following it"
abbrev pub automaton_letters_section : Section
automaton_letters_section = record { width = one_byte; low = 1; high = 16; entries = λ k. 0; floor = λ k i. 0; bound = λ k i. 0 }

-- "triples (from, letter, to)": what the i-th byte of the triples stays below, k for a letter and m for a state
unfoldable pub triple_bound : ℕ → ℕ → ℕ → ℕ
triple_bound m k i = cond (eqb (i % transition_width) 1) k m

-- "a two-byte count of transitions, 0 to 576, then triples (from, letter, to) of three bytes", of m states and k letters
abbrev pub transitions_section : ℕ → ℕ → Section
transitions_section m k = record {
  width = two-byte;
  low = 0;
  high = 576;
  entries = λ c. transition_width * c;
  floor = λ c i. 0;
  bound = λ c i. triple_bound m k i;
}
