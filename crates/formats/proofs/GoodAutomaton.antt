-- What an automaton file is once its checks pass. Document 01, "The rule file and the automaton file". Assumes nothing.
use Prim.Native.Nat.{ℕ, ◌≤◌, ◌<◌}
use mathlib.Core.Path.{◌≡◌}
use mathlib.Core.List.{List}
use lib.ListN.{length}
use Rattle.formats.specs.AutomatonFile.{states_of, kind_at, automaton_letters_of, transitions_of, from_of, letter_of, to_of, automaton_end}

-- 1 to 3: the sections are there, their counts in range, and their entries name state kinds, states and letters
pub record GoodSections (bytes : List ℕ) : Type 0 where
  pub states_some : 1 ≤ states_of bytes
  pub states_small : states_of bytes ≤ 6
  pub kinds : (p : ℕ) → p < states_of bytes → kind_at bytes p < 4
  pub letters_some : 1 ≤ automaton_letters_of bytes
  pub letters_small : automaton_letters_of bytes ≤ 16
  pub transitions_small : transitions_of bytes ≤ 576
  pub from_below : (i : ℕ) → i < transitions_of bytes → from_of bytes i < states_of bytes
  pub letter_below : (i : ℕ) → i < transitions_of bytes → letter_of bytes i < automaton_letters_of bytes
  pub to_below : (i : ℕ) → i < transitions_of bytes → to_of bytes i < states_of bytes
  pub long : automaton_end bytes ≤ length bytes

-- an automaton file that passes the checks 1 to 4 and 8
pub record GoodAutomaton (bytes : List ℕ) : Type 0 where
  pub sections : GoodSections bytes
  -- 4: nothing follows
  pub end : automaton_end bytes ≡ length bytes
  -- 8: no transition stands twice
  pub distinct : (i j : ℕ) → i < j → j < transitions_of bytes → from_of bytes i ≡ from_of bytes j → letter_of bytes i ≡ letter_of bytes j
      → to_of bytes i ≡ to_of bytes j → ⊥
