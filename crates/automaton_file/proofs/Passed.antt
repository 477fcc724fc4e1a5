-- What an automaton file whose three sections pass is known to be. Assumes nothing.
use Prim.Native.Nat.{ℕ, ◌+◌, ◌*◌, ◌<◌}
use mathlib.Core.Path.{◌≡◌, subst}
use mathlib.Core.List.{List}
use native.Mathlib.Omega.{arith}
use native.Mathlib.Nat.{zero-add}
use lib.ListN.{get_or}
use Rattle.answer.specs.Checks.{passed, FirstFailure}
use Rattle.formats.specs.AutomatonFile.{states_of, kind_at, automaton_letters_of, transitions_at, transitions_of, transition_at, from_of, letter_of, to_of, automaton_end, triple_bound, transition_width}
use Rattle.formats.specs.AutomatonChecks.{automaton_layout_checks}
use Rattle.formats.proofs.GoodAutomaton.{GoodSections}
use Rattle.formats.proofs.AutomatonSections.{states_good, letters_good, transitions_good}
use Rattle.automaton_sections.proofs.TripleBytes.{bound_from, bound_letter, bound_to}

module _ (input : ℕ) (bytes : List ℕ) (all : FirstFailure (automaton_layout_checks input bytes) passed) where
  abbrev m : ℕ
  m = states_of bytes

  abbrev k : ℕ
  k = automaton_letters_of bytes

  -- a byte of the triples is below its bound
  triple_below : {at bound : ℕ} (i : ℕ) → i < transition_width * transitions_of bytes → transitions_at bytes + (2 + i) ≡ at → triple_bound m k i ≡ bound → get_or bytes at 0 < bound
  unfolding transitions_of
  triple_below {at} i h e b =
      subst (λ (x : ℕ). get_or bytes at 0 < x) b (subst (λ (x : ℕ). get_or bytes x 0 < triple_bound m k i) e ((transitions_good input bytes all).entries_good i h).below)

  pub good_sections : GoodSections bytes
  unfolding kind_at automaton_letters_of transitions_of transition_at from_of letter_of to_of automaton_end
  good_sections = record {
    states_some = (states_good input bytes all).above;
    states_small = (states_good input bytes all).within;
    kinds = λ p h. subst (λ (x : ℕ). get_or bytes x 0 < 4) (zero-add _) ((states_good input bytes all).entries_good p h).below;
    letters_some = (letters_good input bytes all).above;
    letters_small = (letters_good input bytes all).within;
    transitions_small = (transitions_good input bytes all).within;
    from_below = λ i h. triple_below (transition_width * i) (omega arith) (omega arith) (bound_from m k i);
    letter_below = λ i h. triple_below (transition_width * i + 1) (omega arith) (omega arith) (bound_letter m k i);
    to_below = λ i h. triple_below (transition_width * i + 2) (omega arith) (omega arith) (bound_to m k i);
    long = (transitions_good input bytes all).inside;
  }
