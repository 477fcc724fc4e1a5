-- The counts of an automaton file, each read at the place that the counts before it give. Assumes nothing.
use Prim.Native.Nat.{ℕ, ◌+◌}
use mathlib.Core.Path.{◌≡◌, ap, ◌∙◌}
use mathlib.Core.List.{List}
use lib.ListN.{get_or}
use Rattle.formats.specs.Sections.{two_bytes}
use Rattle.formats.specs.AutomatonFile.{states_of, automaton_letters_at, automaton_letters_of, transitions_at, transitions_of}
use Rattle.automaton_sections.specs.Sections.{CountsAre}

pub counts_read : (bytes : List ℕ) {m k c : ℕ} → m ≡ states_of bytes → k ≡ get_or bytes (1 + m) 0 → c ≡ two_bytes bytes (1 + m + 1) → CountsAre bytes m k c
unfolding automaton_letters_at automaton_letters_of transitions_at transitions_of
counts_read bytes em ek ec = record {
  states_are = em;
  letters_are = ek ∙ ap (λ (x : ℕ). get_or bytes (1 + x) 0) em;
  transitions_are = ec ∙ ap (λ (x : ℕ). two_bytes bytes (1 + x + 1)) em;
}
