-- What the readers of an automaton file's sections answer. Assumes nothing.
use Rattle.std.specs.Prelude.{ℕ, ◌≡◌, List, Result, Ok, Err}
use Rattle.answer.specs.declared.Fault.{Fault}
use Rattle.answer.specs.Checks.{passed, refused, FirstFailure}
use Rattle.formats.specs.AutomatonFile.{states_of, automaton_letters_of, transitions_of}
use Rattle.formats.specs.AutomatonChecks.{automaton_layout_checks}
use Rattle.automaton_sections.specs.declared.Counts.{Counts}

-- the counts of an automaton file
pub record CountsAre (bytes : List ℕ) (states letters transitions : ℕ) : Type 0 where
  pub states_are : states ≡ states_of bytes
  pub letters_are : letters ≡ automaton_letters_of bytes
  pub transitions_are : transitions ≡ transitions_of bytes

-- sections that pass
pub record LayoutPassed (bytes : List ℕ) (counts : Counts) : Type 0 where
  pub counts_are : CountsAre bytes counts.states counts.letters counts.transitions
  pub refusal : (input : ℕ) → FirstFailure (automaton_layout_checks input bytes) passed

-- reading the sections: their counts, or the first of their checks that fails, whatever the number of the input
abbrev pub LayoutAnswer : List ℕ → Result Counts Fault → Type 0
LayoutAnswer bytes (Ok counts) = LayoutPassed bytes counts
LayoutAnswer bytes (Err f) = (input : ℕ) → FirstFailure (automaton_layout_checks input bytes) (refused f.refusal input f.place)
