-- The three sections of an automaton file, read one after the other. Assumes nothing.
use Rattle.std.proofs.Common.{refl, ℕ, ◌+◌, ◌≤◌, List, length}
use native.Mathlib.Nat.{zero-add}
use Rattle.formats.specs.AutomatonFile.{states_section, automaton_letters_section, transitions_section}
use Rattle.formats.specs.AutomatonChecks.{automaton_layout_checks}
use Rattle.formats.proofs.SectionList.{last, rest_from}
use Rattle.formats.proofs.AutomatonSections.{after_states, automaton_sections, automaton_list}
use Rattle.sections.specs.Answers.{SectionPassed}
use Rattle.sections.proofs.HandedOn.{HandedOn, handed_whole, handed_next, handed_last, handed_count, handed_long}
use Rattle.automaton_sections.specs.Sections.{LayoutPassed}
use Rattle.automaton_sections.proofs.CountsRead.{counts_read}

-- no section was read yet
pub whole : (bytes : List ℕ) → HandedOn (λ input. automaton_layout_checks input bytes) bytes automaton_sections 0 bytes
whole bytes = handed_whole automaton_sections bytes (λ input. automaton_list input bytes)

-- the states were read
module _ {bytes : List ℕ} {m : ℕ} (states : SectionPassed states_section 0 bytes m) where
  pub states_long : 1 + m ≤ length bytes
  states_long = handed_long (whole bytes) states

  pub after_states_read : HandedOn (λ input. automaton_layout_checks input bytes) bytes (after_states m) (1 + m) (rest_from bytes (1 + m))
  after_states_read = handed_next (whole bytes) states (zero-add _)

  -- and the count of letters
  module _ {k : ℕ} (letters : SectionPassed automaton_letters_section (1 + m) (rest_from bytes (1 + m)) k) where
    pub letters_long : 1 ≤ length (rest_from bytes (1 + m))
    letters_long = handed_long after_states_read letters

    pub after_letters_read : HandedOn (λ input. automaton_layout_checks input bytes) bytes (last (transitions_section m k)) (1 + m + 1) (rest_from (rest_from bytes (1 + m)) 1)
    after_letters_read = handed_next after_states_read letters refl

    -- and the transitions
    pub layout_read : {c : ℕ} → SectionPassed (transitions_section m k) (1 + m + 1) (rest_from (rest_from bytes (1 + m)) 1) c
        → LayoutPassed bytes (record { states = m; letters = k; transitions = c })
    layout_read transitions = record {
      counts_are = counts_read bytes (handed_count (whole bytes) states) (handed_count after_states_read letters) (handed_count after_letters_read transitions);
      refusal = handed_last after_letters_read transitions;
    }
