-- The checks of an automaton file but the last, in document 01's order: "For an automaton: 13, 1 to 4, 8, 14". Assumes nothing.
use Rattle.std.specs.Prelude.{ℕ, zero, suc, ◌<◌, ◌≡◌, List, [], ◌∷◌, ◌++◌, drop}
use Rattle.answer.specs.declared.Refusal.TheVariants.{Duplicate}
use Rattle.answer.specs.Checks.{Check}
use Rattle.formats.specs.Sections.{section_checks}
use Rattle.formats.specs.RuleChecks.{trailing_check, buffer_check, scratch_size}
use Rattle.formats.specs.AutomatonFile.{states_of, automaton_letters_at, automaton_letters_of, transitions_at, transitions_of, transition_at, from_of, letter_of, to_of, automaton_end, states_section, automaton_letters_section, transitions_section}

-- 8 "a pair or transition stands twice", said of the i-th transition as the later; place "first byte of the later"
pub record RepeatedTransitionAt (bytes : List ℕ) (i place : ℕ) : Type 0 where
  pub earlier : ℕ
  pub before : earlier < i
  pub same_from : from_of bytes earlier ≡ from_of bytes i
  pub same_letter : letter_of bytes earlier ≡ letter_of bytes i
  pub same_to : to_of bytes earlier ≡ to_of bytes i
  pub is_place : place ≡ transition_at bytes i

-- 8, of the count transitions from the i-th on, in file order
unfoldable pub repeated_checks : ℕ → List ℕ → ℕ → ℕ → List Check
repeated_checks input bytes i zero = []
repeated_checks input bytes i (suc count) =
    record { refusal = Duplicate; input = input; Fails = RepeatedTransitionAt bytes i } ∷ repeated_checks input bytes (suc i) count

-- 1 to 3, section by section
abbrev pub automaton_layout_checks : ℕ → List ℕ → List Check
automaton_layout_checks input bytes =
    section_checks states_section input 0 bytes
    ++ (section_checks automaton_letters_section input (automaton_letters_at bytes) (drop (automaton_letters_at bytes) bytes)
    ++ section_checks (transitions_section (states_of bytes) (automaton_letters_of bytes)) input (transitions_at bytes) (drop (transitions_at bytes) bytes))

-- 4, then 8
abbrev pub automaton_content_checks : ℕ → List ℕ → List Check
automaton_content_checks input bytes = trailing_check input (automaton_end bytes) bytes ∷ repeated_checks input bytes 0 (transitions_of bytes)

-- an automaton file, as an input of the given number: "1 to 4, 8"
unfoldable pub automaton_checks : ℕ → List ℕ → List Check
automaton_checks input bytes = automaton_layout_checks input bytes ++ automaton_content_checks input bytes

-- "13, 1 to 4, 8", with the scratch that is lent
abbrev pub read_checks : ℕ → List ℕ → List ℕ → List Check
read_checks input bytes scratch = buffer_check scratch_size scratch ∷ automaton_checks input bytes
