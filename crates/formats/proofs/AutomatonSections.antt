-- The automaton file as a list of sections: its checks 1 to 3 are those of the list, and sections that pass are good. Assumes nothing.
use Prim.Native.Nat.{ℕ}
use mathlib.Core.Path.{◌≡◌, refl, sym, subst}
use mathlib.Core.List.{List}
use native.Mathlib.Nat.{zero-add}
use Rattle.answer.specs.Checks.{Check, passed, FirstFailure}
use Rattle.formats.specs.AutomatonFile.{states_of, automaton_letters_at, automaton_letters_of, transitions_at, states_section, automaton_letters_section, transitions_section}
use Rattle.formats.specs.AutomatonChecks.{automaton_layout_checks}
use Rattle.formats.proofs.SectionList.{SectionList, last, next, list_checks, GoodAt, AllGood, all_good, after_first}

-- what follows m states
abbrev pub after_states : ℕ → SectionList
after_states m = next automaton_letters_section (λ k. last (transitions_section m k))

abbrev pub automaton_sections : SectionList
automaton_sections = next states_section after_states

pub automaton_list : (input : ℕ) (bytes : List ℕ) → list_checks automaton_sections input 0 bytes ≡ automaton_layout_checks input bytes
unfolding list_checks automaton_letters_at automaton_letters_of transitions_at
automaton_list input bytes = simp zero-add refl

module _ (input : ℕ) (bytes : List ℕ) (all : FirstFailure (automaton_layout_checks input bytes) passed) where
  good : AllGood automaton_sections 0 bytes
  good = all_good automaton_sections input 0 bytes (subst (λ (checks : List Check). FirstFailure checks passed) (sym (automaton_list input bytes)) all)

  -- each is good at its place
  pub states_good : GoodAt states_section bytes 0
  states_good = good.0

  others : AllGood (after_states (states_of bytes)) (automaton_letters_at bytes) bytes
  unfolding automaton_letters_at
  others = after_first states_section after_states bytes good

  pub letters_good : GoodAt automaton_letters_section bytes (automaton_letters_at bytes)
  letters_good = others.0

  pub transitions_good : GoodAt (transitions_section (states_of bytes) (automaton_letters_of bytes)) bytes (transitions_at bytes)
  unfolding transitions_at automaton_letters_of
  transitions_good = others.1
