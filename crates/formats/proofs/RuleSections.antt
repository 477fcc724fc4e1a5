-- The rule file as a list of sections: its checks 1 to 3 are those of the list, and sections that pass are good. Assumes nothing.
use Prim.Native.Nat.{ℕ}
use mathlib.Core.Path.{◌≡◌, refl, sym, subst}
use mathlib.Core.List.{List}
use native.Mathlib.Nat.{zero-add}
use Rattle.answer.specs.Checks.{Check, passed, FirstFailure}
use Rattle.formats.specs.RuleFile.{elements_of, letters_at, letters_of, marks_at, elements_section, letters_section, marks_section}
use Rattle.formats.specs.RuleChecks.{layout_checks}
use Rattle.formats.proofs.SectionList.{SectionList, last, next, list_checks, GoodAt, AllGood, all_good, after_first, passed_in_any}

-- what follows n elements
abbrev pub after_elements : ℕ → SectionList
after_elements n = next (letters_section n) (λ k. last (marks_section n))

abbrev pub rule_sections : SectionList
rule_sections = next elements_section after_elements

pub rule_list : (input : ℕ) (bytes : List ℕ) → list_checks rule_sections input 0 bytes ≡ layout_checks input bytes
unfolding list_checks letters_at letters_of marks_at
rule_list input bytes = simp zero-add refl

module _ (input : ℕ) (bytes : List ℕ) (all : FirstFailure (layout_checks input bytes) passed) where
  list_passes : FirstFailure (list_checks rule_sections input 0 bytes) passed
  list_passes = subst (λ (checks : List Check). FirstFailure checks passed) (sym (rule_list input bytes)) all

  -- sections that pass in one input pass in any
  pub rule_in_any : (other : ℕ) → FirstFailure (layout_checks other bytes) passed
  rule_in_any other = subst (λ (checks : List Check). FirstFailure checks passed) (rule_list other bytes) (passed_in_any rule_sections input other 0 bytes list_passes)

  -- each is good at its place
  pub elements_good : GoodAt elements_section bytes 0
  elements_good = (all_good rule_sections input 0 bytes list_passes).0

  others : AllGood (after_elements (elements_of bytes)) (letters_at bytes) bytes
  unfolding letters_at
  others = after_first elements_section after_elements bytes (all_good rule_sections input 0 bytes list_passes)

  pub letters_good : GoodAt (letters_section (elements_of bytes)) bytes (letters_at bytes)
  letters_good = others.0

  pub marks_good : GoodAt (marks_section (elements_of bytes)) bytes (marks_at bytes)
  unfolding marks_at letters_of
  marks_good = others.1
