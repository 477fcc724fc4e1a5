-- The counts that were read, and what the checks after the sections say in terms of them. Assumes nothing.
use Rattle.std.specs.Prelude.{Result, Ok, Err}
use Rattle.answer.specs.declared.Fault.{Fault}
use Prim.Native.Nat.{ℕ, ◌+◌, ◌*◌, ◌≤◌, ◌<◌}
use mathlib.Core.Path.{◌≡◌, ap, ◌∙◌}
use mathlib.Core.List.{List}
use native.Mathlib.Omega.{arith}
use lib.ListN.{length, drop, length-drop}
use Rattle.answer.specs.declared.Refusal.TheVariants.{TrailingBytes}
use Rattle.answer.specs.Checks.{Verdict, refused, FirstFailure}
use Rattle.answer.proofs.Order.{first_passes, first_fails}
use Rattle.formats.specs.RuleChecks.{trailing_check}
use Rattle.rule_marks.specs.Faults.{FaultAnswer}
use Rattle.formats.specs.AutomatonFile.{automaton_letters_at, transitions_at, transitions_of, automaton_end}
use Rattle.formats.specs.AutomatonChecks.{repeated_checks, automaton_content_checks}
use Rattle.formats.proofs.GoodAutomaton.{GoodSections}
use Rattle.automaton_sections.specs.declared.Counts.{Counts}
use Rattle.automaton_sections.specs.Sections.{LayoutPassed}
use Rattle.automaton_file.specs.Answers.{TransitionsNeeds}
use Rattle.automaton_file.proofs.Passed.{good_sections}

module _ (bytes : List ℕ) (counts : Counts) (p : LayoutPassed bytes counts) where
  abbrev m : ℕ
  m = counts.states

  abbrev count : ℕ
  count = counts.transitions

  sections : GoodSections bytes
  sections = good_sections 1 bytes (p.refusal 1)

  pub m_small : m ≤ 6
  m_small = omega (arith, sections.states_small, p.counts_are.states_are)

  pub count_small : count ≤ 576
  count_small = omega (arith, sections.transitions_small, p.counts_are.transitions_are)

  -- where the transitions' section stands
  pub transitions_place : TransitionsNeeds bytes (1 + m + 1) count
  unfolding transitions_at automaton_letters_at
  transitions_place = record { sections = sections; is_place = ap (λ (x : ℕ). 1 + x + 1) p.counts_are.states_are; is_count = p.counts_are.transitions_are }

  -- and where it ends
  end_is : 1 + m + 1 + (2 + 3 * count) ≡ automaton_end bytes
  unfolding automaton_end
  end_is = ap (λ (x : ℕ). x + (2 + 3 * count)) transitions_place.is_place ∙ ap (λ (x : ℕ). transitions_at bytes + (2 + 3 * x)) transitions_place.is_count

  pub end_in : 1 + m + 1 + (2 + 3 * count) ≤ length bytes
  end_in = omega (arith, sections.long, end_is)

  module _ {rest : List ℕ} (e : rest ≡ drop (1 + m + 1 + (2 + 3 * count)) bytes) where
    rest_long : length rest + automaton_end bytes ≡ length bytes
    rest_long = omega (arith, ap length e, length-drop (1 + m + 1 + (2 + 3 * count)) bytes, end_is, end_in)

    -- bytes follow
    pub trailing_automaton_bytes : 0 < length rest → (input : ℕ) → FirstFailure (automaton_content_checks input bytes) (refused TrailingBytes input (1 + m + 1 + (2 + 3 * count)))
    trailing_automaton_bytes h input =
        first_fails (trailing_check input (automaton_end bytes) bytes) (record { longer = omega (arith, rest_long); is_place = end_is })

    follows_none : length rest ≤ 0 → (input : ℕ) {v : Verdict} → FirstFailure (repeated_checks input bytes 0 (transitions_of bytes)) v
        → FirstFailure (automaton_content_checks input bytes) v
    follows_none h input f = first_passes (record { nowhere = λ place t. omega (arith, rest_long, t.longer) }) f

    -- no byte follows, and the transitions decide
    pub transitions_decide : length rest ≤ 0 → (answer : Result (Unit {0}) Fault) → FaultAnswer (λ input. repeated_checks input bytes 0 (transitions_of bytes)) answer
        → FaultAnswer (λ input. automaton_content_checks input bytes) answer
    transitions_decide h (Ok done) f = λ input. follows_none h input (f input)
    transitions_decide h (Err fault) f = λ input. follows_none h input (f input)
