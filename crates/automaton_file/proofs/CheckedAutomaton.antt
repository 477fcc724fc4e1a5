-- What an automaton file is once its checks pass, for the calls that get one. Assumes nothing.
use Prim.Native.Nat.{ℕ, ◌<◌}
use mathlib.Core.Path.{refl}
use mathlib.Core.List.{List}
use native.Mathlib.Omega.{arith}
use lib.ListN.{length}
use Rattle.answer.specs.Checks.{passed, FirstFailure}
use Rattle.answer.proofs.Order.{passed_first, passed_last, passes_head, passes_tail}
use Rattle.formats.specs.AutomatonFile.{transitions_of, automaton_end}
use Rattle.formats.specs.AutomatonChecks.{automaton_layout_checks, automaton_content_checks, automaton_checks}
use Rattle.formats.proofs.GoodAutomaton.{GoodSections, GoodAutomaton}
use Rattle.automaton_file.proofs.Passed.{good_sections}
use Rattle.automaton_file.proofs.RepeatedOrder.{AllFresh, passed_fresh}

module _ (input : ℕ) (bytes : List ℕ) (all : FirstFailure (automaton_checks input bytes) passed) where
  sections_passed : GoodSections bytes
  unfolding automaton_checks
  sections_passed = good_sections input bytes (passed_first _ _ all)

  content_passed : FirstFailure (automaton_content_checks input bytes) passed
  unfolding automaton_checks
  content_passed = passed_last (automaton_layout_checks input bytes) _ all

  all_fresh : AllFresh bytes (transitions_of bytes)
  all_fresh = passed_fresh input (transitions_of bytes) (passes_tail content_passed)

  -- every check passes: the file is a good automaton
  pub good_automaton : GoodAutomaton bytes
  good_automaton =
      let h : automaton_end bytes < length bytes → ⊥ = λ l. (passes_head content_passed).nowhere _ (record { longer = l; is_place = refl }) in
      record {
        sections = sections_passed;
        end = omega (arith, sections_passed.long);
        distinct = λ i j l b p a q. (all_fresh.each j b).fresh i l (record { same_from = p; same_letter = a; same_to = q });
      }
