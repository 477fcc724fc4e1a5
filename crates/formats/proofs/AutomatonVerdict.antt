-- The checks of an automaton file have one verdict. Assumes nothing.
use Prim.Native.Nat.{ℕ, zero, suc}
use mathlib.Core.Path.{subst}
use mathlib.Core.List.{List}
use Rattle.answer.proofs.Order.{AllSingle, single_nil, single_at, single_cons, single_append}
use Rattle.formats.proofs.SectionList.{list_single}
use Rattle.formats.proofs.AutomatonSections.{automaton_sections, automaton_list}
use Rattle.formats.proofs.Buffers.{buffer_single}
use Rattle.formats.specs.AutomatonFile.{transitions_of}
use Rattle.formats.specs.AutomatonChecks.{RepeatedTransitionAt, repeated_checks, automaton_layout_checks, automaton_checks, read_checks}
use Rattle.formats.specs.RuleChecks.{TrailingAt}

module _ (input : ℕ) (bytes : List ℕ) where
  -- 8
  repeated_single : (i count : ℕ) → AllSingle (repeated_checks input bytes i count)
  unfolding repeated_checks
  repeated_single i zero = single_nil
  repeated_single i (suc count) = single_cons (single_at (λ place (a : RepeatedTransitionAt _ _ place). a.is_place)) (repeated_single (suc i) count)

  -- 1 to 3
  layout_single : AllSingle (automaton_layout_checks input bytes)
  layout_single = subst AllSingle (automaton_list input bytes) (list_single automaton_sections input 0 bytes)

  -- every check of an automaton file fails at one place at most
  pub automaton_single : AllSingle (automaton_checks input bytes)
  unfolding automaton_checks
  automaton_single = single_append layout_single (single_cons (single_at (λ place (a : TrailingAt _ _ place). a.is_place)) (repeated_single 0 (transitions_of bytes)))

  -- also with that of the scratch before them
  pub read_single : (scratch : List ℕ) → AllSingle (read_checks input bytes scratch)
  read_single scratch = buffer_single automaton_single
