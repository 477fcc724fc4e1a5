-- Where the refusals of an automaton file lie, as those of a rule file. Assumes nothing.
use Prim.Native.Nat.{ℕ, zero, suc, ◌+◌, ◌≤◌}
use mathlib.Core.Path.{subst}
use mathlib.Core.List.{List, [], ◌∷◌, ◌++◌}
use native.Mathlib.Omega.{arith}
use Rattle.answer.specs.Checks.{passed, FirstFailure}
use Rattle.answer.proofs.Limits.{Limited, limited_nil, limited_cons, limited_append}
use Rattle.formats.proofs.AutomatonSections.{automaton_sections, automaton_list}
use Rattle.sections.proofs.Limits.{list_limited}
use Rattle.formats.specs.RuleChecks.{TrailingAt, rule_size}
use Rattle.formats.specs.AutomatonFile.{automaton_letters_at, transitions_at, transitions_of, transition_at, automaton_end}
use Rattle.formats.specs.AutomatonChecks.{RepeatedTransitionAt, repeated_checks, automaton_layout_checks, automaton_content_checks, automaton_checks, read_checks}
use Rattle.automaton_file.proofs.Passed.{good_sections}
use Rattle.promises.specs.Automaton.{TooManyMatricesAt, matrices_check}
use Rattle.unpacking.proofs.Limits.{Near, near_limit, at_zero, buffer_limited}

module _ (bytes : List ℕ) where
  -- 1 to 3
  layout_limited : Limited Near (automaton_layout_checks 1 bytes)
  layout_limited =
      subst (Limited Near) (automaton_list 1 bytes)
      (list_limited automaton_sections 1 0 bytes (
        λ m place h l. near_limit (omega arith) (omega arith),
        λ m small. (λ k place h l. near_limit (omega arith) (omega arith), λ k few c place h l. near_limit (omega arith) (omega arith)),
      ))

  -- 8
  repeated_limited : (i count : ℕ) → transition_at bytes (i + count) ≤ rule_size → Limited Near (repeated_checks 1 bytes i count)
  unfolding repeated_checks transition_at
  repeated_limited i zero l = limited_nil
  repeated_limited i (suc count) l =
      limited_cons (λ place (f : RepeatedTransitionAt _ _ place). near_limit (omega arith) (omega (arith, f.is_place)))
      (λ _. repeated_limited (suc i) count (omega arith))

  -- 4, 8
  content_limited : FirstFailure (automaton_layout_checks 1 bytes) passed → Limited Near (automaton_content_checks 1 bytes)
  unfolding automaton_end transition_at transitions_at automaton_letters_at
  content_limited all =
      let good = good_sections 1 bytes all in
      limited_cons (λ place (f : TrailingAt _ _ place). near_limit (omega arith) (omega (arith, f.is_place, good.states_small, good.transitions_small)))
      (λ _. repeated_limited 0 (transitions_of bytes) (omega (arith, good.states_small, good.transitions_small)))

  -- an automaton, with the scratch that is lent; then 14
  pub translated_limited : (scratch : List ℕ) → Limited Near (read_checks 1 bytes scratch ++ (matrices_check bytes ∷ []))
  unfolding automaton_checks
  translated_limited scratch =
      limited_append (read_checks 1 bytes scratch) (buffer_limited (limited_append (automaton_layout_checks 1 bytes) layout_limited content_limited))
      (λ _. limited_cons (λ place (f : TooManyMatricesAt _ place). at_zero f.is_place) (λ _. limited_nil))
