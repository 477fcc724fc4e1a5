-- Each check of a rule file fails at one place at most, so the checks have one verdict only. Assumes nothing.
use Prim.Native.Nat.{ℕ, zero, suc}
use mathlib.Core.Path.{subst}
use mathlib.Core.List.{List}
use Rattle.answer.proofs.Order.{AllSingle, single_nil, single_at, single_cons, single_append}
use Rattle.theory.specs.Rules.{Morphism}
use Rattle.formats.proofs.Tables.{not_associative_unique, unreached_unique}
use Rattle.formats.proofs.SectionList.{list_single}
use Rattle.formats.proofs.RuleSections.{rule_sections, rule_list}
use Rattle.formats.specs.RuleFile.{marks_at, marks_of, morphism_of}
use Rattle.formats.proofs.Buffers.{buffer_single}
use Rattle.formats.specs.RuleChecks.{UnlinkedAt, TrailingAt, RepeatedAt, layout_checks, table_checks, mark_checks, content_checks, rule_checks}
use Rattle.formats.specs.Calls.{checked_checks}

module _ (input : ℕ) where
  -- 5, 6
  pub table_single : (m : Morphism) → AllSingle (table_checks input m)
  table_single m =
      single_cons (record { one_place = λ p q a b. not_associative_unique a b })
      (single_cons (record { one_place = λ p q a b. unreached_unique a b }) single_nil)

  -- 7, 8
  pub marks_single : (m : Morphism) (bytes : List ℕ) (at i count : ℕ) → AllSingle (mark_checks input m bytes at i count)
  unfolding mark_checks
  marks_single m bytes at i zero = single_nil
  marks_single m bytes at i (suc count) =
      single_cons (single_at (λ place (a : UnlinkedAt _ _ _ _ place). a.is_place))
      (single_cons (single_at (λ place (a : RepeatedAt _ _ _ place). a.is_place)) (marks_single m bytes at (suc i) count))

  module _ (bytes : List ℕ) where
    -- 1 to 3
    layout_single : AllSingle (layout_checks input bytes)
    layout_single = subst AllSingle (rule_list input bytes) (list_single rule_sections input 0 bytes)

    content_single : AllSingle (content_checks input bytes)
    content_single =
        single_cons (single_at (λ place (a : TrailingAt _ _ place). a.is_place))
        (single_append (table_single (morphism_of bytes)) (marks_single (morphism_of bytes) bytes (marks_at bytes) 0 (marks_of bytes)))

    -- every check of a rule file fails at one place at most
    pub rule_single : AllSingle (rule_checks input bytes)
    unfolding rule_checks
    rule_single = single_append layout_single content_single

    -- also with that of the scratch before them
    pub checked_single : (scratch : List ℕ) → AllSingle (checked_checks input bytes scratch)
    checked_single scratch = buffer_single rule_single
