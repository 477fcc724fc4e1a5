-- The checks of a rule, of a monitor's values and of strength never come to 10: it is the number of letters alone. Assumes nothing.
use Prim.Native.Nat.{ℕ, zero, suc}
use mathlib.Core.Path.{◌≡◌}
use mathlib.Core.List.{List, [], ◌∷◌, ◌++◌}
use native.Mathlib.Omega.{arith}
use Rattle.answer.specs.declared.Refusal.TheVariants.{UnknownLetter}
use Rattle.answer.specs.Refusals.{number_of}
use Rattle.answer.specs.Checks.{Check, numbered, FirstFailure}
use Rattle.answer.proofs.Order.{FirstCase, decides_now, hands_on, first_case, none_left, single_nil, one_verdict}
use Rattle.answer.proofs.Verdicts.{not_passed}
use Rattle.theory.specs.Rules.{Morphism}
use Rattle.formats.specs.Sections.{Section, section_checks}
use Rattle.formats.specs.RuleFile.{marks_at, marks_of, morphism_of}
use Rattle.formats.specs.RuleChecks.{mark_checks, layout_checks, content_checks, rule_checks}
use Rattle.promises.specs.declared.Monitor.{Monitor}
use Rattle.promises.specs.Advance.{standing_checks}
use Rattle.promises.proofs.CheckParts.{FirstOf, by_first, by_last, first_of}

-- no check of the list is 10
pub record NoLetters (checks : List Check) : Type 0 where
  pub never : (input place : ℕ) → FirstFailure checks (numbered (number_of UnknownLetter) input place) → ⊥

nothing : NoLetters []
nothing = record { never = λ input place f. not_passed (one_verdict single_nil f none_left) }

one_more : {c : Check} {checks : List Check} → (number_of c.refusal ≡ number_of UnknownLetter → ⊥) → NoLetters checks → NoLetters (c ∷ checks)
one_more {c} {checks} other rest = record { never = λ input place f. go input place (first_case f) }
  where
    go : (input place : ℕ) → FirstCase c checks (numbered (number_of UnknownLetter) input place) → ⊥
    go input place (decides_now r) = let e = r.verdict in other cc
    go input place (hands_on p f) = rest.never input place f

in_a_row : (before after : List Check) → NoLetters before → NoLetters after → NoLetters (before ++ after)
in_a_row before after p q = record { never = λ input place f. go input place (first_of before after f) }
  where
    go : (input place : ℕ) → FirstOf before after (numbered (number_of UnknownLetter) input place) → ⊥
    go input place (by_first e f) = p.never input place f
    go input place (by_last passes f) = q.never input place f

section_none : (s : Section) (input at : ℕ) (rest : List ℕ) → NoLetters (section_checks s input at rest)
unfolding section_checks
section_none s input at rest = one_more (λ e. omega arith) (one_more (λ e. omega arith) (one_more (λ e. omega arith) (one_more (λ e. omega arith) nothing)))

marks_none : (input : ℕ) (m : Morphism) (bytes : List ℕ) (at i count : ℕ) → NoLetters (mark_checks input m bytes at i count)
unfolding mark_checks
marks_none input m bytes at i zero = nothing
marks_none input m bytes at i (suc count) = one_more (λ e. omega arith) (one_more (λ e. omega arith) (marks_none input m bytes at (suc i) count))

rule_none : (input : ℕ) (bytes : List ℕ) → NoLetters (rule_checks input bytes)
unfolding rule_checks
rule_none input bytes =
    in_a_row (layout_checks input bytes) (content_checks input bytes)
    (in_a_row _ _ (section_none _ _ _ _) (in_a_row _ _ (section_none _ _ _ _) (section_none _ _ _ _)))
    (one_more (λ e. omega arith) (one_more (λ e. omega arith) (one_more (λ e. omega arith)
    (marks_none input (morphism_of bytes) bytes (marks_at bytes) 0 (marks_of bytes)))))

-- of a rule and its monitor
pub standing_none : (input : ℕ) (bytes : List ℕ) (f : Monitor) → NoLetters (rule_checks input bytes ++ standing_checks input bytes f)
standing_none input bytes f = in_a_row (rule_checks input bytes) (standing_checks input bytes f) (rule_none input bytes) (one_more (λ e. omega arith) (one_more (λ e. omega arith) nothing))
