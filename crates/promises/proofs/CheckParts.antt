-- Two lists of checks in a row: which of them decided, and the second where the first passes. And a rule that passes as one input passes as another.
-- Assumes nothing.
use Prim.Native.Nat.{ℕ, zero, suc}
use mathlib.Core.Path.{◌≡◌, sym, subst}
use mathlib.Core.List.{List, [], ◌∷◌, ◌++◌}
use Rattle.answer.specs.Checks.{Check, Verdict, passed, numbered, FirstFailure}
use Rattle.answer.proofs.Order.{FirstCase, decides_now, hands_on, first_case, first_passes, first_fails, none_left, passed_before, passed_first, passed_last, passes_head, passes_tail, refused_before}
use Rattle.theory.specs.Rules.{Morphism}
use Rattle.formats.specs.RuleFile.{marks_at, marks_of, morphism_of}
use Rattle.formats.specs.RuleChecks.{mark_checks, layout_checks, table_checks, content_checks, rule_checks}
use Rattle.formats.proofs.RuleSections.{rule_in_any}

-- the first checks refuse, or they pass and the others decide
pub data FirstOf (before after : List Check) (v : Verdict) : Type 0 where
  by_first : {number input place : ℕ} → v ≡ numbered number input place → FirstFailure before v → FirstOf before after v
  by_last : FirstFailure before passed → FirstFailure after v → FirstOf before after v

pub first_of : (before after : List Check) {v : Verdict} → FirstFailure (before ++ after) v → FirstOf before after v
first_of [] after f = by_last none_left f
first_of (c ∷ before) after {v} f = go (first_case f) (first_of before after)
  where
    more : FirstOf before after v → (FirstFailure before v → FirstFailure (c ∷ before) v) → (FirstFailure before passed → FirstFailure (c ∷ before) passed) → FirstOf (c ∷ before) after v
    more (by_first e g) front front-passes = by_first e (front g)
    more (by_last g h) front front-passes = by_last (front-passes g) h

    go : FirstCase c (before ++ after) v → (FirstFailure (before ++ after) v → FirstOf before after v) → FirstOf (c ∷ before) after v
    go (decides_now r) rest = by_first r.verdict (subst (FirstFailure (c ∷ before)) (sym r.verdict) (first_fails c r.fails))
    go (hands_on p g) rest = more (rest g) (first_passes p) (first_passes p)

-- other checks behind the same, which come to the same
pub behind_same : (before after after' : List Check) {v : Verdict} → (FirstFailure after v → FirstFailure after' v) → FirstFailure (before ++ after) v
    → FirstFailure (before ++ after') v
behind_same before after after' {v} same f = go (first_of before after f)
  where
    go : FirstOf before after v → FirstFailure (before ++ after') v
    go (by_first e g) = subst (FirstFailure (before ++ after')) (sym e) (refused_before before after' (subst (FirstFailure before) e g))
    go (by_last g h) = passed_before before after' g (same h)

-- the second list decides where the first passes
pub behind_passed : (before after : List Check) {v : Verdict} → FirstFailure before passed → FirstFailure (before ++ after) v → FirstFailure after v
behind_passed [] after p f = f
behind_passed (c ∷ before) after {v} p f = go (first_case f) (behind_passed before after (passes_tail p))
  where
    go : FirstCase c (before ++ after) v → (FirstFailure (before ++ after) v → FirstFailure after v) → FirstFailure after v
    go (decides_now r) rest = absurd ((passes_head p).nowhere r.place r.fails)
    go (hands_on q g) rest = rest g

-- 7 and 8 fail in one input where they do in another
marks_in_any : (input other : ℕ) (m : Morphism) (bytes : List ℕ) (at i count : ℕ) → FirstFailure (mark_checks input m bytes at i count) passed
    → FirstFailure (mark_checks other m bytes at i count) passed
unfolding mark_checks
marks_in_any input other m bytes at i zero f = none_left
marks_in_any input other m bytes at i (suc count) f =
    first_passes (record { nowhere = (passes_head f).nowhere })
    (first_passes (record { nowhere = (passes_head (passes_tail f)).nowhere }) (marks_in_any input other m bytes at (suc i) count (passes_tail (passes_tail f))))

-- a rule that passes as one input passes as another
pub rule_as : (input other : ℕ) (bytes : List ℕ) → FirstFailure (rule_checks input bytes) passed → FirstFailure (rule_checks other bytes) passed
unfolding rule_checks
rule_as input other bytes all =
    let content = passed_last (layout_checks input bytes) (content_checks input bytes) all in
    let table = passed_first (table_checks input (morphism_of bytes)) _ (passes_tail content) in
    let marks = passed_last (table_checks input (morphism_of bytes)) _ (passes_tail content) in
    passed_before (layout_checks other bytes) (content_checks other bytes) (rule_in_any input bytes (passed_first (layout_checks input bytes) (content_checks input bytes) all) other)
    (first_passes (record { nowhere = (passes_head content).nowhere })
    (first_passes (record { nowhere = (passes_head table).nowhere })
    (first_passes (record { nowhere = (passes_head (passes_tail table)).nowhere })
    (marks_in_any input other (morphism_of bytes) bytes (marks_at bytes) 0 (marks_of bytes) marks))))
