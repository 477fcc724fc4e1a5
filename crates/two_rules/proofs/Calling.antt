-- Two files that were checked and decided, for the calls that get them: what both rules are, what the strengths say of the files, and what scratch holds and
-- is left as. Assumes nothing.
use Rattle.std.specs.Prelude.{Result, Ok, Err}
use Rattle.answer.specs.declared.Refused.{Refused}
use Rattle.answer.proofs.Parts.{refused_by}
use Prim.Native.Nat.{ℕ, ◌≤◌}
use mathlib.Core.Path.{◌≡◌, sym, ◌∙◌, subst}
use mathlib.Core.List.{List, ◌++◌, append_assoc}
use native.Mathlib.Omega.{arith}
use lib.ListN.{length, replicate}
use Rattle.answer.specs.declared.Refusal.{Refusal}
use Rattle.answer.specs.Checks.{Check, Verdict, passed, refused, FirstFailure}
use Rattle.answer.proofs.Order.{refused_before, passed_before, passed_first, passed_last}
use Rattle.theory.specs.Rules.{Morphism, Marking}
use Rattle.theory.specs.Grades.{StrongMarking}
use Rattle.formats.proofs.Tables.{Table}
use Rattle.formats.specs.Table.{morphism_at}
use Rattle.formats.specs.RuleFile.{elements_of, morphism_of, marking_of}
use Rattle.formats.specs.RuleChecks.{rule_checks, scratch_size}
use Rattle.formats.specs.Calls.{after_call, checked_checks}
use Rattle.scratch.specs.Map.{search_end, MarkingAt}
use Rattle.rule_layout.specs.declared.Shape.{Shape}
use Rattle.rule_layout.specs.Answers.{IsShape}
use Rattle.formats.proofs.GoodRule.{good_rule, GoodRule, scratch_long, called_good}
use Rattle.rule_check.proofs.Calls.{zeros_left, shape_morphism, shape_table}
use Rattle.mark_strong.specs.Deciding.{DecideNeeds}
use Rattle.mark_strong.proofs.Calling.{shape_graded, shape_needs}
use Rattle.two_rules.specs.Checking.{BothPromise}
use Rattle.two_rules.specs.Deciding.{BothStrong, OnlyFirstStrong, StrengthsAre, BothDecided, StrongFiles}
use Rattle.two_rules.specs.declared.Strengths.{Strengths}
use Rattle.two_rules.specs.declared.Strengths.TheVariants.{Strong, FirstWeak, SecondWeak}

-- the answer of both checks, known by its case
module _ (first second entry exit : List ℕ) (answer : Result (Shape × Shape) Refused) (known : BothPromise first second entry exit answer) where
  pub both_rules : {one two : Shape} → answer ≡ Ok (one, two) → BothPromise first second entry exit (Ok (one, two))
  both_rules e = subst (BothPromise first second entry exit) e known

  pub both_refused : {r : Refusal} {i place : ℕ} → answer ≡ Err (refused_by r i place) → BothPromise first second entry exit (Err (refused_by r i place))
  both_refused e = subst (BothPromise first second entry exit) e known

-- a refusal stays the verdict whatever checks a call has after those of the files
pub refused_then : (first second entry : List ℕ) (after : List Check) {exit : List ℕ} {r : Refusal} {i place : ℕ} → BothPromise first second entry exit (Err (refused_by r i place))
    → FirstFailure (checked_checks 1 first entry ++ (rule_checks 2 second ++ after)) (refused r i place)
refused_then first second entry after {r = r} {i} {place} p =
    subst (λ (checks : List Check). FirstFailure checks (refused r i place)) (append_assoc (checked_checks 1 first entry) (rule_checks 2 second) after) (refused_before _ after p.refusal)

-- a marking that stands in a table stands there by the counts that were read
shape_stands : {bytes scratch : List ℕ} {shape : Shape} {base : ℕ} (marks : Marking) → IsShape bytes shape → MarkingAt (elements_of bytes) marks scratch base
    → MarkingAt shape.elements marks scratch base
shape_stands {scratch = scratch} {base = base} marks is t = subst (λ (n : ℕ). MarkingAt n marks scratch base) (sym is.elements) t

module _ (first second entry : List ℕ) {one two : Shape} {mid : List ℕ} (p : BothPromise first second entry mid (Ok (one, two))) where
  abbrev m₁ : Morphism
  m₁ = morphism_at first one.elements one.letters

  abbrev m₂ : Morphism
  m₂ = morphism_at second two.elements two.letters

  first_passed : FirstFailure (checked_checks 1 first entry) passed
  first_passed = passed_first _ _ p.refusal

  second_passed : FirstFailure (rule_checks 2 second) passed
  second_passed = passed_last (checked_checks 1 first entry) _ p.refusal

  -- the checks that a call has after those of the files decide
  pub passed_then : (after : List Check) {v : Verdict} → FirstFailure after v → FirstFailure (checked_checks 1 first entry ++ (rule_checks 2 second ++ after)) v
  passed_then after f = passed_before _ _ first_passed (passed_before _ _ second_passed f)

  pub first_good : GoodRule first
  first_good = called_good 1 first entry first_passed

  pub second_good : GoodRule second
  second_good = good_rule 2 second second_passed

  pub first_is_table : Table first one.elements one.letters
  first_is_table = shape_table p.scratch.first_shape first_good.table

  pub second_is_table : Table second two.elements two.letters
  second_is_table = shape_table p.scratch.second_shape second_good.table

  pub both_room : scratch_size ≤ length mid
  both_room = omega (arith, scratch_long 1 first entry first_passed, p.scratch.same_length)

  first_stands : MarkingAt one.elements (marking_of first) mid 0
  first_stands = shape_stands (marking_of first) p.scratch.first_shape p.scratch.first_marks

  second_stands : MarkingAt two.elements (marking_of second) mid search_end
  second_stands = shape_stands (marking_of second) p.scratch.second_shape p.scratch.second_marks

  -- both strengths can be decided
  pub first_needs : DecideNeeds (morphism_at first one.elements one.letters) 0 mid
  first_needs = shape_needs first_good p.scratch.first_shape first_stands both_room

  pub second_needs : DecideNeeds (morphism_at second two.elements two.letters) search_end mid
  second_needs = shape_needs second_good p.scratch.second_shape second_stands both_room

  -- zeros over the whole length are what a call leaves
  pub both_left : (was end : List ℕ) → length was ≡ length mid → end ≡ replicate (length was) 0 → end ≡ after_call entry
  both_left was end e z = zeros_left 1 first entry first_passed was end (e ∙ p.scratch.same_length) z

  module _ {exit : List ℕ} {answer : Strengths} (d : BothDecided m₁ m₂ mid exit answer) where
    -- the verdict on the files
    pub files_strengths : StrengthsAre (morphism_of first) (morphism_of second) (marking_of first) (marking_of second) exit answer
    files_strengths =
        subst (λ (m : Morphism). StrengthsAre (morphism_of first) m (marking_of first) (marking_of second) exit answer) (shape_morphism p.scratch.second_shape)
        (subst (λ (m : Morphism). StrengthsAre m m₂ (marking_of first) (marking_of second) exit answer) (shape_morphism p.scratch.first_shape)
        (d.strengths (marking_of first) (marking_of second) (shape_graded first_good p.scratch.first_shape) (shape_graded second_good p.scratch.second_shape) first_stands second_stands))

    -- both are strong, and the closures of their marks stand in scratch
    files_strong : answer ≡ Strong → BothStrong (morphism_of first) (morphism_of second) (marking_of first) (marking_of second) exit
    files_strong e = subst (StrengthsAre (morphism_of first) (morphism_of second) (marking_of first) (marking_of second) exit) e files_strengths

    pub first_file_weak : answer ≡ FirstWeak → StrongMarking (morphism_of first) (marking_of first) → ⊥
    first_file_weak e = subst (StrengthsAre (morphism_of first) (morphism_of second) (marking_of first) (marking_of second) exit) e files_strengths

    pub second_file_weak : answer ≡ SecondWeak → OnlyFirstStrong (morphism_of first) (morphism_of second) (marking_of first) (marking_of second)
    second_file_weak e = subst (StrengthsAre (morphism_of first) (morphism_of second) (marking_of first) (marking_of second) exit) e files_strengths

    strengths_room : scratch_size ≤ length exit
    strengths_room = omega (arith, both_room, d.same_length)

    pub strong_files : answer ≡ Strong → StrongFiles first second one two exit
    strong_files e = record {
      first_good = first_good;
      second_good = second_good;
      first_shape = p.scratch.first_shape;
      second_shape = p.scratch.second_shape;
      strong = files_strong e;
      room = strengths_room;
    }

    pub strengths_left : (was end : List ℕ) → length was ≡ length exit → end ≡ replicate (length was) 0 → end ≡ after_call entry
    strengths_left was end e z = both_left was end (e ∙ d.same_length) z
