-- Where the refusals of the exported calls lie, for inputs of any length: those of a file no further in than the longest file reaches,
-- since its counts are looked at first, and those of a word within the longest word, or the longest of events. Assumes nothing.
use Prim.Native.Nat.{ℕ, zero, suc, ◌+◌, ◌*◌, ◌≤◌, ◌<◌}
use mathlib.Core.Path.{◌≡◌, refl, subst}
use mathlib.Core.Logic.{inr}
use mathlib.Core.List.{List, ◌∷◌}
use native.Mathlib.Omega.{arith}
use native.Mathlib.Nat.{mul-le-mul}
use lib.ListN.{length}
use Rattle.answer.specs.declared.Refusal.{Refusal}
use Rattle.answer.specs.Refusals.{number_of}
use Rattle.answer.specs.Checks.{Check, passed, refused, FirstFailure}
use Rattle.answer.proofs.Limits.{Limited, limited_nil, limited_cons, limited_append, number_range}
use Rattle.theory.specs.Rules.{Morphism}
use Rattle.formats.specs.TableChecks.{NotAssociativeAt, UnreachedAt}
use Rattle.formats.specs.Sections.{two_bytes, section_checks}
use Rattle.formats.proofs.Sections.{passed_good}
use Rattle.sections.proofs.Limits.{section_limited, list_limited}
use Rattle.formats.specs.RuleFile.{mark_width, elements_of, letters_at, marks_at, marks_of, rule_end, morphism_of, marks_section}
use Rattle.formats.specs.RuleChecks.{TrailingAt, UnlinkedAt, RepeatedAt, ShortAt, mark_checks, layout_checks, table_checks, content_checks, rule_checks, second_marks_checks, buffer_check, rule_size}
use Rattle.formats.proofs.RuleSections.{rule_sections, rule_list, rule_in_any}
use Rattle.formats.specs.Calls.{checked_checks}
use Rattle.formats.proofs.SectionsPassed.{size_small, letters_small, marks_small}
use Rattle.formats.specs.WordChecks.{longest_word, LengthOutAt, UnknownLetterAt, lasso_checks}
use Rattle.promises.specs.EventWords.{longest_log, LogTooLongAt, log_checks}
use Rattle.packing.proofs.ReadBack.{RefusalFits}

-- where refusals lie: in an input up to 7, and below the length of the longest word of events, 2 to the power 24, which the last letter's place is just below; a number has
-- room for places below 2 to the power 48
pub record Near (input place : ℕ) : Type 0 where
  pub input_small : input ≤ 7
  pub place_small : place < longest_log

pub near_limit : {input place : ℕ} → input ≤ 7 → place < longest_log → Near input place
near_limit i l = record { input_small = i; place_small = l }

-- a refusal that lies there is packed whole
pub refused_fits : {checks : List Check} (r : Refusal) {input place : ℕ} → Limited Near checks → FirstFailure checks (refused r input place)
    → RefusalFits (number_of r) input place
refused_fits r l f =
    let there = l.refusals _ _ _ f in
    let number = number_range r in
    record {
      number_some = number.0;
      number_small = omega (arith, number.1);
      input_small = omega arith;
      place_small = omega arith;
    }

pub at_zero : {place : ℕ} → place ≡ 0 → Near 1 place
at_zero e = near_limit (omega arith) (omega arith)

pub buffer_limited : {needed : ℕ} {buffer : List ℕ} {checks : List Check} → Limited Near checks → Limited Near (buffer_check needed buffer ∷ checks)
buffer_limited l = limited_cons (λ place (f : ShortAt _ _ place). at_zero f.is_place) (λ _. l)

-- 5, 6
table_limited : (input : ℕ) (m : Morphism) → input ≤ 7 → m.size ≤ 64 → Limited Near (table_checks input m)
table_limited input m known small =
    limited_cons
    (λ place (f : NotAssociativeAt m place). near_limit known (omega (arith, f.is_place, f.a_inside, f.b_inside, f.c_inside)))
    (λ _. limited_cons (λ place (f : UnreachedAt m place). near_limit known (omega (arith, f.inside))) (λ _. limited_nil))

-- 7, 8
marks_limited : (input : ℕ) (m : Morphism) (bytes : List ℕ) (at i count : ℕ) → input ≤ 7 → at + (2 + mark_width * (i + count)) ≤ rule_size
    → Limited Near (mark_checks input m bytes at i count)
unfolding mark_checks
marks_limited input m bytes at i zero known l = limited_nil
marks_limited input m bytes at i (suc count) known l =
    limited_cons (λ place (f : UnlinkedAt _ _ _ _ place). near_limit known (omega (arith, f.is_place)))
    (λ _. limited_cons (λ place (f : RepeatedAt _ _ _ place). near_limit known (omega (arith, f.is_place)))
    (λ _. marks_limited input m bytes at (suc i) count known (omega arith)))

module _ (input : ℕ) (bytes : List ℕ) (known : input ≤ 7) where
  -- 1 to 3
  layout_limited : Limited Near (layout_checks input bytes)
  layout_limited =
      subst (Limited Near) (rule_list input bytes)
      (list_limited rule_sections input 0 bytes (
        λ n place h l. near_limit known (omega (arith, mul-le-mul h h)),
        λ n small. (
          λ k place h l. near_limit known (omega (arith, mul-le-mul small small)),
          λ k few c place h l. near_limit known (omega (arith, mul-le-mul small small)),
        ),
      ))

  -- 4, 5, 6, 7 and 8
  content_limited : FirstFailure (layout_checks input bytes) passed → Limited Near (content_checks input bytes)
  unfolding rule_end marks_at letters_at
  content_limited all =
      let as_first = rule_in_any input bytes all 1 in
      let n_small = size_small bytes as_first in
      let square : elements_of bytes * elements_of bytes ≤ 64 * 64 = mul-le-mul n_small n_small in
      let k_small = letters_small bytes as_first in
      let c_small = marks_small bytes as_first in
      limited_cons (λ place (f : TrailingAt _ _ place). near_limit known (omega (arith, f.is_place)))
      (λ _. limited_append (table_checks input (morphism_of bytes)) (table_limited input (morphism_of bytes) known n_small)
      (λ _. marks_limited input (morphism_of bytes) bytes (marks_at bytes) 0 (marks_of bytes) known (omega arith)))

  -- a rule
  pub rule_limited : Limited Near (rule_checks input bytes)
  unfolding rule_checks
  rule_limited = limited_append (layout_checks input bytes) layout_limited content_limited

-- the first, with the scratch that is lent
pub checked_limited : (bytes scratch : List ℕ) → Limited Near (checked_checks 1 bytes scratch)
checked_limited bytes scratch = buffer_limited (rule_limited 1 bytes (omega arith))

-- a second marks section
pub second_limited : (rule bytes : List ℕ) → Limited Near (second_marks_checks 2 rule bytes)
unfolding second_marks_checks
second_limited rule bytes =
    limited_append (section_checks (marks_section (elements_of rule)) 2 0 bytes)
    (section_limited _ 2 0 bytes (λ c place h l. near_limit (omega arith) (omega arith)))
    (λ section.
    let c_small = (passed_good (marks_section (elements_of rule)) 2 0 bytes section).within in
    limited_cons (λ place (f : TrailingAt _ _ place). near_limit (omega arith) (omega (arith, f.is_place)))
    (λ _. marks_limited 2 (morphism_of rule) bytes 0 0 (two_bytes bytes 0) (omega arith) (omega arith)))

-- a word whose length passed
word_short : {input shortest : ℕ} {w : List ℕ} {place : ℕ} → ((p : ℕ) → LengthOutAt shortest w p → ⊥) → input ≤ 7 → place < length w → Near input place
word_short {w = w} passes known l =
    let h : longest_word < length w → ⊥ = λ g. passes 0 (record { outside = inr g; is_place = refl }) in
    near_limit known (omega arith)

-- 11 and 10 of u and v
pub lasso_limited : (k : ℕ) (u v : List ℕ) → Limited Near (lasso_checks k u v)
lasso_limited k u v =
    limited_cons (λ place (f : LengthOutAt _ u place). at_zero f.is_place)
    (λ pu. limited_cons (λ place (f : LengthOutAt _ v place). near_limit (omega arith) (omega (arith, f.is_place)))
    (λ pv. limited_cons (λ place (f : UnknownLetterAt k u place). word_short pu.nowhere (omega arith) f.inside)
    (λ _. limited_cons (λ place (f : UnknownLetterAt k v place). word_short pv.nowhere (omega arith) f.inside) (λ _. limited_nil))))

-- 11 and 10 of a word of events
pub log_limited : (k : ℕ) (w : List ℕ) → Limited Near (log_checks 1 k w)
log_limited k w =
    limited_cons (λ place (f : LogTooLongAt w place). at_zero f.is_place)
    (λ passes. limited_cons (λ place (f : UnknownLetterAt k w place). near_limit (omega arith)
    (let h : longest_log < length w → ⊥ = λ g. passes.nowhere 0 (record { above = g; is_place = refl }) in omega (arith, f.inside))) (λ _. limited_nil))
