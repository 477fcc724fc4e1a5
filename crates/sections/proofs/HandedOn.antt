-- Sections read one after the other: each that passes hands the rest of the input on, and the first that refuses decides for all.
-- Assumes nothing.
use Prim.Native.Nat.{ℕ, ◌+◌, ◌≤◌}
use mathlib.Core.Path.{◌≡◌, refl, sym, ap, ◌∙◌, subst}
use mathlib.Core.List.{List}
use native.Mathlib.Omega.{arith}
use lib.ListN.{length, drop, length-drop}
use lib.Seq.{drop-drop}
use Rattle.answer.specs.declared.Refusal.{Refusal}
use Rattle.answer.specs.Checks.{Check, Verdict, passed, refused, FirstFailure}
use Rattle.answer.proofs.Order.{refused_before, passed_before}
use Rattle.formats.specs.Sections.{Section, section_checks}
use Rattle.formats.proofs.Sections.{passed_good}
use Rattle.formats.proofs.SectionList.{SectionList, last, next, first_section, count_in, count_in_lem, size_for, list_checks, rest_from, rest_of}
use Rattle.std.specs.Prelude.{Result, Err}
use Rattle.answer.specs.declared.Fault.{Fault}
use Rattle.sections.specs.Answers.{SectionPassed, SectionAnswer}

-- the sections before were read: `part` is the rest of the input from byte `at` on, and the sections that are left decide for all
pub record HandedOn (checks : ℕ → List Check) (bytes : List ℕ) (left : SectionList) (at : ℕ) (part : List ℕ) : Type 0 where
  pub is_rest : part ≡ drop at bytes
  pub inside : at ≤ length bytes
  pub decides : (input : ℕ) (v : Verdict) → FirstFailure (list_checks left input at bytes) v → FirstFailure (checks input) v

-- no section was read yet
pub handed_whole : (list : SectionList) {checks : ℕ → List Check} (bytes : List ℕ) → ((input : ℕ) → list_checks list input 0 bytes ≡ checks input)
    → HandedOn checks bytes list 0 bytes
handed_whole list bytes e =
    record { is_rest = refl; inside = omega arith; decides = λ input v f. subst (λ (c : List Check). FirstFailure c v) (e input) f }

-- a refusal of its first section refuses a list
first_refuses : (list : SectionList) (input at : ℕ) (bytes : List ℕ) (r : Refusal) (place : ℕ)
    → FirstFailure (section_checks (first_section list) input at (drop at bytes)) (refused r input place)
    → FirstFailure (list_checks list input at bytes) (refused r input place)
unfolding list_checks
first_refuses (last s) input at bytes r place f = f
first_refuses (next s more) input at bytes r place f = refused_before _ _ f

module _ {checks : ℕ → List Check} {bytes : List ℕ} {left : SectionList} {at : ℕ} {part : List ℕ} (h : HandedOn checks bytes left at part) where
  -- the part ends where the input does
  pub part_length : at + length part ≡ length bytes
  part_length = omega (arith, ap length h.is_rest, length-drop at bytes, h.inside)

  -- the next section refuses
  pub handed_refused : (answer : Result ℕ Fault) → SectionAnswer (first_section left) at part answer → {f : Fault} → answer ≡ Err f
      → (input : ℕ) → FirstFailure (checks input) (refused f.refusal input f.place)
  handed_refused answer known {f} e input =
      h.decides input _
      (first_refuses left input at bytes f.refusal f.place
      (subst (λ (x : List ℕ). FirstFailure (section_checks (first_section left) input at x) (refused f.refusal input f.place)) h.is_rest
      (subst (SectionAnswer (first_section left) at part) e known input)))

  module _ {count : ℕ} (p : SectionPassed (first_section left) at part count) where
    -- or it passes, with the count that stands at its place
    pub handed_count : count ≡ count_in (first_section left).width bytes at
    handed_count = (subst (λ (x : List ℕ). SectionPassed (first_section left) at x count) h.is_rest p).is_count ∙ count_in_lem (first_section left).width bytes at

    -- and lies within the part
    pub handed_long : size_for (first_section left) count ≤ length part
    handed_long =
        subst (λ (c : ℕ). size_for (first_section left) c ≤ length part) (sym p.is_count)
        (passed_good (first_section left) 1 at part (p.refusal 1)).entries_present

    passed_here : (input : ℕ) → FirstFailure (section_checks (first_section left) input at (drop at bytes)) passed
    passed_here input = subst (λ (x : List ℕ). FirstFailure (section_checks (first_section left) input at x) passed) h.is_rest (p.refusal input)

module _ {checks : ℕ → List Check} {bytes : List ℕ} {s : Section} {at : ℕ} {part : List ℕ} {count : ℕ} where
  -- the last section passes, and so do all
  pub handed_last : HandedOn checks bytes (last s) at part → SectionPassed s at part count → (input : ℕ) → FirstFailure (checks input) passed
  unfolding list_checks
  handed_last h p input = h.decides input passed (passed_here h p input)

  -- a section that passes hands the rest on, which begins at the place where the section ends
  pub handed_next : {more : ℕ → SectionList} {place : ℕ} → HandedOn checks bytes (next s more) at part → SectionPassed s at part count
      → at + size_for s count ≡ place → HandedOn checks bytes (more count) place (rest_from part (size_for s count))
  unfolding list_checks
  handed_next {more} h p ends =
      subst (λ (x : ℕ). HandedOn checks bytes (more count) x (rest_from part (size_for s count))) ends
      (record {
        is_rest = rest_of part (size_for s count) ∙ ap (drop (size_for s count)) h.is_rest ∙ drop-drop (size_for s count) at bytes;
        inside = omega (arith, part_length h, handed_long h p);
        decides = λ input v f.
            h.decides input v
            (passed_before _ _ (passed_here h p input)
            (subst (λ (c : ℕ). FirstFailure (list_checks (more c) input (at + size_for s c) bytes) v) (handed_count h p) f));
      })
