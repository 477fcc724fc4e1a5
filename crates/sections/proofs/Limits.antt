-- How far into the input a refusal of a section lies: at most where the section ends for some count in its range; and so for sections
-- one after the other. Assumes nothing.
use Prim.Native.Nat.{ℕ, ◌+◌, ◌≤◌, ◌<◌}
use mathlib.Core.Path.{refl}
use mathlib.Core.Logic.{inr}
use mathlib.Core.List.{List}
use native.Mathlib.Omega.{arith}
use lib.ListN.{drop}
use Rattle.answer.proofs.Limits.{Limited, limited_nil, limited_cons, limited_append}
use Rattle.formats.specs.Sections.{Section, count_bytes, count_at, TruncatedAt, CountOutAt, EntryOutAt, section_checks}
use Rattle.formats.proofs.SectionList.{SectionList, last, next, size_for, list_checks, good_at}

pub section_limited : {Within : ℕ → ℕ → Type 0} (s : Section) (input at : ℕ) (rest : List ℕ)
    → ((count place : ℕ) → count ≤ s.high → place ≤ at + (count_bytes s.width + s.entries count) → Within input place)
    → Limited Within (section_checks s input at rest)
unfolding section_checks
section_limited s input at rest inside =
    limited_cons (λ place (f : TruncatedAt _ _ _ place). inside 0 place (omega arith) (omega (arith, f.short, f.is_place)))
    (λ there. limited_cons (λ place (f : CountOutAt _ _ _ _ place). inside 0 place (omega arith) (omega (arith, f.is_place)))
    (λ range.
    let h : s.high < count_at s.width rest → ⊥ = λ l. range.nowhere at (record { outside = inr l; is_place = refl }) in
    let l : count_at s.width rest ≤ s.high = omega arith in
    limited_cons (λ place (f : TruncatedAt _ _ _ place). inside _ place l (omega (arith, f.short, f.is_place)))
    (λ full. limited_cons (λ place (f : EntryOutAt _ _ _ _ _ _ place). inside _ place l (omega (arith, f.below, f.is_place))) (λ none. limited_nil))))

-- for all counts in their ranges
abbrev pub AllWithin : (ℕ → Type 0) → SectionList → ℕ → Type 0
AllWithin Within (last s) at = (count place : ℕ) → count ≤ s.high → place ≤ at + size_for s count → Within place
AllWithin Within (next s more) at =
    ((count place : ℕ) → count ≤ s.high → place ≤ at + size_for s count → Within place)
    × ((count : ℕ) → count ≤ s.high → AllWithin Within (more count) (at + size_for s count))

pub list_limited : {Within : ℕ → ℕ → Type 0} (list : SectionList) (input at : ℕ) (bytes : List ℕ) → AllWithin (Within input) list at
    → Limited Within (list_checks list input at bytes)
unfolding list_checks
list_limited (last s) input at bytes inside = section_limited s input at (drop at bytes) inside
list_limited (next s more) input at bytes inside =
    limited_append (section_checks s input at (drop at bytes)) (section_limited s input at (drop at bytes) inside.0)
    (λ p. list_limited (more _) input _ bytes (inside.1 _ (good_at s input at bytes p).within))
