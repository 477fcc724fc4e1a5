-- Sections one after the other: each begins where the one before ends, and the counts before it say what it holds. Assumes nothing.
use Prim.Native.Nat.{ℕ, ◌+◌, ◌*◌, ◌-◌, ◌≤◌, ◌<◌}
use mathlib.Core.Path.{◌≡◌, ap, ap₂, ◌∙◌, subst}
use mathlib.Core.List.{List, ◌++◌}
use native.Mathlib.Omega.{arith}
use native.Mathlib.Nat.{add-zero, zero-add}
use lib.ListN.{length, get_or, take, drop, length-drop}
use lib.Seq.{take_all, get_or-drop}
use Rattle.answer.specs.Checks.{Check, passed, FirstFailure}
use Rattle.answer.proofs.Order.{AllSingle, single_append, passed_before, passed_first, passed_last}
use Rattle.formats.specs.Sections.{CountWidth, one_byte, two-byte, count_bytes, count_at, two_bytes, Section, InRange, section_checks}
use Rattle.formats.proofs.Sections.{passed_good, good_passes, section_single}

-- a list of sections, each given the counts before it
pub data SectionList : Type 0 where
  last : Section → SectionList
  next : Section → (ℕ → SectionList) → SectionList

abbrev pub first_section : SectionList → Section
first_section (last s) = s
first_section (next s more) = s

-- the count at a byte of the whole input
abbrev pub count_in : CountWidth → List ℕ → ℕ → ℕ
count_in one_byte bytes at = get_or bytes at 0
count_in two-byte bytes at = two_bytes bytes at

-- how many bytes a section of a count takes
abbrev pub size_for : Section → ℕ → ℕ
size_for s count = count_bytes s.width + s.entries count

-- the checks of a list that begins at a byte of the input, section by section
unfoldable pub list_checks : SectionList → ℕ → ℕ → List ℕ → List Check
list_checks (last s) input at bytes = section_checks s input at (drop at bytes)
list_checks (next s more) input at bytes =
    section_checks s input at (drop at bytes)
    ++ list_checks (more (count_in s.width bytes at)) input (at + size_for s (count_in s.width bytes at)) bytes

-- the bytes of a section that is the rest of an input, in the whole input
pub first_byte : (bytes : List ℕ) (at : ℕ) → get_or (drop at bytes) 0 0 ≡ get_or bytes at 0
first_byte bytes at = get_or-drop at bytes 0 0 ∙ ap (λ (x : ℕ). get_or bytes x 0) (add-zero at)

pub count_in_lem : (width : CountWidth) (bytes : List ℕ) (at : ℕ) → count_at width (drop at bytes) ≡ count_in width bytes at
unfolding two_bytes
count_in_lem one_byte bytes at = first_byte bytes at
count_in_lem two-byte bytes at = ap₂ (λ (x y : ℕ). x + 256 * y) (first_byte bytes at) (get_or-drop at bytes 1 0)

-- a part of an input from a place on, as the code takes it
abbrev pub rest_from : List ℕ → ℕ → List ℕ
rest_from bytes at = take (length bytes - at) (drop at bytes)

pub rest_of : (bytes : List ℕ) (at : ℕ) → rest_from bytes at ≡ drop at bytes
rest_of bytes at = take_all (length bytes - at) (drop at bytes) (omega (arith, length-drop at bytes))

-- a section at a byte of the input, as it should be
pub record GoodAt (s : Section) (bytes : List ℕ) (at : ℕ) : Type 0 where
  pub above : s.low ≤ count_in s.width bytes at
  pub within : count_in s.width bytes at ≤ s.high
  pub inside : at + size_for s (count_in s.width bytes at) ≤ length bytes
  pub entries_good : (i : ℕ) → i < s.entries (count_in s.width bytes at)
      → InRange (s.floor (count_in s.width bytes at) i) (s.bound (count_in s.width bytes at) i) (get_or bytes (at + (count_bytes s.width + i)) 0)

-- each section of a list at its place
abbrev pub AllGood : SectionList → ℕ → List ℕ → Type 0
AllGood (last s) at bytes = GoodAt s bytes at
AllGood (next s more) at bytes =
    GoodAt s bytes at × AllGood (more (count_in s.width bytes at)) (at + size_for s (count_in s.width bytes at)) bytes

-- where the first stands at the front, the others begin at its end
pub after_first : (s : Section) (more : ℕ → SectionList) (bytes : List ℕ) → AllGood (next s more) 0 bytes
    → AllGood (more (count_in s.width bytes 0)) (size_for s (count_in s.width bytes 0)) bytes
after_first s more bytes g = subst (λ (at : ℕ). AllGood (more (count_in s.width bytes 0)) at bytes) (zero-add _) g.1

some_bytes : (width : CountWidth) → 1 ≤ count_bytes width
some_bytes one_byte = omega arith
some_bytes two-byte = omega arith

module _ (s : Section) (input at : ℕ) (bytes : List ℕ) (passes : FirstFailure (section_checks s input at (drop at bytes)) passed) where
  -- a section that passes is good at its place
  pub good_at : GoodAt s bytes at
  good_at =
      let g = passed_good s input at (drop at bytes) passes in
      let e = count_in_lem s.width bytes at in
      let long : size_for s (count_in s.width bytes at) ≤ length (drop at bytes) =
      subst (λ (c : ℕ). size_for s c ≤ length (drop at bytes)) e g.entries_present in
      record {
        above = subst (λ (c : ℕ). s.low ≤ c) e g.above;
        within = subst (λ (c : ℕ). c ≤ s.high) e g.within;
        inside = omega (arith, long, length-drop at bytes, some_bytes s.width);
        entries_good = λ i h.
            subst (InRange (s.floor (count_in s.width bytes at) i) (s.bound (count_in s.width bytes at) i))
            (get_or-drop at bytes (count_bytes s.width + i) 0)
            (subst (λ (c : ℕ). i < s.entries c → InRange (s.floor c i) (s.bound c i) (get_or (drop at bytes) (count_bytes s.width + i) 0)) e (g.entries_good i) h);
      }

  -- and passes in any input
  section_in_any : (other : ℕ) → FirstFailure (section_checks s other at (drop at bytes)) passed
  section_in_any other = good_passes s other at (drop at bytes) (passed_good s input at (drop at bytes) passes)

-- sections that pass are good, each at its place
pub all_good : (list : SectionList) (input at : ℕ) (bytes : List ℕ) → FirstFailure (list_checks list input at bytes) passed → AllGood list at bytes
unfolding list_checks
all_good (last s) input at bytes f = good_at s input at bytes f
all_good (next s more) input at bytes f =
    (good_at s input at bytes (passed_first _ _ f), all_good (more _) input _ bytes (passed_last (section_checks s input at (drop at bytes)) _ f))

-- sections that pass in one input pass in any
pub passed_in_any : (list : SectionList) (input other at : ℕ) (bytes : List ℕ) → FirstFailure (list_checks list input at bytes) passed
    → FirstFailure (list_checks list other at bytes) passed
unfolding list_checks
passed_in_any (last s) input other at bytes f = section_in_any s input at bytes f other
passed_in_any (next s more) input other at bytes f =
    passed_before _ _ (section_in_any s input at bytes (passed_first _ _ f) other)
    (passed_in_any (more _) input other _ bytes (passed_last (section_checks s input at (drop at bytes)) _ f))

-- each check fails at one place at most
pub list_single : (list : SectionList) (input at : ℕ) (bytes : List ℕ) → AllSingle (list_checks list input at bytes)
unfolding list_checks
list_single (last s) input at bytes = section_single s input at (drop at bytes)
list_single (next s more) input at bytes = single_append (section_single s input at (drop at bytes)) (list_single (more _) input _ bytes)
