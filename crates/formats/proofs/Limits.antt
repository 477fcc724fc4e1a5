-- The numbers of the formats, each by what stands just within its limit and what just outside, and the places of 4 and 5. Assumes nothing.
use Prim.Native.Nat.{ℕ, ◌+◌, ◌≤◌}
use mathlib.Core.Path.{◌≡◌, refl}
use mathlib.Core.Logic.{inr, ⊎_elim}
use mathlib.Core.List.{List}
use native.Mathlib.Omega.{arith}
use lib.ListN.{length}
use Rattle.theory.specs.Rules.{Morphism}
use Rattle.formats.specs.Sections.{Section, CountOutAt}
use Rattle.formats.specs.RuleFile.{elements_section, letters_section, marks_section}
use Rattle.formats.specs.AutomatonFile.{states_section, transitions_section}
use Rattle.formats.specs.RuleChecks.{TrailingAt, ShortAt, scratch_size, rule_size}
use Rattle.formats.specs.TableChecks.{NotAssociativeAt}
use Rattle.formats.specs.WordChecks.{shortest_start, shortest_cycle, LengthOutAt}

-- ---- the lengths of buffers

-- a buffer of that many bytes is long enough, and one with a byte less is not
pub record Asks (needed bytes : ℕ) : Type 0 where
  pub enough : (buffer : List ℕ) (place : ℕ) → length buffer ≡ bytes → ¬ ShortAt needed buffer place
  pub too_few : (buffer : List ℕ) → length buffer + 1 ≡ bytes → ShortAt needed buffer 0

pub section_asks : {needed bytes : ℕ} → needed ≡ bytes → Asks needed bytes
section_asks e = record {
  enough = λ buffer place l s. omega (arith, e, l, s.short);
  too_few = λ buffer l. record { short = omega (arith, e, l); is_place = refl };
}

pub rule_buffer : Asks rule_size 16404
rule_buffer = section_asks refl

pub scratch_buffer : Asks scratch_size 65536
scratch_buffer = section_asks refl

-- ---- the lengths of words

-- words of so many letters pass, and of one more or one fewer do not
pub record Words (shortest least most : ℕ) : Type 0 where
  pub least_passes : (w : List ℕ) (place : ℕ) → length w ≡ least → ¬ LengthOutAt shortest w place
  pub most_passes : (w : List ℕ) (place : ℕ) → length w ≡ most → ¬ LengthOutAt shortest w place
  pub more_fail : (w : List ℕ) → length w ≡ most + 1 → LengthOutAt shortest w 0

words : {shortest : ℕ} → shortest ≤ 1 → Words shortest shortest 4224
words small = record {
  least_passes = λ w place l a. ⊎_elim (λ h. omega (arith, l, h)) (λ h. omega (arith, l, h, small)) a.outside;
  most_passes = λ w place l a. ⊎_elim (λ h. omega (arith, l, h, small)) (λ h. omega (arith, l, h)) a.outside;
  more_fail = λ w l. record { outside = inr (omega (arith, l)); is_place = refl };
}

pub start_lengths : Words shortest_start 0 4224
start_lengths = words (omega arith)

pub cycle_lengths : Words shortest_cycle 1 4224
cycle_lengths = words (omega arith)

-- ---- the counts of sections

-- that many are the most of a section, wherever it begins
pub record AtMost (section : Section) (most : ℕ) : Type 0 where
  pub most_passes : (at place : ℕ) → ¬ CountOutAt most section.low section.high at place
  pub more_fail : (at : ℕ) → CountOutAt (most + 1) section.low section.high at at

at_most : {section : Section} {most : ℕ} → section.low ≤ most → section.high ≡ most → AtMost section most
at_most some e = record {
  most_passes = λ at place a. ⊎_elim (λ h. omega (arith, some, h)) (λ h. omega (arith, e, h)) a.outside;
  more_fail = λ at. record { outside = inr (omega (arith, e)); is_place = refl };
}

pub elements_limit : AtMost elements_section 64
elements_limit = at_most (omega arith) refl

pub letters_limit : (n : ℕ) → AtMost (letters_section n) 16
letters_limit n = at_most (omega arith) refl

pub marks_limit : (n : ℕ) → AtMost (marks_section n) 4096
marks_limit n = at_most (omega arith) refl

pub states_limit : AtMost states_section 6
states_limit = at_most (omega arith) refl

pub transitions_limit : (m k : ℕ) → AtMost (transitions_section m k) 576
transitions_limit m k = at_most (omega arith) refl

-- ---- places

-- the byte behind a file of nine bytes is byte 9
pub trailing_place : {bytes : List ℕ} {place : ℕ} → TrailingAt 9 bytes place → place ≡ 9
trailing_place t = t.is_place

-- where the first triple is 40, 5, 7, the place is 40·4,096 + 5·64 + 7
pub triple_place : {m : Morphism} {place : ℕ} (f : NotAssociativeAt m place) → f.a ≡ 40 → f.b ≡ 5 → f.c ≡ 7 → place ≡ 164167
triple_place f a b c = omega (arith, f.is_place, a, b, c)
