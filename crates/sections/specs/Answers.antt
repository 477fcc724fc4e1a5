-- What the answers of this crate's functions say. Assumes nothing.
use Rattle.std.specs.Prelude.{ℕ, ◌≤◌, ◌<◌, ◌≡◌, List, get_or, Result, Ok, Err}
use Rattle.answer.specs.Checks.{passed, refused, FirstFailure}
use Rattle.answer.specs.declared.Fault.{Fault}
use Rattle.formats.specs.Sections.{CountWidth, Section, count_at, count_checks, entry_checks, section_checks}
use Rattle.formats.proofs.Sections.{CountGood, EntriesGood}
use Rattle.scratch.specs.Bytes.{UnchangedOutside}

-- a part was filled with zeros, and nothing else changed
pub record PartZeroed (from to : ℕ) (entry exit : List ℕ) : Type 0 where
  pub zeros : (i : ℕ) → from ≤ i → i < to → get_or exit i 0 ≡ 0
  pub outside : UnchangedOutside from to entry exit

-- reading a count: the count, or the first of its checks that fails, whatever the number of the input
abbrev pub CountAnswer : CountWidth → ℕ → ℕ → ℕ → List ℕ → Result ℕ Fault → Type 0
CountAnswer width low high at rest (Ok count) = CountGood width low high rest count
CountAnswer width low high at rest (Err f) = (input : ℕ) → FirstFailure (count_checks width low high input at rest) (refused f.refusal input f.place)

-- passing entries: the count that was read is handed on
pub record EntriesRead (from size : ℕ) (floor bound : ℕ → ℕ) (rest : List ℕ) (count result : ℕ) : Type 0 where
  pub good : EntriesGood from size floor bound rest
  pub is_count : result ≡ count

abbrev pub EntriesAnswer : ℕ → ℕ → (ℕ → ℕ) → (ℕ → ℕ) → ℕ → List ℕ → ℕ → Result ℕ Fault → Type 0
EntriesAnswer from size floor bound at rest count (Ok result) = EntriesRead from size floor bound rest count result
EntriesAnswer from size floor bound at rest count (Err f) =
    (input : ℕ) → FirstFailure (entry_checks from size floor bound input at rest) (refused f.refusal input f.place)

-- a section that passes: its count
pub record SectionPassed (section : Section) (at : ℕ) (rest : List ℕ) (count : ℕ) : Type 0 where
  pub is_count : count ≡ count_at section.width rest
  pub refusal : (input : ℕ) → FirstFailure (section_checks section input at rest) passed

-- reading a section: its count, or the first of its checks that fails, whatever the number of the input
abbrev pub SectionAnswer : Section → ℕ → List ℕ → Result ℕ Fault → Type 0
SectionAnswer section at rest (Ok count) = SectionPassed section at rest count
SectionAnswer section at rest (Err f) = (input : ℕ) → FirstFailure (section_checks section input at rest) (refused f.refusal input f.place)
