-- A section read by its count and then its entries. Assumes nothing.
use Prim.Native.Nat.{ℕ}
use mathlib.Core.Path.{◌≡◌, refl, ◌∙◌, subst}
use mathlib.Core.List.{List}
use native.Mathlib.Omega.{arith}
use Rattle.answer.specs.Checks.{refused, FirstFailure}
use Rattle.std.specs.Prelude.{Result, Ok, Err}
use Rattle.answer.specs.declared.Fault.{Fault}
use Rattle.formats.specs.Sections.{Section, count_bytes, section_checks}
use Rattle.formats.proofs.Sections.{CountGood, section_count_refused, section_entries_decide, section_passes}
use Rattle.sections.specs.Answers.{CountAnswer, EntriesAnswer, SectionPassed, SectionAnswer}

module _ (s : Section) (at : ℕ) (rest : List ℕ) where
  -- the answer to the count, known by its case
  module _ (answer : Result ℕ Fault) (known : CountAnswer s.width s.low s.high at rest answer) where
    pub count_read : {count : ℕ} → answer ≡ Ok count → CountGood s.width s.low s.high rest count
    count_read e = subst (CountAnswer s.width s.low s.high at rest) e known

    -- a refusal of the count is the section's
    pub count_refused : {f : Fault} → answer ≡ Err f → (input : ℕ) → FirstFailure (section_checks s input at rest) (refused f.refusal input f.place)
    count_refused e input = section_count_refused s input at rest (subst (CountAnswer s.width s.low s.high at rest) e known input)

  -- after a good count the entries' answer is the section's
  pub by_entries : {count : ℕ} → CountGood s.width s.low s.high rest count → (answer : Result ℕ Fault)
      → EntriesAnswer (count_bytes s.width) (s.entries count) (s.floor count) (s.bound count) at rest count answer → SectionAnswer s at rest answer
  by_entries g (Ok result) k = record {
    is_count = k.is_count ∙ g.is_count;
    refusal = λ input. section_passes s input at rest g k.good;
  }
  by_entries g (Err r) k = λ input. section_entries_decide s input at rest g (k input)

  -- where no entries follow a count, its answer is the section's
  pub by_count : ((count : ℕ) → s.entries count ≡ 0) → (answer : Result ℕ Fault) → CountAnswer s.width s.low s.high at rest answer
      → SectionAnswer s at rest answer
  by_count none (Ok count) g =
      by_entries g (Ok count)
      (record {
        good = record { present = omega (arith, none count, g.present); entries = record { each = λ i h. absurd (let z : ⊥ = omega (arith, none count) in z) } };
        is_count = refl;
      })
  by_count none (Err r) f = λ input. section_count_refused s input at rest (f input)

  -- the section's answer, known by its case
  module _ (answer : Result ℕ Fault) (known : SectionAnswer s at rest answer) where
    pub section_read : {count : ℕ} → answer ≡ Ok count → SectionPassed s at rest count
    section_read e = subst (SectionAnswer s at rest) e known

    pub section_refused : {f : Fault} → answer ≡ Err f → (input : ℕ) → FirstFailure (section_checks s input at rest) (refused f.refusal input f.place)
    section_refused e = subst (SectionAnswer s at rest) e known
