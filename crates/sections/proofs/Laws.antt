-- The checks of a section: what it shows of them that the bytes of its count or of its entries are missing. Assumes nothing.
use Prim.Native.Nat.{ℕ, ◌+◌, ◌<◌}
use mathlib.Core.Path.{◌≡◌, sym, subst}
use mathlib.Core.List.{List}
use lib.ListN.{length}
use Rattle.answer.specs.declared.Refusal.TheVariants.{Truncated}
use Rattle.formats.specs.Sections.{CountWidth, count_bytes}
use Rattle.std.specs.Prelude.{Err}
use Rattle.answer.specs.declared.Fault.{Fault}
use Rattle.formats.proofs.Sections.{count_cut, entries_cut}
use Rattle.sections.specs.Answers.{CountAnswer, EntriesAnswer}

-- what stands of a function that found no count
pub count_cut_answer : (width : CountWidth) (low high at : ℕ) (rest : List ℕ) {f : Fault} → f ≡ record { refusal = Truncated; place = at + length rest }
    → length rest < count_bytes width → CountAnswer width low high at rest (Err f)
count_cut_answer width low high at rest e h =
    subst (λ (f : Fault). CountAnswer width low high at rest (Err f)) (sym e) (λ input. count_cut width low high input at rest h)

-- what stands of a function that found entries missing
pub entries_cut_answer : (from size : ℕ) (floor bound : ℕ → ℕ) (at : ℕ) (rest : List ℕ) (count : ℕ) {f : Fault} → f ≡ record { refusal = Truncated; place = at + length rest }
    → length rest < from + size → EntriesAnswer from size floor bound at rest count (Err f)
entries_cut_answer from size floor bound at rest count e h =
    subst (λ (f : Fault). EntriesAnswer from size floor bound at rest count (Err f)) (sym e) (λ input. entries_cut from size floor bound input at rest h)
