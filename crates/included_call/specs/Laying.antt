-- The second marking laid out behind the first. Assumes nothing.
use Rattle.std.specs.Prelude.{Result, Ok, Err}
use Rattle.answer.specs.declared.Fault.{Fault}
use Rattle.std.specs.Prelude.{ℕ, ◌+◌, ◌*◌, ◌≤◌, ◌<◌, ◌≡◌, List, length, get_or}
use Rattle.formats.specs.RuleFile.{marks_in}
use Rattle.scratch.specs.Map.{second_base, tables_end}

-- the second marking is laid out behind the first, and every other byte is as it was
pub record SecondLaid (second : List ℕ) (n : ℕ) (entry exit : List ℕ) : Type 0 where
  pub same_length : length exit ≡ length entry
  pub before : (i : ℕ) → i < second_base → get_or exit i 0 ≡ get_or entry i 0
  pub after : (i : ℕ) → tables_end ≤ i → get_or exit i 0 ≡ get_or entry i 0
  pub mark : (s e : ℕ) → s < n → e < n → get_or exit (second_base + (s * 64 + e)) 0 ≡ marks_in second 0 s e

abbrev pub LaidAnswer : List ℕ → ℕ → List ℕ → List ℕ → Result (Unit {0}) Fault → Type 0
LaidAnswer second n entry exit (Ok done) = SecondLaid second n entry exit
LaidAnswer second n entry exit (Err fault) = length exit ≡ length entry
