-- Where a rule file ends, by counts that were read as bytes. Assumes nothing.
use Prim.Native.Nat.{ℕ, ◌+◌, ◌*◌, ◌≤◌, ◌<◌}
use mathlib.Core.Path.{◌≡◌, ap₂}
use mathlib.Core.List.{List}
use native.Mathlib.Omega.{arith}
use native.Mathlib.Nat.{mul-le-mul}
use lib.ListN.{get_or}
use Rattle.formats.specs.Sections.{two_bytes}
use Rattle.formats.specs.RuleFile.{rule_end}
use Rattle.rule_layout.proofs.CountsRead.{shape_read, shape_end}

-- the square of a byte
pub square_small : {n : ℕ} → n < 256 → n * n ≤ 65025
square_small {n} h = let small : n ≤ 255 = omega arith in mul-le-mul small small

pub end_is : (bytes : List ℕ) {n k low top : ℕ} → n ≡ get_or bytes 0 0 → k ≡ get_or bytes (1 + n * n) 0 → low ≡ get_or bytes (1 + n * n + (1 + k)) 0
    → top ≡ get_or bytes (1 + n * n + (1 + k) + 1) 0 → 1 + n * n + (1 + k) + (2 + 3 * (low + 256 * top)) ≡ rule_end bytes
unfolding two_bytes
end_is bytes elements letters first second =
    shape_end (shape_read bytes elements letters (ap₂ (λ (x y : ℕ). x + 256 * y) first second))
