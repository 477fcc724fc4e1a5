-- The number of a text in decimal digits, and what the parts of a line say by a number or a letter. Assumes nothing.
use Rattle.std.specs.Prelude.{ℕ, ◌+◌, ◌*◌, ◌-◌, ◌≡◌, cond, List, [], ◌∷◌, ltb, drop}
use Rattle.std.specs.Char.{is_ascii_digit}
use Rattle.example_parts.specs.Parts.{part_of}

-- a number with the digits of a text after its own; bytes that are no digit are passed over
unfoldable pub with_digits : ℕ → List ℕ → ℕ
with_digits n [] = n
with_digits n (byte ∷ text) = with_digits (cond (is_ascii_digit byte) (n * 10 + (byte - 48)) n) text

-- a number below 18446744073709551610, and the largest of 64 bits in place of any other: those that do not fit, and the last six that do
unfoldable pub saturated : ℕ → ℕ
saturated n = cond (ltb n 18446744073709551610) n 18446744073709551615

-- the number that a text's digits say
unfoldable pub decimal_of : List ℕ → ℕ
decimal_of text = saturated (with_digits 0 text)

-- if n stands for a number, then r stands for that number with a byte's digit after its own
pub record DigitAdded (n byte r : ℕ) : Type 0 where
  pub stands : (value : ℕ) → n ≡ saturated value → r ≡ saturated (with_digits value (byte ∷ []))

-- the byte `:`, which stands between the parts of a line
abbrev pub colon : ℕ
colon = 58

-- the number that the part k of a line says
abbrev pub number_in_part : List ℕ → ℕ → ℕ
number_in_part line k = decimal_of (part_of colon k line)

-- a line's command, after a space; empty where there is none
abbrev pub command_of : List ℕ → List ℕ
command_of line = drop 1 (part_of colon 1 line)
