-- `example_parts::with_digit` meets its contract: each way through the tests is one case of the definition. Assumes nothing.
use mathlib.Core.Path.{sym, ◌∙◌}
use Rattle.example_parts.proofs.Digits.{digit_none, digit_fits, digit_full}
use Rattle.example_parts.proofs.with_digit.Goals as goal

pub returns-then-not-is_ascii_digit : goal.returns-then-not-is_ascii_digit
returns-then-not-is_ascii_digit c = digit_none (sym c.is_ascii_digit.ensures.value ∙ c.if-not-is_ascii_digit.true)

pub returns-then-n-lt1844674407370955161 : goal.returns-then-n-lt1844674407370955161
returns-then-n-lt1844674407370955161 c =
    rw c.from.ensures (digit_fits (sym c.is_ascii_digit.ensures.value ∙ c.if-not-is_ascii_digit.false) c.if-n-lt1844674407370955161.true)

pub returns : goal.returns
returns c = digit_full (sym c.is_ascii_digit.ensures.value ∙ c.if-not-is_ascii_digit.false) c.if-n-lt1844674407370955161.false
