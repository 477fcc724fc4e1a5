-- `sections::wide_count` meets its contract: each return is the first of the count's checks that fails, or the count that
-- passed them all. Assumes nothing.
use Rattle.std.proofs.Common.{arith}
use mathlib.Core.Logic.{inr}
use Rattle.formats.specs.Sections.{two-byte, two_bytes}
use Rattle.formats.proofs.Sections.{count_out}
use Rattle.sections.proofs.Laws.{count_cut_answer}
use Rattle.sections.proofs.wide_count.Goals as goal

pub returns-then-rest-lt2 : goal.returns-then-rest-lt2
returns-then-rest-lt2 c = count_cut_answer two-byte _ _ _ _ c.cut.ensures c.if-rest-lt2.true

pub returns-then-high-number : goal.returns-then-high-number
unfolding two_bytes
returns-then-high-number c input = count_out two-byte _ _ input _ _ c.if-rest-lt2.false (inr (omega (arith, c.if-high-number.true, c.from_le_bytes-number.ensures)))

pub returns : goal.returns
unfolding two_bytes
returns c = record {
  present = c.if-rest-lt2.false;
  is_count = omega (arith, c.from_le_bytes-number.ensures);
  above = omega arith;
  within = c.if-high-number.false;
}
