-- `summarize_call::reduced_size` meets its contract: a reduction's first byte is its number of elements, and only a weak rule is refused.
-- Assumes nothing.
use native.Mathlib.Omega.{arith}
use mir.Facts.{Fits-8_64}
use Rattle.summarize_call.proofs.Summing.{size_strong, size_weak}
use Rattle.summarize_call.proofs.reduced_size.Goals as goal

pub overflow_cast-result : goal.overflow_cast-result
overflow_cast-result c = Fits-8_64 (c.type_inv.work _)

pub returns-in-Rule : goal.returns-in-Rule
returns-in-Rule c =
    size_strong c.requires c.reduce.result (omega arith) c.reduce.ensures c.in-Rule.is

pub returns-in-Refused : goal.returns-in-Refused
returns-in-Refused c =
    size_weak c.requires c.reduce.result (omega arith) c.reduce.ensures c.in-Refused.is
