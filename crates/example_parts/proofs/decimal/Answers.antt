-- `example_parts::decimal` meets its contract: each turn adds one byte's digit, and the loop ends at the text's end. Assumes nothing.
use native.Mathlib.Omega.{arith}
use Rattle.example_parts.proofs.Digits.{read_none, read_more, read_all}
use Rattle.example_parts.proofs.decimal.Goals as goal

pub loop-byte-init : goal.loop-byte-init
loop-byte-init c = read_none _

pub loop-byte-preserved : goal.loop-byte-preserved
loop-byte-preserved c = read_more c.loop-byte.invariant (omega arith) c.with_digit-n.ensures

pub returns : goal.returns
returns c = read_all c.loop-byte.invariant (omega arith)
