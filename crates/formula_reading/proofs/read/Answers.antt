-- `formula_reading::read` meets its contract: each code is its operation's. Assumes nothing.
use mathlib.Core.Path.{refl}
use native.Mathlib.Omega.{arith}
use Rattle.formula_promises.specs.Operations.{operation_of}
use Rattle.formula_reading.proofs.Codes.{read_known, read_copy}
use Rattle.formula_reading.proofs.read.Goals as goal

pub returns-in-0 : goal.returns-in-0
unfolding operation_of
returns-in-0 c = read_known c.byte-code.ensures c.byte-operand.ensures c.number_at-number.ensures 0 _ c.in-0.is refl

pub returns-in-1 : goal.returns-in-1
unfolding operation_of
returns-in-1 c = read_known c.byte-code.ensures c.byte-operand.ensures c.number_at-number.ensures 1 _ c.in-1.is refl

pub returns-in-2 : goal.returns-in-2
unfolding operation_of
returns-in-2 c = read_known c.byte-code.ensures c.byte-operand.ensures c.number_at-number.ensures 2 _ c.in-2.is refl

pub returns-in-3 : goal.returns-in-3
unfolding operation_of
returns-in-3 c = read_known c.byte-code.ensures c.byte-operand.ensures c.number_at-number.ensures 3 _ c.in-3.is refl

pub returns-in-4 : goal.returns-in-4
unfolding operation_of
returns-in-4 c = read_known c.byte-code.ensures c.byte-operand.ensures c.number_at-number.ensures 4 _ c.in-4.is refl

pub returns-in-5 : goal.returns-in-5
unfolding operation_of
returns-in-5 c = read_known c.byte-code.ensures c.byte-operand.ensures c.number_at-number.ensures 5 _ c.in-5.is refl

pub returns-in-6 : goal.returns-in-6
unfolding operation_of
returns-in-6 c = read_known c.byte-code.ensures c.byte-operand.ensures c.number_at-number.ensures 6 _ c.in-6.is refl

pub returns-in-7 : goal.returns-in-7
unfolding operation_of
returns-in-7 c = read_known c.byte-code.ensures c.byte-operand.ensures c.number_at-number.ensures 7 _ c.in-7.is refl

pub returns-in-8 : goal.returns-in-8
unfolding operation_of
returns-in-8 c = read_known c.byte-code.ensures c.byte-operand.ensures c.number_at-number.ensures 8 _ c.in-8.is refl

pub returns-in-9 : goal.returns-in-9
unfolding operation_of
returns-in-9 c = read_known c.byte-code.ensures c.byte-operand.ensures c.number_at-number.ensures 9 _ c.in-9.is refl

pub returns-in-10 : goal.returns-in-10
unfolding operation_of
returns-in-10 c = read_known c.byte-code.ensures c.byte-operand.ensures c.number_at-number.ensures 10 _ c.in-10.is refl

pub returns-in-11 : goal.returns-in-11
unfolding operation_of
returns-in-11 c = read_known c.byte-code.ensures c.byte-operand.ensures c.number_at-number.ensures 11 _ c.in-11.is refl

pub returns-in_default : goal.returns-in_default
returns-in_default c = read_copy c.byte-code.ensures c.byte-operand.ensures c.number_at-number.ensures (omega arith)
