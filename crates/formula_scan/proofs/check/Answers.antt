-- `formula_scan::check` meets its contract, check by check. Assumes nothing.
use native.Mathlib.Omega.{arith}
use Rattle.formula_promises.specs.Operations.{operation_at}
use Rattle.formula_scan.proofs.Operations.{bytes_few, size_at, no_code, operands_cut, grade_above, foreign_letter, too_few, too_many, all_pass}
use Rattle.formula_scan.proofs.check.Goals as goal

pub returns-then-code-gt12 : goal.returns-then-code-gt12
returns-then-code-gt12 c = no_code _ _ c.read-reading.ensures c.if-code-gt12.true

pub overflow_add-behind : goal.overflow_add-behind
overflow_add-behind c =
    let a = c.args in
    omega (arith, size_at a.letters a.height c.read-reading.ensures c.if-code-gt12.false c.size.ensures, (bytes_few (operation_at a.formula.now a.at)).1)

pub returns-then-formula-behind : goal.returns-then-formula-behind
returns-then-formula-behind c =
    operands_cut _ _ c.read-reading.ensures c.if-code-gt12.false c.size.ensures c.if-formula-behind.true

pub returns-then-grade-gt3 : goal.returns-then-grade-gt3
returns-then-grade-gt3 c =
    grade_above _ _ c.read-reading.ensures c.if-code-gt12.false c.size.ensures c.if-formula-behind.false c.grade-grade.ensures c.if-grade-gt3.true

pub returns-then-foreign : goal.returns-then-foreign
returns-then-foreign c =
    foreign_letter _ _ c.read-reading.ensures c.if-code-gt12.false c.size.ensures c.if-formula-behind.false c.grade-grade.ensures c.if-grade-gt3.false c.set.ensures
    c.foreign.result c.foreign.ensures c.if-foreign.true

pub returns-then-height-asked : goal.returns-then-height-asked
returns-then-height-asked c =
    too_few _ _ c.read-reading.ensures c.if-code-gt12.false c.size.ensures c.if-formula-behind.false c.grade-grade.ensures c.if-grade-gt3.false c.set.ensures
    c.foreign.result c.foreign.ensures c.if-foreign.false c.asks-asked.ensures c.if-height-asked.true

pub returns-then-left-gt8 : goal.returns-then-left-gt8
returns-then-left-gt8 c =
    too_many _ _ c.read-reading.ensures c.if-code-gt12.false c.size.ensures c.if-formula-behind.false c.grade-grade.ensures c.if-grade-gt3.false c.set.ensures
    c.foreign.result c.foreign.ensures c.if-foreign.false c.asks-asked.ensures c.if-height-asked.false c.height_after-left.ensures c.if-left-gt8.true

pub returns : goal.returns
returns c =
    all_pass _ _ c.read-reading.ensures c.if-code-gt12.false c.size.ensures c.if-formula-behind.false c.grade-grade.ensures c.if-grade-gt3.false c.set.ensures
    c.foreign.result c.foreign.ensures c.if-foreign.false c.asks-asked.ensures c.if-height-asked.false c.height_after-left.ensures c.if-left-gt8.false
