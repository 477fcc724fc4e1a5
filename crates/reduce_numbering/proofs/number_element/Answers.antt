-- `reduce_numbering::number_element` meets its contract: the number of a block that has one, or the next. Assumes nothing.
use mathlib.Core.Path.{refl}
use native.Mathlib.Omega.{arith}
use lib.ListN.{length-set}
use Rattle.reduce_numbering.specs.Steps.{taken_old}
use Rattle.reduce_numbering.proofs.Steps.{taken_next}
use Rattle.reduce_numbering.proofs.number_element.Goals as goal

pub returns-then-j-c : goal.returns-then-j-c
returns-then-j-c c = taken_old c.find-j.result c.if-j-c.true c.find-j.ensures refl

pub bounds-scratch-c : goal.bounds-scratch-c
bounds-scratch-c c =
    simp length-set (omega (arith, c.requires.c_bound, c.requires.scratch_size_in_bounds))

pub returns : goal.returns
returns c = taken_next c.find-j.ensures c.if-j-c.false refl
