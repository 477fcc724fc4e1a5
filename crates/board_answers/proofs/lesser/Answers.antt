-- `board_answers::lesser` meets its contract. Assumes nothing.
use mathlib.Core.Path.{refl}
use mathlib.Core.Logic.{inl, inr}
use native.Mathlib.Omega.{arith}
use Rattle.board_answers.proofs.lesser.Goals as goal

pub returns-then-b-a : goal.returns-then-b-a
returns-then-b-a c = record { first = omega arith; second = omega arith; either = inr refl }

pub returns : goal.returns
returns c = record { first = omega arith; second = omega arith; either = inl refl }
