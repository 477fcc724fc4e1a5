-- `board_values::free` meets its contract: one of eight flags, turned round. Assumes nothing.
use mathlib.Core.Path.{refl}
use mathlib.Core.Logic.{inl}
use Rattle.board_promises.specs.Boards.{present_at}
use Rattle.board_values.proofs.FreeNames.{free_read}
use Rattle.board_values.proofs.free.Goals as goal

pub returns-then-name-lt8 : goal.returns-then-name-lt8
returns-then-name-lt8 c =
    let a = c.args in
    free_read a.board a.name c.if-name-lt8.true (present_at a.board a.name) refl

pub returns : goal.returns
returns c = inl c.if-name-lt8.false
