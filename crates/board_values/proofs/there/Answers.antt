-- `board_values::there` meets its contract: one of eight flags. Assumes nothing.
use mathlib.Core.Path.{refl}
use mathlib.Core.Logic.{inl}
use Rattle.board_values.proofs.Flags.{present_read}
use Rattle.board_values.proofs.there.Goals as goal

pub returns-then-name-lt8 : goal.returns-then-name-lt8
returns-then-name-lt8 c = present_read c.args.board _ c.if-name-lt8.true _ refl

pub returns : goal.returns
returns c = inl c.if-name-lt8.false
