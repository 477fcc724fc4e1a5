-- The answer of the call, from what was written. Assumes nothing.
use Rattle.std.specs.Prelude.{ℕ, Option, Some, None}
use Rattle.answer.specs.declared.Refusal.TheVariants.{TooManyClasses}
use Rattle.promises.specs.declared.Written.{Written}
use Rattle.promises.specs.declared.Written.TheVariants.{Rule as Is-rule, Refused}

abbrev pub formed_of : Option ℕ → Written
formed_of (Some end) = Is-rule end
formed_of None = Refused TooManyClasses 1 0
