-- What a call promises that is lent a monitor and stores the new since in it. Assumes nothing.
use Rattle.std.specs.Prelude.{ℕ}
use Rattle.promises.specs.declared.Moved.{Moved}
use Rattle.promises.specs.declared.Moved.TheVariants.{To, Refused}
use Rattle.promises.specs.declared.InPlaceAnswer.{InPlaceAnswer}
use Rattle.promises.specs.declared.InPlaceAnswer.TheVariants.{Done, Refused as Not-done}

-- the number since of the monitor that a call hands back
abbrev pub since_of : Moved → ℕ
since_of (To g) = g.since
since_of (Refused g refusal input place) = g.since

-- the answer of a call, without the monitor
abbrev pub told_of : Moved → InPlaceAnswer
told_of (To g) = Done
told_of (Refused g refusal input place) = Not-done refusal input place
