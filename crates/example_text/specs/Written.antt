-- What a call wrote into a buffer. Assumes nothing.
use Rattle.std.specs.Prelude.{ℕ, List, [], take}
use Rattle.promises.specs.declared.Written.{Written}
use Rattle.promises.specs.declared.Written.TheVariants.{Rule, Refused}

-- the bytes of the rule that a call wrote at the front of a buffer; none where it was refused
abbrev pub written_bytes : Written → List ℕ → List ℕ
written_bytes (Rule count) buffer = take count buffer
written_bytes (Refused refusal input place) buffer = []
