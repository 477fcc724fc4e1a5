-- The three fields, each in its place. Assumes nothing.
use mathlib.Core.Path.{refl}
use Rattle.packing.specs.Packing.{pack_fields}
use Rattle.packing.proofs.pack_fields.Goals as goal

pub returns : goal.returns
unfolding pack_fields
returns c = refl
