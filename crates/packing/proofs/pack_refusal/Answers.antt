-- The number, the input's byte and the place's bits, each in its place. Assumes nothing.
use Rattle.packing.specs.Packing.{pack_refusal}
use Rattle.packing.proofs.pack_refusal.Goals as goal

pub returns : goal.returns
unfolding pack_refusal
returns c = rw c.number-number.ensures
