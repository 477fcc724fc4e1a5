-- `mark_class_numbers::store` meets its contract: the low byte is written, and then the high byte. Assumes nothing.
use Rattle.mark_class_numbers.proofs.Bytes.{stored_two}
use Rattle.mark_class_numbers.proofs.store.Goals as goal

pub returns : goal.returns
returns c = rw c.to_le_bytes.ensures (stored_two _ _ _ c.requires.at_in_bounds c.requires.number_bound)
