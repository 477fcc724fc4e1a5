-- `confirm_map::mapped` meets its contract. Assumes nothing.
use mir.Facts.{Fits-8_64}
use Rattle.confirm_map.proofs.mapped.Goals as goal

pub overflow_cast-result : goal.overflow_cast-result
overflow_cast-result c = Fits-8_64 (c.type_inv.map _)
