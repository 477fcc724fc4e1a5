-- The part of a lasso's word in numbers. Assumes nothing.
use mathlib.Core.Path.{ap, ◌∙◌}
use Rattle.packing_counts.specs.Counts.{pack_stretch}
use Rattle.exported_lassos.proofs.stretch.Goals as goal

pub returns : goal.returns
returns c = c.pack_stretch.ensures ∙ ap pack_stretch c.stretch_place.ensures
