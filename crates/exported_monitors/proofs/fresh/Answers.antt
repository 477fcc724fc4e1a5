-- The two values of a fresh monitor. Assumes nothing.
use mathlib.Core.Path.{ap, ◌∙◌}
use Rattle.packing_monitors.specs.Monitors.{pack_monitor}
use Rattle.exported_monitors.proofs.fresh.Goals as goal

pub returns : goal.returns
returns c = c.pack_fields.ensures ∙ ap pack_monitor c.fresh-m.ensures
