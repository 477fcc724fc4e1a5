-- Each case of the answer is packed as the definition has it. Assumes nothing.
use mathlib.Core.Path.{sym, ap, ◌∙◌}
use Rattle.packing_monitors.specs.Monitors.{pack_moved}
use Rattle.packing_monitors.proofs.pack_moved.Goals as goal

pub returns-in-To : goal.returns-in-To
returns-in-To c = c.pack_fields.ensures ∙ sym (ap pack_moved c.in-To.is)

pub returns-in-Refused : goal.returns-in-Refused
returns-in-Refused c = c.pack_refusal.ensures ∙ sym (ap pack_moved c.in-Refused.is)
