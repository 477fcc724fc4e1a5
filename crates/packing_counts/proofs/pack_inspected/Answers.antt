-- Each case of the answer is packed as the definition has it. Assumes nothing.
use mathlib.Core.Path.{sym, ap, ◌∙◌}
use Rattle.packing_counts.specs.Counts.{pack_inspected}
use Rattle.packing_counts.proofs.pack_inspected.Goals as goal

pub returns-in-Rule : goal.returns-in-Rule
returns-in-Rule c = c.pack_fields.ensures ∙ sym (ap pack_inspected c.in-Rule.is)

pub returns-in-Refused : goal.returns-in-Refused
returns-in-Refused c = c.pack_refusal.ensures ∙ sym (ap pack_inspected c.in-Refused.is)
