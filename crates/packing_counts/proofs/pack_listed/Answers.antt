-- Each case of the answer is packed as the definition has it. Assumes nothing.
use mathlib.Core.Path.{sym, ap, ◌∙◌}
use Rattle.packing_counts.specs.Counts.{pack_listed}
use Rattle.packing_counts.proofs.pack_listed.Goals as goal

pub returns-in-Counts : goal.returns-in-Counts
returns-in-Counts c = c.pack_fields.ensures ∙ sym (ap pack_listed c.in-Counts.is)

pub returns-in-Refused : goal.returns-in-Refused
returns-in-Refused c = c.pack_refusal.ensures ∙ sym (ap pack_listed c.in-Refused.is)
