-- Each case of the answer is packed as the definition has it. Assumes nothing.
use mathlib.Core.Path.{sym, ap, ◌∙◌}
use Rattle.packing_counts.specs.Counts.{pack_successors}
use Rattle.packing_counts.proofs.pack_successors.Goals as goal

pub returns-in-Listed : goal.returns-in-Listed
returns-in-Listed c = c.pack_fields.ensures ∙ sym (ap pack_successors c.in-Listed.is)

pub returns-in-Refused : goal.returns-in-Refused
returns-in-Refused c = c.pack_refusal.ensures ∙ sym (ap pack_successors c.in-Refused.is)
