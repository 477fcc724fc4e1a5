-- Each case of the answer is packed as the definition has it. Assumes nothing.
use mathlib.Core.Path.{sym, ap, ◌∙◌}
use Rattle.packing_decisions.specs.Decisions.{pack_strength}
use Rattle.packing_decisions.proofs.pack_strength.Goals as goal

pub returns-in-Strong : goal.returns-in-Strong
returns-in-Strong c = c.pack_fields.ensures ∙ sym (ap pack_strength c.in-Strong.is)

pub returns-in-Weak : goal.returns-in-Weak
returns-in-Weak c = c.pack_fields-in-Weak.ensures ∙ sym (ap pack_strength c.in-Weak.is)

pub returns-in-Refused : goal.returns-in-Refused
returns-in-Refused c = c.pack_refusal.ensures ∙ sym (ap pack_strength c.in-Refused.is)
