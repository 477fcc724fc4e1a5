-- Each case of the answer is packed as the definition has it. Assumes nothing.
use mathlib.Core.Path.{sym, ap, ◌∙◌}
use Rattle.packing_decisions.specs.Decisions.{pack_kind}
use Rattle.packing_decisions.proofs.pack_kind.Goals as goal

pub returns-in-Plain : goal.returns-in-Plain
returns-in-Plain c = c.pack_fields.ensures ∙ sym (ap pack_kind c.in-Plain.is)

pub returns-in-Initial : goal.returns-in-Initial
returns-in-Initial c = c.pack_fields-in-Initial.ensures ∙ sym (ap pack_kind c.in-Initial.is)

pub returns-in-Final : goal.returns-in-Final
returns-in-Final c = c.pack_fields-in-Final.ensures ∙ sym (ap pack_kind c.in-Final.is)

pub returns-in-Refused : goal.returns-in-Refused
returns-in-Refused c = c.pack_refusal.ensures ∙ sym (ap pack_kind c.in-Refused.is)
