-- Each case of the answer is packed as the definition has it. Assumes nothing.
use mathlib.Core.Path.{sym, ap, ◌∙◌}
use Rattle.packing_decisions.specs.Decisions.{pack_confirmation}
use Rattle.packing_decisions.proofs.pack_confirmation.Goals as goal

pub returns-in-Yes : goal.returns-in-Yes
returns-in-Yes c = c.pack_fields.ensures ∙ sym (ap pack_confirmation c.in-Yes.is)

pub returns-in-No : goal.returns-in-No
returns-in-No c = c.pack_fields-in-No.ensures ∙ sym (ap pack_confirmation c.in-No.is)

pub returns-in-Refused : goal.returns-in-Refused
returns-in-Refused c = c.pack_refusal.ensures ∙ sym (ap pack_confirmation c.in-Refused.is)
