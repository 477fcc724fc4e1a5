-- Each case of the answer is packed as the definition has it. Assumes nothing.
use mathlib.Core.Path.{sym, ap, ◌∙◌}
use Rattle.packing_decisions.specs.Decisions.{pack_inclusion}
use Rattle.packing_decisions.proofs.pack_inclusion.Goals as goal

pub returns-in-Included : goal.returns-in-Included
returns-in-Included c = c.pack_fields.ensures ∙ sym (ap pack_inclusion c.in-Included.is)

pub returns-in-NotIncluded : goal.returns-in-NotIncluded
returns-in-NotIncluded c = c.pack_fields-in-NotIncluded.ensures ∙ sym (ap pack_inclusion c.in-NotIncluded.is)

pub returns-in-Refused : goal.returns-in-Refused
returns-in-Refused c = c.pack_refusal.ensures ∙ sym (ap pack_inclusion c.in-Refused.is)
