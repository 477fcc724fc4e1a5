-- Each case of the answer is packed as the definition has it. Assumes nothing.
use mathlib.Core.Path.{sym, ap, ◌∙◌}
use Rattle.packing_decisions.specs.Decisions.{pack_lasso_verdict}
use Rattle.packing_decisions.proofs.pack_lasso_verdict.Goals as goal

pub returns-in-Decided : goal.returns-in-Decided
returns-in-Decided c = c.pack_fields.ensures ∙ sym (ap pack_lasso_verdict c.in-Decided.is)

pub returns-in-Refused : goal.returns-in-Refused
returns-in-Refused c = c.pack_refusal.ensures ∙ sym (ap pack_lasso_verdict c.in-Refused.is)
