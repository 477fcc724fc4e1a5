-- Each case of the answer is packed as the definition has it. Assumes nothing.
use mathlib.Core.Path.{sym, ap, ◌∙◌}
use Rattle.packing_monitors.specs.Monitors.{pack_notice}
use Rattle.packing_monitors.proofs.pack_notice.Goals as goal

pub returns-in-Done : goal.returns-in-Done
returns-in-Done c = c.pack_fields.ensures ∙ sym (ap (pack_notice c.args.board) c.in-Done.is)

pub returns-in-Refused : goal.returns-in-Refused
returns-in-Refused c = c.pack_refusal.ensures ∙ sym (ap (pack_notice c.args.board) c.in-Refused.is)
