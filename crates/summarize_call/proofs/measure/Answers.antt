-- `summarize_call::measure` meets its contract: the classes of a checked rule are not refused; what they wrote is overwritten by the
-- reduction and then cleared. Assumes nothing.
use mathlib.Core.Path.{◌∙◌}
use Rattle.summarize_call.proofs.Summing.{place_again, classes_not_refused, measured_summary}
use Rattle.summarize_call.proofs.measure.Goals as goal

pub reduced_size-size-requires : goal.reduced_size-size-requires
reduced_size-size-requires c =
    place_again c.requires.checked_needs c.work-1.given c.scratch-1.given

pub returns-in-Counts : goal.returns-in-Counts
returns-in-Counts c =
    measured_summary c.requires.checked_needs c.list_classes.result c.requires.rule_counts c.list_classes.ensures c.in-Counts.is
    c.reduced_size-size.ensures (c.work-in-Counts-1.given ∙ c.work-1.given) c.zero.ensures

pub returns-in-Refused : goal.returns-in-Refused
returns-in-Refused c =
    absurd
    (classes_not_refused c.requires.checked_needs c.list_classes.result c.list_classes.ensures c.in-Refused.is)
