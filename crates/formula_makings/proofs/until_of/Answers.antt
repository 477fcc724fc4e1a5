-- `formula_makings::until_of` meets its contract: a reduction until another is made, or refused with 19 or 23. Assumes nothing.
use Rattle.formula_makings.proofs.Made.{until_asked}
use Rattle.formula_makings.proofs.until_of.Goals as goal

pub returns : goal.returns
returns c =
    until_asked c.requires.rule_size_in_bounds_3 c.requires.scratch_size_in_bounds c.rule_in-kept.ensures.file c.until.result c.rule_in-reached.ensures.file c.requires.until_classes_size_in_bounds c.until.ensures
