-- `formula_makings::next_of` meets its contract: `next` of a reduction is made, or refused with 23. Assumes nothing.
use Rattle.formula_makings.proofs.Made.{next_asked}
use Rattle.formula_makings.proofs.next_of.Goals as goal

pub returns : goal.returns
returns c =
    next_asked c.requires.rule_size_in_bounds_2 c.requires.scratch_size_in_bounds c.rule_in.ensures.file c.next.result c.next.ensures
