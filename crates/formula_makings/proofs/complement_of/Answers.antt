-- `formula_makings::complement_of` meets its contract: the complement of a reduction is not refused. Assumes nothing.
use Rattle.formula_makings.proofs.Made.{complement_asked}
use Rattle.formula_makings.proofs.complement_of.Goals as goal

pub returns : goal.returns
returns c =
    complement_asked c.requires.rule_size_in_bounds_2 c.requires.scratch_size_in_bounds c.rule_in.ensures.file c.complement.result c.complement.ensures
