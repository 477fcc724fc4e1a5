-- `formula_makings::combine_of` meets its contract: two reductions are combined, or refused with 19. Assumes nothing.
use Rattle.formula_makings.proofs.Made.{combine_asked}
use Rattle.formula_makings.proofs.combine_of.Goals as goal

pub returns : goal.returns
returns c =
    combine_asked c.requires.rule_size_in_bounds_3 c.requires.scratch_size_in_bounds c.rule_in-one.ensures.file c.combine.result c.rule_in-other.ensures.file c.args.operation
    c.combine.ensures
