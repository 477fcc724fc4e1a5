-- `section_bounds::first_out` meets its contract: where the greatest of the bytes is below the bound all are; else the search answers. Assumes nothing.
use Rattle.section_bounds.proofs.Laws.{under_bound}
use Rattle.section_bounds.proofs.first_out.Goals as goal

pub returns-then-top-bound : goal.returns-then-top-bound
returns-then-top-bound c = under_bound c.greatest-top.ensures c.if-top-bound.true
