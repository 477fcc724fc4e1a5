-- `sections::entries` meets its contract: what the search found is the first entry out of its range. Assumes nothing.
use Rattle.formats.proofs.Sections.{entries_out}
use Rattle.sections.proofs.Laws.{entries_cut_answer}
use Rattle.sections.proofs.entries.Goals as goal

pub returns-then-rest-from : goal.returns-then-rest-from
returns-then-rest-from c =
    let a = c.args in
    entries_cut_answer a.from a.size (λ i. 0) (λ i. a.bound) a.at a.rest.now a.count c.cut.ensures c.if-rest-from.true

pub returns-in-Some : goal.returns-in-Some
returns-in-Some c input = entries_out _ _ _ _ input _ _ c.if-rest-from.false c.in-Some.ensures
