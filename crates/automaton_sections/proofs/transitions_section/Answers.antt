-- `automaton_sections::transitions_section` meets its contract: the count decides, and after a good count the triples. Assumes nothing.
use Rattle.answer.proofs.PassedOn.{passed_on}
use Rattle.formats.proofs.Sections.{section_count_refused}
use Rattle.formats.specs.AutomatonFile.{transitions_section}
use Rattle.sections.specs.Answers.{SectionAnswer}
use Rattle.sections.proofs.Sectioned.{by_entries}
use Rattle.automaton_sections.proofs.TripleBytes.{triple_ranges}
use Rattle.automaton_sections.proofs.transitions_section.Goals as goal

pub returns-in_err-c : goal.returns-in_err-c
returns-in_err-c c =
    let a = c.args in
    passed_on (SectionAnswer (transitions_section a.m a.k) a.at a.rest.now) c.from_residual.result c.from_residual.ensures.1
    (λ input. section_count_refused (transitions_section a.m a.k) input a.at a.rest.now (c.in_err-c.ensures input))

pub returns : goal.returns
returns c =
    let a = c.args in
    by_entries (transitions_section a.m a.k) a.at a.rest.now c.in_ok-c.ensures c.triples.result (c.triples.ensures _ _ (triple_ranges a.m a.k))
