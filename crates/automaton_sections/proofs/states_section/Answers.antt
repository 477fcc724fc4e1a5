-- `automaton_sections::states_section` meets its contract: the count decides, and after a good count the kinds. Assumes nothing.
use Rattle.answer.proofs.PassedOn.{passed_on}
use Rattle.formats.proofs.Sections.{section_count_refused}
use Rattle.formats.specs.AutomatonFile.{states_section}
use Rattle.sections.specs.Answers.{SectionAnswer}
use Rattle.sections.proofs.Sectioned.{by_entries}
use Rattle.automaton_sections.proofs.states_section.Goals as goal

pub returns-in_err-m : goal.returns-in_err-m
returns-in_err-m c =
    let bytes = c.args.bytes.now in
    passed_on (SectionAnswer states_section 0 bytes) c.from_residual.result c.from_residual.ensures.1
    (λ input. section_count_refused states_section input 0 bytes (c.in_err-m.ensures input))

pub returns : goal.returns
returns c = by_entries states_section 0 c.args.bytes.now c.in_ok-m.ensures c.entries.result c.entries.ensures
