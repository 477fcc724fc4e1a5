-- `rule_layout::elements_section` meets its contract: the count decides, and after a good count the entries. Assumes nothing.
use Rattle.answer.proofs.PassedOn.{passed_on}
use Rattle.formats.proofs.Sections.{section_count_refused}
use Rattle.formats.specs.RuleFile.{elements_section}
use Rattle.sections.specs.Answers.{SectionAnswer}
use Rattle.sections.proofs.Sectioned.{by_entries}
use Rattle.rule_layout.proofs.elements_section.Goals as goal

pub returns-in_err-n : goal.returns-in_err-n
returns-in_err-n c =
    let bytes = c.args.rule.now in
    passed_on (SectionAnswer elements_section 0 bytes) c.from_residual.result c.from_residual.ensures.1
    (λ input. section_count_refused elements_section input 0 bytes (c.in_err-n.ensures input))

pub returns : goal.returns
returns c = by_entries elements_section 0 c.args.rule.now c.in_ok-n.ensures c.entries.result c.entries.ensures
