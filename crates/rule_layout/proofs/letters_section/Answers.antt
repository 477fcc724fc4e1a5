-- `rule_layout::letters_section` meets its contract: the count decides, and after a good count the entries. Assumes nothing.
use Rattle.answer.proofs.PassedOn.{passed_on}
use Rattle.formats.proofs.Sections.{section_count_refused}
use Rattle.formats.specs.RuleFile.{letters_section}
use Rattle.sections.specs.Answers.{SectionAnswer}
use Rattle.sections.proofs.Sectioned.{by_entries}
use Rattle.rule_layout.proofs.letters_section.Goals as goal

pub returns-in_err-k : goal.returns-in_err-k
returns-in_err-k c =
    let a = c.args in
    passed_on (SectionAnswer (letters_section a.n) a.at a.rest.now) c.from_residual.result c.from_residual.ensures.1
    (λ input. section_count_refused (letters_section a.n) input a.at a.rest.now (c.in_err-k.ensures input))

pub returns : goal.returns
returns c = let a = c.args in by_entries (letters_section a.n) a.at a.rest.now c.in_ok-k.ensures c.entries.result c.entries.ensures
