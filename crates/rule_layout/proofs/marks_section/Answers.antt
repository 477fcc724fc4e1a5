-- `rule_layout::marks_section` meets its contract: the count decides, and after a good count the entries. Assumes nothing.
use Rattle.answer.proofs.PassedOn.{passed_on}
use Rattle.formats.proofs.Sections.{section_count_refused}
use Rattle.formats.specs.RuleFile.{marks_section}
use Rattle.sections.specs.Answers.{SectionAnswer}
use Rattle.sections.proofs.Sectioned.{by_entries}
use Rattle.rule_layout.proofs.MarkRanges.{mark_ranges}
use Rattle.rule_layout.proofs.marks_section.Goals as goal

pub returns-in_err-c : goal.returns-in_err-c
returns-in_err-c c =
    let a = c.args in
    passed_on (SectionAnswer (marks_section a.n) a.at a.rest.now) c.from_residual.result c.from_residual.ensures.1
    (λ input. section_count_refused (marks_section a.n) input a.at a.rest.now (c.in_err-c.ensures input))

pub returns : goal.returns
returns c =
    let a = c.args in
    by_entries (marks_section a.n) a.at a.rest.now c.in_ok-c.ensures c.triples.result (c.triples.ensures _ _ (mark_ranges a.n))
