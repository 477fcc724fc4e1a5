-- The rule's own tables are read where they stand, the marks in the second table. Assumes nothing.
use Rattle.complement_call.proofs.Writing.{rule_place, tables_written}
use Rattle.complement_call.proofs.write_marked.Goals as goal

pub write_rule-requires : goal.write_rule-requires
write_rule-requires c =
    rule_place c.requires.table c.requires.write_needs

pub returns : goal.returns
returns c =
    tables_written c.requires.table c.requires.write_needs c.write_rule.ensures
