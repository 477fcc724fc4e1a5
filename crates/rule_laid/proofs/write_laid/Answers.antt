-- `rule_laid::write_laid` meets its contract: the tables stand in parts of scratch. Assumes nothing.
use Rattle.rule_laid.proofs.Laid.{laid_place, laid_written}
use Rattle.rule_laid.proofs.write_laid.Goals as goal

pub write_rule-requires : goal.write_rule-requires
write_rule-requires c =
    laid_place c.requires

pub returns : goal.returns
returns c = laid_written c.write_rule.ensures
