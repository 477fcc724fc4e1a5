-- `pair_rule::write_pairs` meets its contract: the rule is laid out and then written. Assumes nothing.
use Rattle.pair_rule.proofs.Laid.{laid_place, pairs_written}
use Rattle.pair_rule.proofs.write_pairs.Goals as goal

pub lay_pairs-requires : goal.lay_pairs-requires
lay_pairs-requires c = record {
  two_tables = c.requires.two_tables;
  pairs_lay_needs = c.requires.pairs_rule_needs.lay;
}

pub write_laid-requires : goal.write_laid-requires
write_laid-requires c =
    laid_place c.requires.two_tables c.requires.pairs_rule_needs c.lay_pairs.ensures

pub returns : goal.returns
returns c =
    pairs_written c.requires.two_tables c.requires.pairs_rule_needs c.lay_pairs.ensures c.write_laid.ensures
