-- The table is laid out, its linked pairs are marked, and the rule is written. Assumes nothing.
use Rattle.word_rule.proofs.Laid.{grades_place, laid_place, words_written}
use Rattle.word_rule.proofs.write_words.Goals as goal

pub lay_products-requires : goal.lay_products-requires
lay_products-requires c = c.requires.table

pub clear_unlinked-requires : goal.clear_unlinked-requires
clear_unlinked-requires c =
    grades_place c.requires c.lay_products.ensures

pub write_laid-requires : goal.write_laid-requires
write_laid-requires c =
    laid_place c.requires c.lay_products.ensures c.clear_unlinked.ensures

pub returns : goal.returns
returns c =
    words_written c.requires c.lay_products.ensures c.clear_unlinked.ensures c.write_laid.ensures
