-- `pair_rule::lay_pairs` meets its contract: the tables are laid out one after the other. Assumes nothing.
use native.Mathlib.Omega.{arith}
use Rattle.pair_table.proofs.Kept.{pairs_kept}
use Rattle.pair_rule.proofs.Laid.{list_place, marks_place, pairs_laid}
use Rattle.pair_rule.proofs.lay_pairs.Goals as goal

pub lay_products-requires : goal.lay_products-requires
lay_products-requires c = record {
  two_tables = c.requires.two_tables;
  pairs_needs = list_place c.requires.two_tables c.requires.pairs_lay_needs;
}

pub lay_images-requires : goal.lay_images-requires
lay_images-requires c = record {
  two_tables = c.requires.two_tables;
  pairs_needs = pairs_kept c.lay_products.ensures.kept (omega arith) c.requires.two_tables (list_place c.requires.two_tables c.requires.pairs_lay_needs);
}

pub lay_marks-requires : goal.lay_marks-requires
lay_marks-requires c =
    marks_place c.requires.two_tables c.requires.pairs_lay_needs c.lay_products.ensures c.lay_images.ensures

pub returns : goal.returns
returns c =
    pairs_laid c.requires.two_tables c.requires.pairs_lay_needs c.lay_products.ensures c.lay_images.ensures c.lay_marks.ensures
