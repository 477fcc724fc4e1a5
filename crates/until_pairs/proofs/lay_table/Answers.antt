-- Products, letters and grades are laid out one after the other. Assumes nothing.
use Rattle.until_pairs.proofs.Laying.{products_place, images_place, levels_place, all_laid}
use Rattle.until_pairs.proofs.lay_table.Goals as goal

pub lay_products-requires : goal.lay_products-requires
lay_products-requires c = record {
  two_tables = c.requires.tables;
  pairs_needs = products_place c.requires;
}

pub lay_images-requires : goal.lay_images-requires
lay_images-requires c = record {
  two_tables = c.requires.tables;
  pairs_needs = images_place c.requires c.lay_products.ensures;
}

pub lay_grades-requires : goal.lay_grades-requires
lay_grades-requires c =
    levels_place c.requires c.lay_products.ensures c.lay_images.ensures

pub shape_of-scratch : goal.shape_of-scratch
shape_of-scratch c =
    (all_laid c.requires c.lay_products.ensures c.lay_images.ensures c.lay_grades.ensures).same_length

pub returns : goal.returns
returns c =
    all_laid c.requires c.lay_products.ensures c.lay_images.ensures c.lay_grades.ensures
