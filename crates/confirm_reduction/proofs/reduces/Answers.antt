-- `confirm_reduction::reduces` meets its contract: each question in its turn, and the last decides. Assumes nothing.
use native.Mathlib.Omega.{arith}
use Rattle.scratch.proofs.Unchanged.{unchanged_room}
use Rattle.two_rules.proofs.StrongFiles.{first_read, second_read, second_law, second_read_too}
use Rattle.confirm_reduction.proofs.Confirming.{letters_differ, length_differs, not_mapped, not_alone, grades_place, judged_map}
use mathlib.Core.Bool.{not}
use mathlib.Core.Path.{ap}
use Rattle.confirm_reduction.proofs.reduces.Goals as goal

pub returns-then-first_letters-second_letters : goal.returns-then-first_letters-second_letters
returns-then-first_letters-second_letters c = letters_differ _ c.requires c.if-first_letters-second_letters.true

pub returns-then-map-elements : goal.returns-then-map-elements
returns-then-map-elements c =
    length_differs _ c.requires c.if-map-elements.true

pub maps_onto-requires : goal.maps_onto-requires
maps_onto-requires c = record {
  table = first_read c.requires;
  table_2 = second_read_too c.requires c.if-first_letters-second_letters.false;
  map_len = c.if-map-elements.false;
}

pub returns-then-not-maps_onto : goal.returns-then-not-maps_onto
returns-then-not-maps_onto c =
    not_mapped _ c.requires c.if-first_letters-second_letters.false c.maps_onto.ensures (ap not c.if-not-maps_onto.true)

pub refine-requires : goal.refine-requires
refine-requires c = record {
  table = second_read c.requires;
  lawful = second_law c.requires;
  scratch_size_in_bounds = c.requires.room;
}

pub each_alone-requires : goal.each_alone-requires
each_alone-requires c = record {
  n_bound = omega (arith, (second_read c.requires).small);
  scratch_size_in_bounds = unchanged_room c.refine.ensures.kept c.requires.room;
}

pub returns-then-not-each_alone : goal.returns-then-not-each_alone
returns-then-not-each_alone c =
    not_alone c.requires c.refine.ensures c.each_alone.ensures (ap not c.if-not-each_alone.true)

pub grades_kept-requires : goal.grades_kept-requires
grades_kept-requires c =
    grades_place _ c.requires c.if-first_letters-second_letters.false c.maps_onto.ensures (ap not c.if-not-maps_onto.false) c.if-map-elements.false c.refine.ensures

pub returns : goal.returns
returns c =
    judged_map _ c.requires c.if-first_letters-second_letters.false c.maps_onto.ensures (ap not c.if-not-maps_onto.false) c.if-map-elements.false c.refine.ensures
    c.each_alone.ensures (ap not c.if-not-each_alone.false) c.grades_kept.ensures
