-- The class is there, there is no place for it, or it is added. Assumes nothing.
use native.Mathlib.Omega.{arith}
use Rattle.until_list.proofs.Adding.{search_place, known_place, add_known, add_full, store_place, new_place, add_new}
use Rattle.until_list.proofs.add_class.Goals as goal

pub find_class-requires : goal.find_class-requires
find_class-requires c = record {
  search_needs = search_place c.requires;
  count_bound = omega (arith, c.requires.few);
}

pub record_step-requires : goal.record_step-requires
record_step-requires c =
    known_place c.requires c.in-Some.ensures

pub returns-in-Some : goal.returns-in-Some
returns-in-Some c =
    add_known c.requires c.in-Some.ensures c.record_step.ensures

pub returns-then-count-ge64 : goal.returns-then-count-ge64
returns-then-count-ge64 c =
    add_full c.requires c.in_default.ensures c.if-count-ge64.true

pub store_class-requires : goal.store_class-requires
store_class-requires c =
    store_place c.requires c.in_default.ensures c.if-count-ge64.false

pub record_step-requires-2 : goal.record_step-requires-2
record_step-requires-2 c =
    new_place c.requires c.in_default.ensures c.if-count-ge64.false

pub returns : goal.returns
returns c =
    add_new c.requires c.in_default.ensures c.if-count-ge64.false c.store_class.ensures c.record_step-2.ensures
