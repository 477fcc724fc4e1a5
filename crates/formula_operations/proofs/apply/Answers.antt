-- `formula_operations::apply` meets its contract: each operation goes to the function of its kind. Assumes nothing.
use native.Mathlib.Omega.{arith}
use borrow.Author.Rules.{rules}
use Rattle.formula_operations.proofs.Needed.{needs_at, set_grade, set_letters, constant_grade, copy_stands, one_stands, two_stand, rule_needs}
use Rattle.formula_operations.proofs.Applying.{set_applied, constant_applied, copy_applied, one_applied, two_applied, applied_as}
use Rattle.formula_operations.proofs.apply.Goals as goal

pub set_into-requires : goal.set_into-requires
set_into-requires c =
    let n = needs_at c.in-Set.is c.requires.apply_needs in record {
      rule_needs = record { letters_some = n.letters_some; letters_few = n.letters_few; small_grade = omega (arith, set_grade n) };
      known_letters = set_letters n (omega arith);
      slot_bound = n.low;
      stack_size_in_bounds = c.requires.lent_room.stack_room;
    }

pub returns-in-Set : goal.returns-in-Set
returns-in-Set c =
    let n = needs_at c.in-Set.is c.requires.apply_needs in record {
      applied = applied_as c.in-Set.is (set_applied c.set_into.ensures.kept c.set_into.ensures.made (omega arith) (omega arith) (set_grade n));
      lengths = search rules;
    }

pub constant_into-requires : goal.constant_into-requires
constant_into-requires c =
    let n = needs_at c.in-Constant.is c.requires.apply_needs in record {
      rule_needs = record { letters_some = n.letters_some; letters_few = n.letters_few; small_grade = omega (arith, constant_grade n) };
      slot_bound = n.low;
      stack_size_in_bounds = c.requires.lent_room.stack_room;
    }

pub returns-in-Constant : goal.returns-in-Constant
returns-in-Constant c =
    let n = needs_at c.in-Constant.is c.requires.apply_needs in record {
      applied = applied_as c.in-Constant.is (constant_applied c.constant_into.ensures.kept c.constant_into.ensures.made (omega arith) (constant_grade n));
      lengths = search rules;
    }

pub returns-in-Copy : goal.returns-in-Copy
returns-in-Copy c =
    let n = needs_at c.in-Copy.is c.requires.apply_needs in record {
      applied = applied_as c.in-Copy.is (copy_applied c.copy_into.ensures.kept c.copy_into.ensures.copied (omega arith) (copy_stands n));
      lengths = search rules;
    }

pub overflow_sub-top : goal.overflow_sub-top
overflow_sub-top c = omega (arith, one_stands (needs_at c.in-OnOne.is c.requires.apply_needs))

pub on_one-requires : goal.on_one-requires
on_one-requires c =
    let n = needs_at c.in-OnOne.is c.requires.apply_needs in
    let room = c.requires.lent_room in record {
      rule_needs = rule_needs n;
      slot_bound = omega (arith, n.low, one_stands n);
      stack_size_in_bounds = room.stack_room;
      rule_size_in_bounds = room.spare_room;
      until_classes_size_in_bounds = room.classes_room;
      scratch_size_in_bounds = room.scratch_room;
    }

pub returns-in-OnOne : goal.returns-in-OnOne
returns-in-OnOne c =
    let n = needs_at c.in-OnOne.is c.requires.apply_needs in record {
      applied = applied_as c.in-OnOne.is (one_applied (omega (arith, one_stands n)) c.on_one.ensures.made c.on_one.ensures.kept);
      lengths = search rules;
    }

pub overflow_sub-first : goal.overflow_sub-first
overflow_sub-first c = omega (arith, two_stand (needs_at c.in-OnTwo.is c.requires.apply_needs))

pub on_two-requires : goal.on_two-requires
on_two-requires c =
    let n = needs_at c.in-OnTwo.is c.requires.apply_needs in
    let room = c.requires.lent_room in record {
      rule_needs = rule_needs n;
      second_value = omega (arith, two_stand n);
      second_bound = omega (arith, n.low, two_stand n);
      stack_size_in_bounds = room.stack_room;
      rule_size_in_bounds = room.spare_room;
      until_classes_size_in_bounds = room.classes_room;
      scratch_size_in_bounds = room.scratch_room;
    }

pub returns-in-OnTwo : goal.returns-in-OnTwo
returns-in-OnTwo c =
    let n = needs_at c.in-OnTwo.is c.requires.apply_needs in record {
      applied = applied_as c.in-OnTwo.is (two_applied (omega (arith, two_stand n)) (omega (arith, two_stand n)) c.on_two.ensures.made c.on_two.ensures.kept);
      lengths = search rules;
    }

pub overflow_sub-height : goal.overflow_sub-height
overflow_sub-height c = omega (arith, copy_stands (needs_at c.in-Copy.is c.requires.apply_needs))

pub overflow_sub-height-in-Copy : goal.overflow_sub-height-in-Copy
overflow_sub-height-in-Copy c = omega (arith, copy_stands (needs_at c.in-Copy.is c.requires.apply_needs))

pub overflow_sub-top-in-OnTwo : goal.overflow_sub-top-in-OnTwo
overflow_sub-top-in-OnTwo c = omega (arith, two_stand (needs_at c.in-OnTwo.is c.requires.apply_needs))
