-- The lent buffers keep their lengths, and so have room. Assumes nothing.
use Prim.Native.Nat.{ℕ}
use mathlib.Core.Path.{refl, ◌∙◌}
use mathlib.Core.List.{List}
use native.Mathlib.Omega.{arith}
use Rattle.formula_slots.specs.Slots.{LentRoom, LentLengths}

pub lengths_none : {stack spare classes scratch : List ℕ} → LentLengths stack stack spare spare classes classes scratch scratch
lengths_none = record { stack_length = refl; spare_length = refl; classes_length = refl; scratch_length = refl }

module _ {stack stack' spare spare' classes classes' scratch scratch' : List ℕ} (l : LentLengths stack stack' spare spare' classes classes' scratch scratch') where
  pub room_kept : LentRoom stack spare classes scratch → LentRoom stack' spare' classes' scratch'
  room_kept r = record {
    stack_room = omega (arith, r.stack_room, l.stack_length);
    spare_room = omega (arith, r.spare_room, l.spare_length);
    classes_room = omega (arith, r.classes_room, l.classes_length);
    scratch_room = omega (arith, r.scratch_room, l.scratch_length);
  }

  pub lengths_on : {stack'' spare'' classes'' scratch'' : List ℕ} → LentLengths stack' stack'' spare' spare'' classes' classes'' scratch' scratch''
      → LentLengths stack stack'' spare spare'' classes classes'' scratch scratch''
  lengths_on m = record {
    stack_length = m.stack_length ∙ l.stack_length;
    spare_length = m.spare_length ∙ l.spare_length;
    classes_length = m.classes_length ∙ l.classes_length;
    scratch_length = m.scratch_length ∙ l.scratch_length;
  }
