-- The operations of a formula in postfix form, and the stack of formulas that they lead to. Assumes nothing.
use Rattle.std.specs.Prelude.{ℕ, zero, suc, ◌+◌, ◌-◌, ◌*◌, ◌≤◌, min, cond, List, [], ◌∷◌, length, get_or, ltb, eqb}
use Rattle.std.proofs.Common.{zero-le}
use Rattle.std.proofs.Math.Nat.{min-le_right}
use Rattle.temporal.specs.Formulas.{Formula, first_letter, constant, negation, both, either, next, until, without, eventually, always, release, weak_until}
use Rattle.temporal_promises.specs.FirstLetter.{in_set}

-- what is made of one formula, and what of two
pub data One : Type 0 where
  op_not : One
  op_next : One
  op_eventually : One
  op_always : One

pub data Two : Type 0 where
  op_both : Two
  op_either : Two
  op_without : Two
  op_until : Two
  op_release : Two
  op_weak_until : Two

-- a set with its grade, a constant's grade, or how far below the top; else what is made of what stands on the stack
pub data Operation : Type 0 where
  push_set : ℕ → ℕ → Operation
  push_constant : ℕ → Operation
  push_copy : ℕ → Operation
  on_one : One → Operation
  on_two : Two → Operation

-- "Codes: 0 set (grade, then two bytes, low first), 1 constant (grade), 2 not, 3 both, 4 either, 5 without, 6 next, 7 until, 8 eventually, 9 always, 10 release,
-- 11 weak until, 12 copy (a byte: how far below the top)". No code is above 12; `operation_checks` says so.
unfoldable pub operation_of : ℕ → ℕ → ℕ → Operation
operation_of code byte number =
    cond (eqb code 0) (push_set number byte)
    (cond (eqb code 1) (push_constant byte)
    (cond (eqb code 2) (on_one op_not)
    (cond (eqb code 3) (on_two op_both)
    (cond (eqb code 4) (on_two op_either)
    (cond (eqb code 5) (on_two op_without)
    (cond (eqb code 6) (on_one op_next)
    (cond (eqb code 7) (on_two op_until)
    (cond (eqb code 8) (on_one op_eventually)
    (cond (eqb code 9) (on_one op_always)
    (cond (eqb code 10) (on_two op_release)
    (cond (eqb code 11) (on_two op_weak_until) (push_copy byte))))))))))))

-- the code at a byte, the byte behind it, and the two behind that, low first
abbrev pub operation_code_at : List ℕ → ℕ → ℕ
operation_code_at formula at = get_or formula at 0

abbrev pub operand_at : List ℕ → ℕ → ℕ
operand_at formula at = get_or formula (at + 1) 0

abbrev pub set_at : List ℕ → ℕ → ℕ
set_at formula at = get_or formula (at + 2) 0 + 256 * get_or formula (at + 3) 0

abbrev pub operation_at : List ℕ → ℕ → Operation
operation_at formula at = operation_of (operation_code_at formula at) (operand_at formula at) (set_at formula at)

-- the bytes of an operation, its code and its operands
unfoldable pub bytes_of : Operation → ℕ
bytes_of (push_set set grade) = 4
bytes_of (push_constant grade) = 2
bytes_of (push_copy below) = 2
bytes_of (on_one operation) = 1
bytes_of (on_two operation) = 1

abbrev pub behind : List ℕ → ℕ → ℕ
behind formula at = at + bytes_of (operation_at formula at)

-- how many rules an operation asks for, and how many it leaves where there are so many
unfoldable pub asks : Operation → ℕ
asks (push_set set grade) = 0
asks (push_constant grade) = 0
asks (push_copy below) = below + 1
asks (on_one operation) = 1
asks (on_two operation) = 2

unfoldable pub height_after : Operation → ℕ → ℕ
height_after (push_set set grade) height = height + 1
height_after (push_constant grade) height = height + 1
height_after (push_copy below) height = height + 1
height_after (on_one operation) height = height
height_after (on_two operation) height = height - 1

-- ---- the formulas

unfoldable pub made_of_one : One → Formula → Formula
made_of_one op_not f = negation f
made_of_one op_next f = next f
made_of_one op_eventually f = eventually f
made_of_one op_always f = always f

unfoldable pub made_of_two : Two → Formula → Formula → Formula
made_of_two op_both f g = both f g
made_of_two op_either f g = either f g
made_of_two op_without f g = without f g
made_of_two op_until f g = until f g
made_of_two op_release f g = release f g
made_of_two op_weak_until f g = weak_until f g

-- grades above 3 are refused, so that this is the grade
abbrev pub small : (grade : ℕ) → min grade 3 ≤ 3
small grade = min-le_right grade 3

-- the formula so far below the top of a stack
unfoldable pub below : ℕ → List Formula → Formula
below d [] = constant 0 zero-le
below zero (f ∷ stack) = f
below (suc d) (f ∷ stack) = below d stack

-- the stack after an operation, whose second operand is the top; one that asks for more than there is, is refused, and changes nothing here
unfoldable pub stack_after : Operation → List Formula → List Formula
stack_after (push_set set grade) stack = first_letter (in_set set) (min grade 3) (small grade) ∷ stack
stack_after (push_constant grade) stack = constant (min grade 3) (small grade) ∷ stack
stack_after (push_copy d) stack = below d stack ∷ stack
stack_after (on_one operation) [] = []
stack_after (on_one operation) (f ∷ stack) = made_of_one operation f ∷ stack
stack_after (on_two operation) [] = []
stack_after (on_two operation) (g ∷ []) = g ∷ []
stack_after (on_two operation) (g ∷ f ∷ stack) = made_of_two operation f g ∷ stack

-- the stack at the end, from a byte on. Each operation has a byte at least, so that as many steps as there are bytes are enough.
unfoldable pub stack_from : ℕ → List ℕ → ℕ → List Formula → List Formula
stack_from zero formula at stack = stack
stack_from (suc steps) formula at stack =
    cond (ltb at (length formula)) (stack_from steps formula (behind formula at) (stack_after (operation_at formula at) stack)) stack

abbrev pub stack_at_end : List ℕ → List Formula
stack_at_end formula = stack_from (length formula) formula 0 []
