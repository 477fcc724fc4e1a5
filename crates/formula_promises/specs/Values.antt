-- The operations as the code has them. Assumes nothing.
use Rattle.formula_promises.specs.Operations as formula
use Rattle.formula_promises.specs.declared.One.{One}
use Rattle.formula_promises.specs.declared.One.TheVariants.{Not, Next, Eventually, Always}
use Rattle.formula_promises.specs.declared.Two.{Two}
use Rattle.formula_promises.specs.declared.Two.TheVariants.{Both, Either, Without, Until, Release, WeakUntil}
use Rattle.formula_promises.specs.declared.Operation.{Operation}
use Rattle.formula_promises.specs.declared.Operation.TheVariants.{Set, Constant, Copy, OnOne, OnTwo}

abbrev pub meant_of_one : One → formula.One
meant_of_one Not = formula.op_not
meant_of_one Next = formula.op_next
meant_of_one Eventually = formula.op_eventually
meant_of_one Always = formula.op_always

abbrev pub meant_of_two : Two → formula.Two
meant_of_two Both = formula.op_both
meant_of_two Either = formula.op_either
meant_of_two Without = formula.op_without
meant_of_two Until = formula.op_until
meant_of_two Release = formula.op_release
meant_of_two WeakUntil = formula.op_weak_until

-- the operation that a value of the code stands for
abbrev pub meant : Operation → formula.Operation
meant (Set set grade) = formula.push_set set grade
meant (Constant grade) = formula.push_constant grade
meant (Copy below) = formula.push_copy below
meant (OnOne operation) = formula.on_one (meant_of_one operation)
meant (OnTwo operation) = formula.on_two (meant_of_two operation)
