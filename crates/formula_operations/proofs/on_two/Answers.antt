-- `formula_operations::on_two` meets its contract: each operation is the step that it names. Assumes nothing.
use mathlib.Core.Path.{ap}
use native.Mathlib.Omega.{arith}
use Rattle.formula_promises.specs.Values.{meant_of_two}
use Rattle.formula_operations.proofs.Applying.{two_told, below_others}
use Rattle.formula_operations.proofs.on_two.Goals as goal

pub returns-in-Both : goal.returns-in-Both
returns-in-Both c = record {
  made = two_told c.combine_into.result (ap meant_of_two c.in-Both.is) (c.combine_into.ensures.step _) c.told.ensures;
  kept = below_others c.combine_into.ensures.kept (omega arith) (omega (arith, c.requires.second_value));
}

pub returns-in-Either : goal.returns-in-Either
returns-in-Either c = record {
  made = two_told c.combine_into-in-Either.result (ap meant_of_two c.in-Either.is) (c.combine_into-in-Either.ensures.step _) c.told-in-Either.ensures;
  kept = below_others c.combine_into-in-Either.ensures.kept (omega arith) (omega (arith, c.requires.second_value));
}

pub returns-in-Without : goal.returns-in-Without
returns-in-Without c = record {
  made = two_told c.combine_into-in-Without.result (ap meant_of_two c.in-Without.is) (c.combine_into-in-Without.ensures.step _) c.told-in-Without.ensures;
  kept = below_others c.combine_into-in-Without.ensures.kept (omega arith) (omega (arith, c.requires.second_value));
}

pub returns-in-Until : goal.returns-in-Until
returns-in-Until c = record {
  made = two_told c.until_into.result (ap meant_of_two c.in-Until.is) (c.until_into.ensures.step _) c.told-in-Until.ensures;
  kept = below_others c.until_into.ensures.kept (omega arith) (omega (arith, c.requires.second_value));
}

pub returns-in-Release : goal.returns-in-Release
returns-in-Release c = record {
  made = two_told c.release_in.result (ap meant_of_two c.in-Release.is) (c.release_in.ensures.step _) c.told-in-Release.ensures;
  kept = below_others c.release_in.ensures.kept (omega arith) (omega (arith, c.requires.second_value));
}

pub returns-in-WeakUntil : goal.returns-in-WeakUntil
returns-in-WeakUntil c = record {
  made = two_told c.weak_until_in.result (ap meant_of_two c.in-WeakUntil.is) c.weak_until_in.ensures.step c.told-in-WeakUntil.ensures;
  kept = c.weak_until_in.ensures.kept;
}
