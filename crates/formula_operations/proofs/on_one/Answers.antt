-- `formula_operations::on_one` meets its contract: each operation is the step that it names. Assumes nothing.
use mathlib.Core.Path.{ap}
use native.Mathlib.Omega.{arith}
use Rattle.formula_promises.specs.Values.{meant_of_one}
use Rattle.formula_operations.proofs.Applying.{one_told, not_told, below_others}
use Rattle.formula_operations.proofs.on_one.Goals as goal

pub returns-in-Not : goal.returns-in-Not
returns-in-Not c = record {
  made = not_told (ap meant_of_one c.in-Not.is) c.negate.ensures.negated;
  kept = below_others c.negate.ensures.kept (omega arith) (omega arith);
}

pub returns-in-Next : goal.returns-in-Next
returns-in-Next c = record {
  made = one_told c.next_in.result (ap meant_of_one c.in-Next.is) (c.next_in.ensures.step _) c.told.ensures;
  kept = below_others c.next_in.ensures.kept (omega arith) (omega arith);
}

pub returns-in-Eventually : goal.returns-in-Eventually
returns-in-Eventually c = record {
  made = one_told c.eventually_in.result (ap meant_of_one c.in-Eventually.is) c.eventually_in.ensures.step c.told-in-Eventually.ensures;
  kept = below_others c.eventually_in.ensures.kept (omega arith) (omega arith);
}

pub returns-in-Always : goal.returns-in-Always
returns-in-Always c = record {
  made = one_told c.always_in.result (ap meant_of_one c.in-Always.is) c.always_in.ensures.step c.told-in-Always.ensures;
  kept = below_others c.always_in.ensures.kept (omega arith) (omega arith);
}
