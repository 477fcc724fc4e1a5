-- `formula_call::lent_short` meets its contract: one buffer after the other. Assumes nothing.
use mathlib.Core.Logic.{inl, inr}
use Rattle.formula_call.proofs.lent_short.Goals as goal

pub returns-then-out-lt-RULE_SIZE : goal.returns-then-out-lt-RULE_SIZE
returns-then-out-lt-RULE_SIZE c = inl c.if-out-lt-RULE_SIZE.true

pub returns-then-stack-lt-STACK_SIZE : goal.returns-then-stack-lt-STACK_SIZE
returns-then-stack-lt-STACK_SIZE c = inr (inl c.if-stack-lt-STACK_SIZE.true)

pub returns-then-spare-lt-RULE_SIZE : goal.returns-then-spare-lt-RULE_SIZE
returns-then-spare-lt-RULE_SIZE c = inr (inr (inl c.if-spare-lt-RULE_SIZE.true))

pub returns-then-classes-lt-UNTIL_CLASSES_SIZE : goal.returns-then-classes-lt-UNTIL_CLASSES_SIZE
returns-then-classes-lt-UNTIL_CLASSES_SIZE c = inr (inr (inr (inl c.if-classes-lt-UNTIL_CLASSES_SIZE.true)))

pub returns-then-scratch-lt-SCRATCH_SIZE : goal.returns-then-scratch-lt-SCRATCH_SIZE
returns-then-scratch-lt-SCRATCH_SIZE c = inr (inr (inr (inr c.if-scratch-lt-SCRATCH_SIZE.true)))
