-- The second where it is higher, else the first. Assumes nothing.
use Rattle.lasso_powers.proofs.Raises.{raised_higher, raised_stays}
use Rattle.lasso_powers.proofs.higher.Goals as goal

pub returns-then-x-y : goal.returns-then-x-y
returns-then-x-y c = raised_higher c.if-x-y.true

pub returns : goal.returns
returns c = raised_stays c.if-x-y.false
