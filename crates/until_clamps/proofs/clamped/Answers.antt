-- Each way is one of the cases. Assumes nothing.
use Rattle.until_clamps.proofs.Clamps.{clamped_low, clamped_high, clamped_under, clamped_same}
use Rattle.until_clamps.proofs.clamped.Goals as goal

pub returns-then-high-low : goal.returns-then-high-low
returns-then-high-low c = clamped_low _ _ _ c.if-high-r.true c.if-high-low.true

pub returns-then-high-r : goal.returns-then-high-r
returns-then-high-r c = clamped_high _ _ _ c.if-high-r.true c.if-high-low.false

pub returns-then-r-low : goal.returns-then-r-low
returns-then-r-low c = clamped_under _ _ _ c.if-high-r.false c.if-r-low.true

pub returns : goal.returns
returns c = clamped_same _ _ _ c.if-high-r.false c.if-r-low.false
