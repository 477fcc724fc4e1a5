-- The loop holds a byte that no passed mark below the grade is above, each less the grade and modulo 256. Assumes nothing.
use Rattle.std.proofs.Common.{◌≤◌, ◌∙◌, arith}
use Rattle.std.proofs.lemmas.Grind.{common_steps}
use Rattle.mark_grade_search.proofs.Grades.{top_none, top_more, highest_all, highest_some}
use Rattle.mark_grade_search.proofs.highest_below.Goals as goal

pub loop-mark-init : goal.loop-mark-init
loop-mark-init c = top_none _ c.requires.0 c.wrapping_sub_u8-top.ensures.value

pub loop-mark-preserved : goal.loop-mark-preserved
loop-mark-preserved c =
    top_more c.loop-mark.invariant (c.wrapping_sub_u8-shifted.ensures.value ∙ grind (arith, common_steps)) (omega (arith, c.max-top.ensures), omega (arith, c.max-top.ensures))

pub shifted_back-highest-requires : goal.shifted_back-highest-requires
shifted_back-highest-requires c = c.loop-mark.invariant.least

pub returns : goal.returns
returns c =
    let all : c.args.count ≤ c.loop-mark.mark-index = grind (arith, common_steps) in
    highest_some _ c.then_some.ensures (highest_all c.loop-mark.invariant all c.shifted_back-highest.ensures)
