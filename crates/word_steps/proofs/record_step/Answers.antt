-- Three bytes are written, each within its part of scratch. Assumes nothing.
use Rattle.word_steps.proofs.Recording.{parent_inside, letter_inside, step_recorded}
use Rattle.word_steps.proofs.record_step.Goals as goal

pub bounds-scratch-next : goal.bounds-scratch-next
bounds-scratch-next c = parent_inside c.requires

pub bounds-scratch-next-2 : goal.bounds-scratch-next-2
bounds-scratch-next-2 c = letter_inside c.requires

pub returns : goal.returns
returns c = step_recorded c.requires
