-- Each case is one of its cases. Assumes nothing.
use mathlib.Core.Path.{sym, ap}
use Rattle.next_call.specs.Answers.{formed_of}
use Rattle.next_call.proofs.formed.Goals as goal

pub returns-in-Some : goal.returns-in-Some
returns-in-Some c = sym (ap formed_of c.in-Some.is)

pub returns-in-None : goal.returns-in-None
returns-in-None c = sym (ap formed_of c.in-None.is)
