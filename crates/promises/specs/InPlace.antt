-- What `event_in_place` promises, which is lent a monitor and stores the new since in it. Assumes nothing.
use Rattle.std.specs.Prelude.{ℕ, ◌≡◌, List}
use Rattle.answer.specs.Checks.{Verdict, passed, refused, FirstFailure}
use Rattle.formats.specs.RuleFile.{morphism_of}
use Rattle.formats.specs.Calls.{after_call}
use Rattle.promises.specs.declared.Monitor.{Monitor}
use Rattle.promises.specs.declared.InPlaceAnswer.{InPlaceAnswer}
use Rattle.promises.specs.declared.InPlaceAnswer.TheVariants.{Done, Refused as Not-done}
use Rattle.promises.specs.Moves.{after_event, event_checks}

-- document 01's number, input and place of a call that is lent a monitor
abbrev pub in_place_verdict : InPlaceAnswer → Verdict
in_place_verdict Done = passed
in_place_verdict (Not-done refusal input place) = refused refusal input place

-- the monitor that is left: the moved one, or after a refusal the same
abbrev pub Leaves : Monitor → Monitor → Monitor → InPlaceAnswer → Type 0
Leaves f next g Done = g ≡ next
Leaves f next g (Not-done refusal input place) = g ≡ f

-- an event on a monitor that is lent: f at entry and g at exit
pub record EventInPlace (bytes : List ℕ) (f : Monitor) (letter : ℕ) (entry exit : List ℕ) (g : Monitor) (answer : InPlaceAnswer) : Type 0 where
  pub refusal : FirstFailure (event_checks bytes f letter entry) (in_place_verdict answer)
  pub monitor : Leaves f (after_event (morphism_of bytes) f letter) g answer
  pub scratch : exit ≡ after_call entry
