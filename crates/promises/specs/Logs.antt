-- Logs of a monitor and its points: histories that a keep stores and a return makes the present one again. Document 02, Job 1. Assumes
-- nothing.
use Rattle.std.specs.Prelude.{ℕ, ◌<◌, ◌≡◌, cond, List, [], ◌∷◌, eqb}
use Rattle.answer.specs.declared.Refusal.{Refusal}
use Rattle.theory.specs.Rules.{Morphism}
use Rattle.promises.specs.declared.Monitor.{Monitor}
use Rattle.promises.specs.declared.Moved.TheVariants.{To, Refused}
use Rattle.promises.specs.declared.InPlaceAnswer.TheVariants.{Done, Refused as Not-done}
use Rattle.promises.specs.Monitor.{fresh_monitor}
use Rattle.promises.specs.Moves.{after_event, after_mark, EventPromise, MarkPromise}
use Rattle.promises.specs.InPlace.{EventInPlace}
use Rattle.promises.specs.declared.Step.{Step}
use Rattle.promises.specs.declared.Advanced.TheVariants.{To as Advanced-to, Refused as Not-advanced}
use Rattle.promises.specs.Advance.{AdvancePromise, AdvanceWordPromise}
use Rattle.promises.specs.Feed.{FeedPromise}
use Rattle.promises.specs.Histories.{Action, event, mark, with_step, with_word}
use Rattle.promises.specs.Points.{names_count, NeverKept, KeepPromise, ReturnPromise}

-- what is stored under a name: nothing yet, or a history, its latest action first
pub data Stored : Type 0 where
  never : Stored
  stored : List Action → Stored

-- "a keep stores it", under its name and no other
unfoldable pub stored_at : (ℕ → Stored) → ℕ → List Action → ℕ → Stored
stored_at names name history other = cond (eqb other name) (stored history) (names other)

-- a monitor and points that calls have led to, by what the calls promise, with the history and what each name stores.
-- "The history is the list of events and marks; a keep stores it, a return makes it the stored one again, a refused call leaves it and
-- the points. With one rule throughout, a fresh follower and no name kept first, and both handed on unaltered": each call gets the
-- monitor and the points that the calls before it left; only keep and return get the points.
pub data Log (bytes : List ℕ) : Monitor → List ℕ → List Action → (ℕ → Stored) → Type 0 where
  begun : {f : Monitor} {points : List ℕ} → f ≡ fresh_monitor → ((name : ℕ) → name < names_count → NeverKept points name) → Log bytes f points [] (λ name. never)
  moved_by_event : {f g : Monitor} {points : List ℕ} {history : List Action} {names : ℕ → Stored} {letter : ℕ} {entry exit : List ℕ}
      → Log bytes f points history names → EventPromise bytes f letter entry exit (To g) → Log bytes g points (event letter ∷ history) names
  moved_by_mark : {f g : Monitor} {points : List ℕ} {history : List Action} {names : ℕ → Stored} {entry exit : List ℕ}
      → Log bytes f points history names → MarkPromise bytes f entry exit (To g) → Log bytes g points (mark ∷ history) names
  moved_in_place : {f g : Monitor} {points : List ℕ} {history : List Action} {names : ℕ → Stored} {letter : ℕ} {entry exit : List ℕ}
      → Log bytes f points history names → EventInPlace bytes f letter entry exit g Done → Log bytes g points (event letter ∷ history) names
  moved_by_advance : {f g : Monitor} {points : List ℕ} {history : List Action} {names : ℕ → Stored} {input : ℕ} {step : Step} {entry exit : List ℕ} {grade turns : ℕ}
      → Log bytes f points history names → AdvancePromise input bytes f step entry exit (Advanced-to g grade turns) → Log bytes g points (with_step step history) names
  moved_by_word : {f g : Monitor} {points : List ℕ} {history : List Action} {names : ℕ → Stored} {input : ℕ} {w entry exit : List ℕ} {grade turns : ℕ}
      → Log bytes f points history names → AdvanceWordPromise input bytes f w entry exit (Advanced-to g grade turns) → Log bytes g points (with_word w history) names
  moved_by_feed : {f g : Monitor} {points : List ℕ} {history : List Action} {names : ℕ → Stored} {w entry exit : List ℕ}
      → Log bytes f points history names → FeedPromise bytes f w entry exit (To g) → Log bytes g points (with_word w history) names
  kept : {f g : Monitor} {points points-exit : List ℕ} {history : List Action} {names : ℕ → Stored} {name : ℕ} {entry exit : List ℕ}
      → Log bytes f points history names → KeepPromise bytes f name points points-exit entry exit (To g) → Log bytes g points-exit history (stored_at names name history)
  returned : {f g : Monitor} {points : List ℕ} {history past : List Action} {names : ℕ → Stored} {name : ℕ} {entry exit : List ℕ}
      → Log bytes f points history names → names name ≡ stored past → ReturnPromise bytes f name points entry exit (To g) → Log bytes g points past names
  event_refused : {f g : Monitor} {points : List ℕ} {history : List Action} {names : ℕ → Stored} {letter : ℕ} {entry exit : List ℕ} {refusal : Refusal} {input place : ℕ}
      → Log bytes f points history names → EventPromise bytes f letter entry exit (Refused g refusal input place) → Log bytes g points history names
  mark_refused : {f g : Monitor} {points : List ℕ} {history : List Action} {names : ℕ → Stored} {entry exit : List ℕ} {refusal : Refusal} {input place : ℕ}
      → Log bytes f points history names → MarkPromise bytes f entry exit (Refused g refusal input place) → Log bytes g points history names
  refused_in_place : {f g : Monitor} {points : List ℕ} {history : List Action} {names : ℕ → Stored} {letter : ℕ} {entry exit : List ℕ} {refusal : Refusal} {input place : ℕ}
      → Log bytes f points history names → EventInPlace bytes f letter entry exit g (Not-done refusal input place) → Log bytes g points history names
  advance_refused : {f g : Monitor} {points : List ℕ} {history : List Action} {names : ℕ → Stored} {input : ℕ} {step : Step} {entry exit : List ℕ} {refusal : Refusal} {i place : ℕ}
      → Log bytes f points history names → AdvancePromise input bytes f step entry exit (Not-advanced g refusal i place) → Log bytes g points history names
  word_refused : {f g : Monitor} {points : List ℕ} {history : List Action} {names : ℕ → Stored} {input : ℕ} {w entry exit : List ℕ} {refusal : Refusal} {i place : ℕ}
      → Log bytes f points history names → AdvanceWordPromise input bytes f w entry exit (Not-advanced g refusal i place) → Log bytes g points history names
  feed_refused : {f g : Monitor} {points : List ℕ} {history : List Action} {names : ℕ → Stored} {w entry exit : List ℕ} {refusal : Refusal} {input place : ℕ}
      → Log bytes f points history names → FeedPromise bytes f w entry exit (Refused g refusal input place) → Log bytes g points history names
  keep_refused : {f g : Monitor} {points points-exit : List ℕ} {history : List Action} {names : ℕ → Stored} {name : ℕ} {entry exit : List ℕ} {refusal : Refusal} {input place : ℕ}
      → Log bytes f points history names → KeepPromise bytes f name points points-exit entry exit (Refused g refusal input place) → Log bytes g points-exit history names
  return_refused : {f g : Monitor} {points : List ℕ} {history : List Action} {names : ℕ → Stored} {name : ℕ} {entry exit : List ℕ} {refusal : Refusal} {input place : ℕ}
      → Log bytes f points history names → ReturnPromise bytes f name points entry exit (Refused g refusal input place) → Log bytes g points history names

-- what "a fresh follower" becomes by "the history alone": each of its events and marks in turn
unfoldable pub after_history : Morphism → List Action → Monitor
after_history m [] = fresh_monitor
after_history m (event letter ∷ history) = after_event m (after_history m history) letter
after_history m (mark ∷ history) = after_mark m (after_history m history)
