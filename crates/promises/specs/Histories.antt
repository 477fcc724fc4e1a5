-- Histories of a monitor: the calls that moved it, and the words of letters that they were told. Assumes nothing.
use Rattle.std.specs.Prelude.{ℕ, ◌≡◌, List, [], ◌∷◌, ◌++◌}
use Rattle.answer.specs.declared.Refusal.{Refusal}
use Rattle.theory.specs.Words.{Over}
use Rattle.theory.specs.Rules.{value}
use Rattle.formats.specs.RuleFile.{letters_of, morphism_of}
use Rattle.promises.specs.declared.Monitor.{Monitor}
use Rattle.promises.specs.declared.Moved.TheVariants.{To, Refused}
use Rattle.promises.specs.declared.InPlaceAnswer.TheVariants.{Done, Refused as Not-done}
use Rattle.promises.specs.Monitor.{value_of, fresh_monitor}
use Rattle.promises.specs.Moves.{EventPromise, MarkPromise}
use Rattle.promises.specs.InPlace.{EventInPlace}
use Rattle.promises.specs.declared.Step.{Step}
use Rattle.promises.specs.declared.Step.TheVariants.{Event, Mark, Stay}
use Rattle.promises.specs.declared.Advanced.TheVariants.{To as Advanced-to, Refused as Not-advanced}
use Rattle.promises.specs.Advance.{AdvancePromise, AdvanceWordPromise}
use Rattle.promises.specs.Feed.{FeedPromise}

-- what moves a monitor: an event with its letter, or a mark
pub data Action : Type 0 where
  event : ℕ → Action
  mark : Action

-- the letters since the last mark, in the order they came; a history has its latest action first
unfoldable pub since_word : List Action → List ℕ
since_word [] = []
since_word (event letter ∷ history) = since_word history ++ letter ∷ []
since_word (mark ∷ history) = []

-- the letters before the last mark
unfoldable pub before_word : List Action → List ℕ
unfolding since_word
before_word [] = []
before_word (event letter ∷ history) = before_word history
before_word (mark ∷ history) = before_word history ++ since_word history

-- a history with a step: an event or a mark, or nothing more
abbrev pub with_step : Step → List Action → List Action
with_step (Event letter) history = event letter ∷ history
with_step Mark history = mark ∷ history
with_step Stay history = history

-- a history with an event for each letter of a word, its last letter the latest
unfoldable pub with_word : List ℕ → List Action → List Action
with_word [] history = history
with_word (letter ∷ w) history = with_word w (event letter ∷ history)

-- a monitor that calls have led to, by what the calls promise: it was fresh, each call that moved it is in the history, and a
-- refused call, which hands a monitor back or leaves one too, is not
pub data MonitorRun (bytes : List ℕ) : Monitor → List Action → Type 0 where
  begun : {f : Monitor} → f ≡ fresh_monitor → MonitorRun bytes f []
  moved_by_event : {f g : Monitor} {history : List Action} {letter : ℕ} {entry exit : List ℕ}
      → MonitorRun bytes f history → EventPromise bytes f letter entry exit (To g) → MonitorRun bytes g (event letter ∷ history)
  moved_by_mark : {f g : Monitor} {history : List Action} {entry exit : List ℕ}
      → MonitorRun bytes f history → MarkPromise bytes f entry exit (To g) → MonitorRun bytes g (mark ∷ history)
  moved_in_place : {f g : Monitor} {history : List Action} {letter : ℕ} {entry exit : List ℕ}
      → MonitorRun bytes f history → EventInPlace bytes f letter entry exit g Done → MonitorRun bytes g (event letter ∷ history)
  moved_by_advance : {f g : Monitor} {history : List Action} {input : ℕ} {step : Step} {entry exit : List ℕ} {grade turns : ℕ}
      → MonitorRun bytes f history → AdvancePromise input bytes f step entry exit (Advanced-to g grade turns) → MonitorRun bytes g (with_step step history)
  moved_by_word : {f g : Monitor} {history : List Action} {input : ℕ} {w entry exit : List ℕ} {grade turns : ℕ}
      → MonitorRun bytes f history → AdvanceWordPromise input bytes f w entry exit (Advanced-to g grade turns) → MonitorRun bytes g (with_word w history)
  moved_by_feed : {f g : Monitor} {history : List Action} {w entry exit : List ℕ}
      → MonitorRun bytes f history → FeedPromise bytes f w entry exit (To g) → MonitorRun bytes g (with_word w history)
  event_refused : {f g : Monitor} {history : List Action} {letter : ℕ} {entry exit : List ℕ} {refusal : Refusal} {input place : ℕ}
      → MonitorRun bytes f history → EventPromise bytes f letter entry exit (Refused g refusal input place) → MonitorRun bytes g history
  mark_refused : {f g : Monitor} {history : List Action} {entry exit : List ℕ} {refusal : Refusal} {input place : ℕ}
      → MonitorRun bytes f history → MarkPromise bytes f entry exit (Refused g refusal input place) → MonitorRun bytes g history
  refused_in_place : {f g : Monitor} {history : List Action} {letter : ℕ} {entry exit : List ℕ} {refusal : Refusal} {input place : ℕ}
      → MonitorRun bytes f history → EventInPlace bytes f letter entry exit g (Not-done refusal input place) → MonitorRun bytes g history
  advance_refused : {f g : Monitor} {history : List Action} {input : ℕ} {step : Step} {entry exit : List ℕ} {refusal : Refusal} {i place : ℕ}
      → MonitorRun bytes f history → AdvancePromise input bytes f step entry exit (Not-advanced g refusal i place) → MonitorRun bytes g history
  word_refused : {f g : Monitor} {history : List Action} {input : ℕ} {w entry exit : List ℕ} {refusal : Refusal} {i place : ℕ}
      → MonitorRun bytes f history → AdvanceWordPromise input bytes f w entry exit (Not-advanced g refusal i place) → MonitorRun bytes g history
  feed_refused : {f g : Monitor} {history : List Action} {w entry exit : List ℕ} {refusal : Refusal} {input place : ℕ}
      → MonitorRun bytes f history → FeedPromise bytes f w entry exit (Refused g refusal input place) → MonitorRun bytes g history

-- the monitor has the values of its history's two words, and those are words over the rule's letters
pub record Follows (bytes : List ℕ) (f : Monitor) (history : List Action) : Type 0 where
  pub before_over : Over (letters_of bytes) (before_word history)
  pub since_over : Over (letters_of bytes) (since_word history)
  pub before_value : value_of f.before ≡ value (morphism_of bytes) (before_word history)
  pub since_value : value_of f.since ≡ value (morphism_of bytes) (since_word history)
