-- The theorem on named points. Document 02, Job 1: "the verdict after any events, marks, keeps and returns is the one a fresh follower gives after the
-- history alone"; so are the monitor and each point; the verdict's grade is that of the lasso of the history's letters; and whatever calls are made and
-- whatever they answer, there is such a history. Assumes nothing.
use Rattle.std.specs.Prelude.{ℕ, ◌≤◌, ◌<◌, ◌≡◌, List, length}
use Rattle.theory.specs.Grades.{Graded}
use Rattle.theory.specs.Pairs.{TurnsOf}
use Rattle.formats.specs.RuleFile.{morphism_of, marking_of}
use Rattle.formats.specs.RuleChecks.{scratch_size}
use Rattle.promises.specs.declared.Monitor.{Monitor}
use Rattle.promises.specs.declared.Moved.{Moved}
use Rattle.promises.specs.declared.Moved.TheVariants.{To, Refused}
use Rattle.promises.specs.declared.InPlaceAnswer.{InPlaceAnswer}
use Rattle.promises.specs.declared.LassoVerdict.{LassoVerdict}
use Rattle.promises.specs.declared.LassoVerdict.TheVariants.{Decided}
use Rattle.promises.specs.Monitor.{fresh_monitor}
use Rattle.promises.specs.Moves.{EventPromise, MarkPromise}
use Rattle.promises.specs.InPlace.{EventInPlace}
use Rattle.promises.specs.declared.Step.{Step}
use Rattle.promises.specs.declared.Advanced.{Advanced}
use Rattle.promises.specs.declared.Advanced.TheVariants.{To as Advanced-to, Refused as Not-advanced}
use Rattle.promises.specs.Advance.{AdvancePromise, AdvanceWordPromise}
use Rattle.promises.specs.Feed.{FeedPromise}
use Rattle.promises.specs.Verdict.{VerdictPromise}
use Rattle.promises.specs.Points.{names_count, NeverKept, point_at, KeepPromise, ReturnPromise}
use Rattle.promises.specs.Histories.{Action, since_word, before_word, MonitorRun}
use Rattle.promises.specs.Logs.{Stored, stored, Log, after_history}

-- some history that calls have led to, with some stored ones
pub record Logged (bytes : List ℕ) (f : Monitor) (points : List ℕ) : Type 0 where
  pub history : List Action
  pub names : ℕ → Stored
  pub log : Log bytes f points history names

-- the monitor that a call hands back
abbrev pub handed_back : Moved → Monitor
handed_back (To g) = g
handed_back (Refused g refusal input place) = g

abbrev pub advanced_monitor : Advanced → Monitor
advanced_monitor (Advanced-to g grade turns) = g
advanced_monitor (Not-advanced g refusal input place) = g

-- "With one rule throughout, a fresh follower and no name kept first, and both handed on unaltered"
pub record PointsTheorem : Type 0 where
  pub monitor : (bytes : List ℕ) (f : Monitor) (points : List ℕ) (history : List Action) (names : ℕ → Stored) → Log bytes f points history names
      → f ≡ after_history (morphism_of bytes) history
  pub point : (bytes : List ℕ) (f : Monitor) (points : List ℕ) (history : List Action) (names : ℕ → Stored) → Log bytes f points history names
      → (name : ℕ) → name < names_count → (past : List Action) → names name ≡ stored past → point_at points name ≡ after_history (morphism_of bytes) past
  -- events and marks alone lead to it, those of the history
  pub run : (bytes : List ℕ) (f : Monitor) (points : List ℕ) (history : List Action) (names : ℕ → Stored) → Log bytes f points history names → MonitorRun bytes f history
  -- a return that passes goes to a name that stores a history
  pub stored_there : (bytes : List ℕ) (f g : Monitor) (points : List ℕ) (history : List Action) (names : ℕ → Stored) → Log bytes f points history names
      → (name : ℕ) (entry exit : List ℕ) → ReturnPromise bytes f name points entry exit (To g) → (past : List Action) × (names name ≡ stored past)
  -- asked with any scratch that is long enough, of the monitor and of one that saw the history alone
  pub verdict : (bytes : List ℕ) (f g : Monitor) (points : List ℕ) (history : List Action) (names : ℕ → Stored) → Log bytes f points history names → MonitorRun bytes g history
      → (entry entry' exit exit' : List ℕ) (answer answer' : LassoVerdict) → scratch_size ≤ length entry → scratch_size ≤ length entry'
      → VerdictPromise bytes f entry exit answer → VerdictPromise bytes g entry' exit' answer' → answer ≡ answer'
  pub graded : (bytes : List ℕ) (f : Monitor) (points : List ℕ) (history : List Action) (names : ℕ → Stored) → Log bytes f points history names
      → (entry exit : List ℕ) (grade turns : ℕ) → VerdictPromise bytes f entry exit (Decided grade turns)
      → Graded (morphism_of bytes) (marking_of bytes) (before_word history) (since_word history) grade
  pub turns : (bytes : List ℕ) (f : Monitor) (points : List ℕ) (history : List Action) (names : ℕ → Stored) → Log bytes f points history names
      → (entry exit : List ℕ) (grade turns : ℕ) → VerdictPromise bytes f entry exit (Decided grade turns) → TurnsOf (morphism_of bytes) (since_word history) turns
  -- there is a history at first, and after each call whatever it answers
  pub fresh_logged : (bytes points : List ℕ) → ((name : ℕ) → name < names_count → NeverKept points name) → Logged bytes fresh_monitor points
  pub event_logged : (bytes : List ℕ) (f : Monitor) (points : List ℕ) → Logged bytes f points → (letter : ℕ) (entry exit : List ℕ) (answer : Moved)
      → EventPromise bytes f letter entry exit answer → Logged bytes (handed_back answer) points
  pub mark_logged : (bytes : List ℕ) (f : Monitor) (points : List ℕ) → Logged bytes f points → (entry exit : List ℕ) (answer : Moved)
      → MarkPromise bytes f entry exit answer → Logged bytes (handed_back answer) points
  pub in_place_logged : (bytes : List ℕ) (f g : Monitor) (points : List ℕ) → Logged bytes f points → (letter : ℕ) (entry exit : List ℕ) (answer : InPlaceAnswer)
      → EventInPlace bytes f letter entry exit g answer → Logged bytes g points
  pub advance_logged : (bytes : List ℕ) (f : Monitor) (points : List ℕ) → Logged bytes f points → (input : ℕ) (step : Step) (entry exit : List ℕ) (answer : Advanced)
      → AdvancePromise input bytes f step entry exit answer → Logged bytes (advanced_monitor answer) points
  pub advance_word_logged : (bytes : List ℕ) (f : Monitor) (points : List ℕ) → Logged bytes f points → (input : ℕ) (w entry exit : List ℕ) (answer : Advanced)
      → AdvanceWordPromise input bytes f w entry exit answer → Logged bytes (advanced_monitor answer) points
  pub feed_logged : (bytes : List ℕ) (f : Monitor) (points : List ℕ) → Logged bytes f points → (w entry exit : List ℕ) (answer : Moved)
      → FeedPromise bytes f w entry exit answer → Logged bytes (handed_back answer) points
  pub keep_logged : (bytes : List ℕ) (f : Monitor) (points : List ℕ) → Logged bytes f points → (name : ℕ) (points-exit entry exit : List ℕ) (answer : Moved)
      → KeepPromise bytes f name points points-exit entry exit answer → Logged bytes (handed_back answer) points-exit
  pub return_logged : (bytes : List ℕ) (f : Monitor) (points : List ℕ) → Logged bytes f points → (name : ℕ) (entry exit : List ℕ) (answer : Moved)
      → ReturnPromise bytes f name points entry exit answer → Logged bytes (handed_back answer) points
