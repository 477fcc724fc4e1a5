-- The theorem on `advance` and `advance_word`: a word of events is its letters one by one, and a step that passes is the call that takes the step, `event` or
-- `mark`, and then `verdict`. Assumes nothing.
use Rattle.std.specs.Prelude.{ℕ, suc, ◌≤◌, ◌≡◌, List, [], ◌∷◌, length}
use Rattle.answer.specs.declared.Refusal.{Refusal}
use Rattle.formats.specs.RuleChecks.{scratch_size}
use Rattle.promises.specs.declared.Monitor.{Monitor}
use Rattle.promises.specs.declared.Moved.{Moved}
use Rattle.promises.specs.declared.Moved.TheVariants.{To as Moved-to}
use Rattle.promises.specs.declared.LassoVerdict.{LassoVerdict}
use Rattle.promises.specs.declared.LassoVerdict.TheVariants.{Decided}
use Rattle.promises.specs.declared.Step.{Step}
use Rattle.promises.specs.declared.Step.TheVariants.{Event, Mark, Stay}
use Rattle.promises.specs.declared.Advanced.{Advanced}
use Rattle.promises.specs.declared.Advanced.TheVariants.{To, Refused}
use Rattle.promises.specs.Monitor.{no_value}
use Rattle.promises.specs.Moves.{EventPromise, MarkPromise}
use Rattle.promises.specs.Verdict.{VerdictPromise}
use Rattle.promises.specs.EventWords.{longest_log}
use Rattle.promises.specs.Advance.{AdvancePromise, AdvanceWordPromise}

-- the answer for a letter and a word behind it, by the one for the word: a refusal lies one position further on, and hands back the monitor before the letter
abbrev pub behind_letter : Monitor → Advanced → Advanced
behind_letter f (To g grade turns) = To g grade turns
behind_letter f (Refused g refusal input place) = Refused f refusal input (suc place)

pub record AdvanceTheorem : Type 0 where
  -- a word of no letters is a step that leaves the monitor
  pub no_letters : (input : ℕ) (bytes : List ℕ) (f : Monitor) (entry exit exit' : List ℕ) (answer answer' : Advanced)
      → AdvanceWordPromise input bytes f [] entry exit answer → AdvancePromise input bytes f Stay entry exit' answer' → answer ≡ answer'
  -- where the first letter is refused, so is the word, with its number, input and place
  pub first_refused : (input : ℕ) (bytes : List ℕ) (f g : Monitor) (letter : ℕ) (w entry exit exit' : List ℕ) (refusal : Refusal) (i place : ℕ) (answer : Advanced)
      → length (letter ∷ w) ≤ longest_log → AdvancePromise input bytes f (Event letter) entry exit (Refused g refusal i place)
      → AdvanceWordPromise input bytes f (letter ∷ w) entry exit' answer → answer ≡ Refused f refusal i place
  -- where it passes, the other letters decide, from the monitor that it led to; each call with any scratch that is long enough
  pub first_passed : (input : ℕ) (bytes : List ℕ) (f h : Monitor) (letter : ℕ) (w entry entry' entry'' exit exit' exit'' : List ℕ) (grade turns : ℕ) (answer rest : Advanced)
      → length (letter ∷ w) ≤ longest_log → scratch_size ≤ length entry' → scratch_size ≤ length entry''
      → AdvancePromise input bytes f (Event letter) entry exit (To h grade turns)
      → AdvanceWordPromise input bytes h w entry' exit' rest → AdvanceWordPromise input bytes f (letter ∷ w) entry'' exit'' answer → answer ≡ behind_letter f rest
  -- a step that passes is the call that takes it, which has rules as its first input
  pub event_alone : (input : ℕ) (bytes : List ℕ) (f g : Monitor) (letter : ℕ) (entry entry' exit exit' : List ℕ) (grade turns : ℕ) (answer : Moved)
      → scratch_size ≤ length entry' → AdvancePromise input bytes f (Event letter) entry exit (To g grade turns)
      → EventPromise bytes f letter entry' exit' answer → answer ≡ Moved-to g
  pub mark_alone : (input : ℕ) (bytes : List ℕ) (f g : Monitor) (entry entry' exit exit' : List ℕ) (grade turns : ℕ) (answer : Moved)
      → scratch_size ≤ length entry' → AdvancePromise input bytes f Mark entry exit (To g grade turns)
      → MarkPromise bytes f entry' exit' answer → answer ≡ Moved-to g
  -- and then the verdict, where since is an element; after an event it is
  pub then_verdict : (input : ℕ) (bytes : List ℕ) (f g : Monitor) (step : Step) (entry entry' exit exit' : List ℕ) (grade turns : ℕ) (answer : LassoVerdict)
      → scratch_size ≤ length entry' → AdvancePromise input bytes f step entry exit (To g grade turns) → ¬ (g.since ≡ no_value)
      → VerdictPromise bytes g entry' exit' answer → answer ≡ Decided grade turns
  pub event_some : (input : ℕ) (bytes : List ℕ) (f g : Monitor) (letter : ℕ) (entry exit : List ℕ) (grade turns : ℕ)
      → AdvancePromise input bytes f (Event letter) entry exit (To g grade turns) → ¬ (g.since ≡ no_value)
