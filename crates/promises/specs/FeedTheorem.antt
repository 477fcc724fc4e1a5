-- The theorem on `feed`: it is `event` letter by letter, and the monitor's part of `advance_word`. Assumes nothing.
use Rattle.std.specs.Prelude.{ℕ, suc, ◌≤◌, ◌≡◌, List, [], ◌∷◌, length}
use Rattle.answer.specs.declared.Refusal.{Refusal}
use Rattle.formats.specs.RuleChecks.{scratch_size}
use Rattle.promises.specs.declared.Monitor.{Monitor}
use Rattle.promises.specs.declared.Moved.{Moved}
use Rattle.promises.specs.declared.Moved.TheVariants.{To, Refused}
use Rattle.promises.specs.declared.Advanced.TheVariants.{To as Advanced-to}
use Rattle.promises.specs.Moves.{EventPromise, MarkPromise}
use Rattle.promises.specs.EventWords.{longest_log}
use Rattle.promises.specs.Advance.{AdvanceWordPromise}
use Rattle.promises.specs.Feed.{FeedPromise}

-- the answer for a letter and a word behind it, by the one for the word: a refusal lies one position further on, and hands back the monitor before the letter
abbrev pub fed_behind : Monitor → Moved → Moved
fed_behind f (To g) = To g
fed_behind f (Refused g refusal input place) = Refused f refusal input (suc place)

pub record FeedTheorem : Type 0 where
  -- "an empty word changes nothing": of a rule and a monitor that a mark would pass with
  pub no_letters : (bytes : List ℕ) (f g : Monitor) (entry exit exit' : List ℕ) (answer : Moved) → MarkPromise bytes f entry exit (To g)
      → FeedPromise bytes f [] entry exit' answer → answer ≡ To f
  -- where the first letter is refused, so is the word, with its number, input and place
  pub first_refused : (bytes : List ℕ) (f g : Monitor) (letter : ℕ) (w entry exit exit' : List ℕ) (refusal : Refusal) (i place : ℕ) (answer : Moved)
      → length (letter ∷ w) ≤ longest_log → EventPromise bytes f letter entry exit (Refused g refusal i place)
      → FeedPromise bytes f (letter ∷ w) entry exit' answer → answer ≡ Refused f refusal i place
  -- where it passes, the other letters decide, from the monitor that it led to; each call with any scratch that is long enough
  pub first_passed : (bytes : List ℕ) (f h : Monitor) (letter : ℕ) (w entry entry' entry'' exit exit' exit'' : List ℕ) (answer rest : Moved)
      → length (letter ∷ w) ≤ longest_log → scratch_size ≤ length entry' → scratch_size ≤ length entry'' → EventPromise bytes f letter entry exit (To h)
      → FeedPromise bytes h w entry' exit' rest → FeedPromise bytes f (letter ∷ w) entry'' exit'' answer → answer ≡ fed_behind f rest
  -- a word that `advance_word` takes is fed to the same monitor
  pub without_grade : (input : ℕ) (bytes : List ℕ) (f g : Monitor) (w entry entry' exit exit' : List ℕ) (grade turns : ℕ) (answer : Moved) → scratch_size ≤ length entry'
      → AdvanceWordPromise input bytes f w entry exit (Advanced-to g grade turns) → FeedPromise bytes f w entry' exit' answer → answer ≡ To g
