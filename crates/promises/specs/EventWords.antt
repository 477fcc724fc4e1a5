-- A word of events: how long it may be, its checks, and what its letters in turn make of a monitor. Assumes nothing.
use Rattle.std.specs.Prelude.{ℕ, ◌<◌, ◌≡◌, List, [], ◌∷◌, length}
use Rattle.answer.specs.declared.Refusal.TheVariants.{UnknownLetter, WordLength}
use Rattle.answer.specs.Checks.{Check}
use Rattle.theory.specs.Rules.{Morphism}
use Rattle.formats.specs.WordChecks.{UnknownLetterAt}
use Rattle.promises.specs.declared.Monitor.{Monitor}
use Rattle.promises.specs.Moves.{after_event}

-- a word of events has 0 to 16,777,216 letters
abbrev pub longest_log : ℕ
longest_log = 16777216

-- 11 of one that has more; place 0
pub record LogTooLongAt (w : List ℕ) (place : ℕ) : Type 0 where
  pub above : longest_log < length w
  pub is_place : place ≡ 0

-- 11, then 10 with the position of the first foreign letter, for a rule with k letters, which is the input of the given number
abbrev pub log_checks : ℕ → ℕ → List ℕ → List Check
log_checks input k w =
    record { refusal = WordLength; input = input; Fails = LogTooLongAt w }
    ∷ record { refusal = UnknownLetter; input = input; Fails = UnknownLetterAt k w }
    ∷ []

-- the monitor after an event for each letter, the first letter first
unfoldable pub after_word : Morphism → Monitor → List ℕ → Monitor
after_word m f [] = f
after_word m f (letter ∷ w) = after_word m (after_event m f letter) w
