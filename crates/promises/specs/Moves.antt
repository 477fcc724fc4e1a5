-- What `event` and `mark` promise. Document 01, "Follower". Assumes nothing.
use Rattle.std.specs.Prelude.{ℕ, ◌≤◌, ◌≡◌, List, [], ◌∷◌, ◌++◌}
use Rattle.theory.specs.Rules.{Morphism, element, join}
use Rattle.promises.specs.declared.Monitor.{Monitor}
use Rattle.promises.specs.Monitor.{no_value, value_of, number_for, monitor_checks}
use Rattle.answer.specs.declared.Refusal.TheVariants.{UnknownLetter}
use Rattle.answer.specs.Checks.{Check, Verdict, passed, refused, FirstFailure}
use Rattle.formats.specs.RuleFile.{letters_of, morphism_of}
use Rattle.formats.specs.Calls.{after_call}
use Rattle.promises.specs.declared.Moved.{Moved}
use Rattle.promises.specs.declared.Moved.TheVariants.{To, Refused}

-- "An event multiplies since on the right by the letter's element. With since none, since becomes that element."
unfoldable pub after_event : Morphism → Monitor → ℕ → Monitor
after_event m f letter = record { before = f.before; since = number_for (join m (value_of f.since) (element (m.image letter))) }

-- "A mark makes before the product of before and since (since alone if before is none) and empties since; with since none it
-- changes nothing": the product with none is before itself
unfoldable pub after_mark : Morphism → Monitor → Monitor
after_mark m f = record { before = number_for (join m (value_of f.before) (value_of f.since)); since = no_value }

-- 10 "a word or event has a letter of k or more"; place "0 for a lone letter"
pub record LoneUnknownLetterAt (k letter place : ℕ) : Type 0 where
  pub foreign : k ≤ letter
  pub is_place : place ≡ 0

-- 10 of a letter, for a rule with k letters, which is the input of the given number
abbrev pub lone_letter_check : ℕ → ℕ → ℕ → Check
lone_letter_check input k letter = record { refusal = UnknownLetter; input = input; Fails = LoneUnknownLetterAt k letter }

-- and then 10 "for an event"
abbrev pub event_checks : List ℕ → Monitor → ℕ → List ℕ → List Check
event_checks bytes f letter scratch = monitor_checks bytes f scratch ++ lone_letter_check 1 (letters_of bytes) letter ∷ []

-- document 01's number, input and place of a call on a monitor
abbrev pub moved_verdict : Moved → Verdict
moved_verdict (To f) = passed
moved_verdict (Refused f refusal input place) = refused refusal input place

-- the monitor that is handed back: the moved one, or after a refusal the same
abbrev pub HandsBack : Monitor → Monitor → Moved → Type 0
HandsBack f next (To g) = g ≡ next
HandsBack f next (Refused g refusal input place) = g ≡ f

pub record EventPromise (bytes : List ℕ) (f : Monitor) (letter : ℕ) (entry exit : List ℕ) (answer : Moved) : Type 0 where
  pub refusal : FirstFailure (event_checks bytes f letter entry) (moved_verdict answer)
  pub monitor : HandsBack f (after_event (morphism_of bytes) f letter) answer
  pub scratch : exit ≡ after_call entry

pub record MarkPromise (bytes : List ℕ) (f : Monitor) (entry exit : List ℕ) (answer : Moved) : Type 0 where
  pub refusal : FirstFailure (monitor_checks bytes f entry) (moved_verdict answer)
  pub monitor : HandsBack f (after_mark (morphism_of bytes) f) answer
  pub scratch : exit ≡ after_call entry
