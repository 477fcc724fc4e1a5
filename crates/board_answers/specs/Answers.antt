-- What the library's answers make of a pass over the names, and what comes of a finished one. Assumes nothing.
use Rattle.std.specs.Prelude.{ℕ, ◌≤◌, ◌<◌, ◌≡◌, Bool, true, false, ◌⊎◌}
use Rattle.answer.specs.declared.Refusal.{Refusal}
use Rattle.answer.specs.declared.Refusal.TheVariants.{UnknownLetter}
use Rattle.answer.specs.Refusals.{number_of}
use Rattle.promises.specs.declared.Monitor.{Monitor}
use Rattle.promises.specs.declared.Advanced.{Advanced}
use Rattle.promises.specs.declared.Advanced.TheVariants.{To, Refused as Refused-answer}
use Rattle.board_promises.specs.declared.Board.{Board}
use Rattle.board_promises.specs.declared.Notice.{Notice}
use Rattle.board_promises.specs.declared.Notice.TheVariants.{Done, Refused}
use Rattle.board_promises.specs.declared.Posted.{Posted}
use Rattle.board_promises.specs.Boards.{board_names_count, with_monitor, with_lowest}
use Rattle.board_answers.specs.declared.Pass.{Pass}

-- a notice is of a refusal, or not
abbrev pub RefusesAnswer : Notice → Bool → Type 0
RefusesAnswer notice true = notice ≡ Done → ⊥
RefusesAnswer notice false = notice ≡ Done

-- the lesser of two numbers
pub record Lesser (a b r : ℕ) : Type 0 where
  pub first : r ≤ a
  pub second : r ≤ b
  pub either : (r ≡ a) ⊎ (r ≡ b)

-- the lowest grade with one more, which does not count if it is the leaver's
pub record LowestWith (leaver i lowest grade r : ℕ) : Type 0 where
  pub leaving : i ≡ leaver → r ≡ lowest
  pub staying : (i ≡ leaver → ⊥) → Lesser lowest grade r

-- what a library call's answer for a name makes of a pass
pub record GradeCounted (leaver i : ℕ) (p : Pass) (g : Monitor) (grade : ℕ) (r : Pass) : Type 0 where
  pub done : r.notice ≡ Done
  pub moved : r.next ≡ with_monitor p.next i g
  pub lowest : LowestWith leaver i p.lowest grade r.lowest
  pub foreign : r.foreign ≡ p.foreign

-- a name that the step is foreign to: nothing else of the pass changes
pub record FoundForeign (i : ℕ) (p r : Pass) : Type 0 where
  pub done : r.notice ≡ Done
  pub moved : r.next ≡ p.next
  pub lowest : r.lowest ≡ p.lowest
  pub foreign : Lesser p.foreign i r.foreign

-- a refusal: nothing else changes
abbrev pub with_refusal : Pass → Refusal → ℕ → ℕ → Pass
with_refusal p refusal input place = record { next = p.next; lowest = p.lowest; foreign = p.foreign; notice = Refused refusal input place }

-- a foreign step is told by its number
pub record RefusalTold (i : ℕ) (p : Pass) (refusal : Refusal) (input place : ℕ) (r : Pass) : Type 0 where
  pub foreign : number_of refusal ≡ number_of UnknownLetter → FoundForeign i p r
  pub other : (number_of refusal ≡ number_of UnknownLetter → ⊥) → r ≡ with_refusal p refusal input place

abbrev pub Told : ℕ → ℕ → Pass → Advanced → Pass → Type 0
Told leaver i p (To g grade turns) r = GradeCounted leaver i p g grade r
Told leaver i p (Refused-answer g refusal input place) r = RefusalTold i p refusal input place r

-- what the library's answer for the file that enters makes of a pass
abbrev pub EntryTold : Pass → Advanced → Pass → Type 0
EntryTold p (To g grade turns) r = r ≡ p
EntryTold p (Refused-answer g refusal input place) r = r ≡ with_refusal p refusal input place

-- a refused pass hands the board back, another one the board that the call makes
pub data PassAnswer (b next : Board) (p : Pass) (r : Posted) : Type 0 where
  pass_refuses : (p.notice ≡ Done → ⊥) → r ≡ record { board = b; notice = p.notice } → PassAnswer b next p r
  pass_done : p.notice ≡ Done → r ≡ record { board = next; notice = Done } → PassAnswer b next p r

-- and one that found the step foreign is refused after everybody's checks
pub data StepAnswer (b : Board) (p : Pass) (r : Posted) : Type 0 where
  step_refuses : (p.notice ≡ Done → ⊥) → r ≡ record { board = b; notice = p.notice } → StepAnswer b p r
  step_foreign : p.notice ≡ Done → p.foreign < board_names_count → r ≡ record { board = b; notice = Refused UnknownLetter p.foreign 0 } → StepAnswer b p r
  step_done : p.notice ≡ Done → board_names_count ≤ p.foreign → r ≡ record { board = with_lowest p.next p.lowest; notice = Done } → StepAnswer b p r
