-- The harbour board: who is present, each one's monitor, the lowest grade; where the files stand; what the calls make of a board. Document 02,
-- Job 14. Assumes nothing.
use Rattle.std.specs.Prelude.{ℕ, zero, suc, ◌*◌, ◌≤◌, ◌<◌, ◌≡◌, Bool, true, false, cond, ◌⊎◌, List, take, drop, get_or, set, replicate}
use Rattle.theory.specs.Grades.{LassosGraded}
use Rattle.formats.specs.RuleFile.{morphism_of, marking_of}
use Rattle.formats.specs.RuleChecks.{rule_size}
use Rattle.promises.specs.declared.Monitor.{Monitor}
use Rattle.promises.specs.declared.Step.{Step}
use Rattle.promises.specs.Monitor.{no_value, value_of, fresh_monitor}
use Rattle.promises.specs.Advance.{after_step, no_grade}
use Rattle.promises.specs.FilePart.{file_part}
use Rattle.board_promises.specs.declared.Board.{Board}

-- "up to eight strong rules", "under a free name 0 to 7"
abbrev pub board_names_count : ℕ
board_names_count = 8

-- "The files stand in a lent 131,232 bytes"
abbrev pub files_size : ℕ
files_size = 131232

-- "that of name i from byte 16,404·i on", up to where the next name's begins
abbrev pub slot_of : List ℕ → ℕ → List ℕ
slot_of files i = take rule_size (drop (rule_size * i) files)

-- "read to the end its own counts give"
abbrev pub file_at : List ℕ → ℕ → List ℕ
file_at files i = file_part (slot_of files i)

-- whether a name is present
abbrev pub present_at : Board → ℕ → Bool
present_at b i = get_or b.present i false

-- the monitor of a name
abbrev pub monitor_at : Board → ℕ → Monitor
monitor_at b i = record { before = get_or b.before i no_value; since = get_or b.since i no_value }

-- "an empty board": nobody is present, no grade
abbrev pub empty_board : Board
empty_board = record { present = replicate board_names_count false; before = replicate board_names_count no_value; since = replicate board_names_count no_value; lowest = no_grade }

-- a board with another monitor of a name, with a name present or not, and with another lowest grade
abbrev pub with_monitor : Board → ℕ → Monitor → Board
with_monitor b i f = record { present = b.present; before = set b.before i f.before; since = set b.since i f.since; lowest = b.lowest }

abbrev pub with_present : Board → ℕ → Bool → Board
with_present b i there = record { present = set b.present i there; before = b.before; since = b.since; lowest = b.lowest }

abbrev pub with_lowest : Board → ℕ → Board
with_lowest b grade = record { present = b.present; before = b.before; since = b.since; lowest = grade }

-- "A rule enters under a free name .., with a fresh follower"
abbrev pub with_entered : Board → ℕ → Board
with_entered b name = with_present (with_monitor b name fresh_monitor) name true

-- "leaving frees the name"; its monitor stays where it is, and nobody looks at it
abbrev pub with_left : Board → ℕ → Board
with_left b name = with_present b name false

-- "An event or a mark goes to all present": to those of the first count names
unfoldable pub moved_below : List ℕ → Step → Board → ℕ → Board
moved_below files step b zero = b
moved_below files step b (suc i) =
    let c = moved_below files step b i in
    cond (present_at b i) (with_monitor c i (after_step (morphism_of (file_at files i)) (monitor_at b i) step)) c

-- a name that counts, with its grade: it is present, its since is not none, and the lassos with its monitor's values have the grade
pub record Counting (b : Board) (files : List ℕ) (i grade : ℕ) : Type 0 where
  pub named : i < board_names_count
  pub there : present_at b i ≡ true
  pub has_since : (monitor_at b i).since ≡ no_value → ⊥
  pub graded : LassosGraded (morphism_of (file_at files i)) (marking_of (file_at files i)) (value_of (monitor_at b i).before) (monitor_at b i).since grade

-- some name counts with the grade
pub record SomeCounting (b : Board) (files : List ℕ) (grade : ℕ) : Type 0 where
  pub name : ℕ
  pub counts : Counting b files name grade

-- "the lowest grade among rules whose since is not none, or "none" if there is none"
pub record LowestGrade (b : Board) (files : List ℕ) (grade : ℕ) : Type 0 where
  pub lowest : (i h : ℕ) → Counting b files i h → grade ≤ h
  pub attained : (grade ≡ no_grade) ⊎ SomeCounting b files grade
  pub none : grade ≡ no_grade → (i h : ℕ) → Counting b files i h → ⊥
