-- What `keep` and `return_to` promise: eight points of a monitor, each under a name. Document 02, Job 1. Assumes nothing.
use Rattle.std.specs.Prelude.{ℕ, ◌+◌, ◌*◌, ◌<◌, ◌≡◌, ◌⊎◌, List, [], ◌∷◌, ◌++◌, get_or, set}
use Rattle.answer.specs.declared.Refusal.TheVariants.{EntryOutOfRange, NameOutOfRange, NameNeverKept}
use Rattle.answer.specs.Checks.{Check, FirstFailure}
use Rattle.formats.specs.RuleFile.{elements_of}
use Rattle.formats.specs.RuleChecks.{buffer_check}
use Rattle.formats.specs.Calls.{checked_checks, scratch_left}
use Rattle.promises.specs.declared.Monitor.{Monitor}
use Rattle.promises.specs.declared.Moved.{Moved}
use Rattle.promises.specs.declared.Moved.TheVariants.{To, Refused}
use Rattle.promises.specs.Monitor.{ValueOutOfRange}
use Rattle.promises.specs.Moves.{moved_verdict, HandsBack}

-- "eight points, named 0 to 7"
abbrev pub names_count : ℕ
names_count = 8

-- three lent bytes for each: whether the name was kept, before, since
abbrev pub points_size : ℕ
points_size = 24

-- "a name never kept" has 0 in its first byte; any other number there is a kept one's
abbrev pub NeverKept : List ℕ → ℕ → Type 0
NeverKept points name = get_or points (3 * name) 0 ≡ 0

-- the point under a name
unfoldable pub point_at : List ℕ → ℕ → Monitor
point_at points name = record { before = get_or points (3 * name + 1) 0; since = get_or points (3 * name + 2) 0 }

-- "Keeping a name stores before and since under it and replaces what it held": no other byte changes
unfoldable pub kept_points : List ℕ → ℕ → Monitor → List ℕ
kept_points points name f = set (set (set points (3 * name) 1) (3 * name + 1) f.before) (3 * name + 2) f.since

-- "15, name above 7"; place 0
pub record NameOutOfRangeAt (name place : ℕ) : Type 0 where
  pub above : 7 < name
  pub is_place : place ≡ 0

abbrev pub name_check : ℕ → Check
name_check name = record { refusal = NameOutOfRange; input = 1; Fails = NameOutOfRangeAt name }

-- "16, return to a name never kept"; place 0
pub record NameNeverKeptAt (points : List ℕ) (name place : ℕ) : Type 0 where
  pub never : NeverKept points name
  pub is_place : place ≡ 0

abbrev pub never_kept_check : List ℕ → ℕ → Check
never_kept_check points name = record { refusal = NameNeverKept; input = 1; Fails = NameNeverKeptAt points name }

-- "A value under any kept name that is neither an element nor 64"
pub record PointOutOfRange (n : ℕ) (points : List ℕ) : Type 0 where
  pub name : ℕ
  pub named : name < names_count
  pub kept : NeverKept points name → ⊥
  pub stray : ValueOutOfRange n (point_at points name).before ⊎ ValueOutOfRange n (point_at points name).since

-- it "is refused by 3, place 0, like the follower's own"
pub record MonitorOrPointOutOfRangeAt (n : ℕ) (f : Monitor) (points : List ℕ) (place : ℕ) : Type 0 where
  pub stray : (ValueOutOfRange n f.before ⊎ ValueOutOfRange n f.since) ⊎ PointOutOfRange n points
  pub is_place : place ≡ 0

abbrev pub point_values_check : ℕ → Monitor → List ℕ → Check
point_values_check n f points = record { refusal = EntryOutOfRange; input = 1; Fails = MonitorOrPointOutOfRangeAt n f points }

-- "15 .. tried after the rule's own checks", and 3 "after 15 and 16"
abbrev pub keep_checks : List ℕ → Monitor → ℕ → List ℕ → List ℕ → List Check
keep_checks bytes f name points scratch =
    buffer_check points_size points ∷ (checked_checks 1 bytes scratch ++ name_check name ∷ point_values_check (elements_of bytes) f points ∷ [])

-- "16 .. tried after 15"
abbrev pub return_checks : List ℕ → Monitor → ℕ → List ℕ → List ℕ → List Check
return_checks bytes f name points scratch =
    buffer_check points_size points ∷ (checked_checks 1 bytes scratch ++ name_check name ∷ never_kept_check points name ∷ point_values_check (elements_of bytes) f points ∷ [])

-- the points that are left: "a refused call leaves .. the points"
abbrev pub LeavesPoints : List ℕ → List ℕ → List ℕ → Moved → Type 0
LeavesPoints entry next exit (To g) = exit ≡ next
LeavesPoints entry next exit (Refused g refusal input place) = exit ≡ entry

-- keeping hands the monitor back as it came
pub record KeepPromise (bytes : List ℕ) (f : Monitor) (name : ℕ) (points-entry points-exit entry exit : List ℕ) (answer : Moved) : Type 0 where
  pub refusal : FirstFailure (keep_checks bytes f name points-entry entry) (moved_verdict answer)
  pub monitor : HandsBack f f answer
  pub points : LeavesPoints points-entry (kept_points points-entry name f) points-exit answer
  pub scratch : exit ≡ scratch_left points_size points-entry entry

-- "Returning makes the follower what it was." The points are only read: "a return takes no point away, its own included".
pub record ReturnPromise (bytes : List ℕ) (f : Monitor) (name : ℕ) (points entry exit : List ℕ) (answer : Moved) : Type 0 where
  pub refusal : FirstFailure (return_checks bytes f name points entry) (moved_verdict answer)
  pub monitor : HandsBack f (point_at points name) answer
  pub scratch : exit ≡ scratch_left points_size points entry
