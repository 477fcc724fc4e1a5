-- What is answered of a name: that it is present, or that it is free. Assumes nothing.
use Rattle.std.specs.Prelude.{ℕ, ◌≤◌, ◌<◌, ◌≡◌, Bool, true, false, ◌⊎◌}
use Rattle.board_promises.specs.declared.Board.{Board}
use Rattle.board_promises.specs.Boards.{board_names_count, present_at}

-- one of the names is present
abbrev pub PresentAnswer : Board → ℕ → Bool → Type 0
PresentAnswer b name true = (name < board_names_count) × (present_at b name ≡ true)
PresentAnswer b name false = (board_names_count ≤ name) ⊎ (present_at b name ≡ false)

-- one of the names is not present
abbrev pub FreeAnswer : Board → ℕ → Bool → Type 0
FreeAnswer b name true = (name < board_names_count) × (present_at b name ≡ false)
FreeAnswer b name false = (board_names_count ≤ name) ⊎ (present_at b name ≡ true)
