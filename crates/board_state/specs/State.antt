-- A board as bytes, for callers in other languages: for each name whether it is present, before and since, then the lowest grade. Assumes
-- nothing.
use Rattle.std.specs.Prelude.{ℕ, ◌+◌, ◌*◌, ◌%◌, ◌<◌, Bool, false, not, cond, List, [], ◌∷◌, ◌++◌, drop, get_or, eqb}
use Rattle.board_promises.specs.declared.Board.{Board}
use Rattle.board_promises.specs.declared.Notice.{Notice}
use Rattle.board_promises.specs.declared.Notice.TheVariants.{Done, Refused}
use Rattle.board_promises.specs.Boards.{board_names_count}
use Rattle.board_promises.specs.Monitors.{Whole}

-- three bytes for each of eight names, and one
abbrev pub state_size : ℕ
state_size = 25

-- a list with an entry for each name
abbrev pub each_name : {A : Type 0} → (ℕ → A) → List A
each_name f = f 0 ∷ f 1 ∷ f 2 ∷ f 3 ∷ f 4 ∷ f 5 ∷ f 6 ∷ f 7 ∷ []

-- a name is present unless its byte is 0
abbrev pub present_byte : List ℕ → ℕ → Bool
present_byte state i = not (eqb (get_or state (3 * i) 0) 0)

abbrev pub before_byte : List ℕ → ℕ → ℕ
before_byte state i = get_or state (3 * i + 1) 0

abbrev pub since_byte : List ℕ → ℕ → ℕ
since_byte state i = get_or state (3 * i + 2) 0

-- the board that stands in the first bytes
abbrev pub board_of : List ℕ → Board
board_of state = record { present = each_name (present_byte state); before = each_name (before_byte state); since = each_name (since_byte state); lowest = get_or state 24 0 }

-- what is written: 1 for a name that is present
abbrev pub flag_byte : Bool → ℕ
flag_byte there = cond there 1 0

abbrev pub bytes_of_name : Board → ℕ → List ℕ → List ℕ
bytes_of_name b i rest = flag_byte (get_or b.present i false) ∷ get_or b.before i 0 % 256 ∷ get_or b.since i 0 % 256 ∷ rest

abbrev pub board_state_of : Board → List ℕ
board_state_of b =
    bytes_of_name b 0 (bytes_of_name b 1 (bytes_of_name b 2 (bytes_of_name b 3
    (bytes_of_name b 4 (bytes_of_name b 5 (bytes_of_name b 6 (bytes_of_name b 7 (b.lowest % 256 ∷ []))))))))

-- the lent bytes with a board at their front; the others stay
abbrev pub state_with : List ℕ → Board → List ℕ
state_with state b = board_state_of b ++ drop state_size state

-- the lent bytes after a call: a refused one leaves them
abbrev pub state_after : List ℕ → Board → Notice → List ℕ
state_after state b Done = state_with state b
state_after state b (Refused refusal input place) = state

-- the boards that bytes can hold: eight entries in each array, every value below 256
pub record ByteBoard (b : Board) : Type 0 where
  pub whole : Whole b
  pub before_small : (i : ℕ) → i < board_names_count → get_or b.before i 0 < 256
  pub since_small : (i : ℕ) → i < board_names_count → get_or b.since i 0 < 256
  pub lowest_small : b.lowest < 256
