-- Whether a name is free, by the flags of a board. Assumes nothing.
use Prim.Native.Nat.{ℕ, ◌<◌}
use mathlib.Core.Path.{◌≡◌, subst}
use mathlib.Core.Bool.{Bool, true, false, not}
use mathlib.Core.Logic.{inr}
use Rattle.board_promises.specs.declared.Board.{Board}
use Rattle.board_promises.specs.Boards.{board_names_count, present_at}
use Rattle.board_values.specs.Presence.{FreeAnswer}

-- a flag that was read
pub free_read : (b : Board) (name : ℕ) → name < board_names_count → (flag : Bool) → present_at b name ≡ flag → FreeAnswer b name (not flag)
free_read b name h true e = inr e
free_read b name h false e = (h, e)

-- the answers, by what was said
module _ (b : Board) (name : ℕ) (flag : Bool) where
  pub said_free : FreeAnswer b name flag → flag ≡ true → FreeAnswer b name true
  said_free a e = subst (FreeAnswer b name) e a

  pub said_taken : FreeAnswer b name flag → flag ≡ false → FreeAnswer b name false
  said_taken a e = subst (FreeAnswer b name) e a
