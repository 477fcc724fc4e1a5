-- Who is present, by the flags of a board. Assumes nothing.
use Prim.Native.Nat.{ℕ, ◌<◌}
use mathlib.Core.Path.{◌≡◌, subst}
use mathlib.Core.Bool.{Bool, true, false}
use mathlib.Core.Logic.{inr, ⊎_elim}
use native.Mathlib.Omega.{arith}
use Rattle.board_promises.specs.declared.Board.{Board}
use Rattle.board_promises.specs.Boards.{board_names_count, present_at}
use Rattle.board_values.specs.Presence.{PresentAnswer}

-- a flag that was read
pub present_read : (b : Board) (name : ℕ) → name < board_names_count → (flag : Bool) → present_at b name ≡ flag → PresentAnswer b name flag
present_read b name h true e = (h, e)
present_read b name h false e = inr e

-- the answers, by what was said
module _ (b : Board) (name : ℕ) (flag : Bool) where
  pub said_present : PresentAnswer b name flag → flag ≡ true → PresentAnswer b name true
  said_present a e = subst (PresentAnswer b name) e a

  pub said_absent : PresentAnswer b name flag → flag ≡ false → PresentAnswer b name false
  said_absent a e = subst (PresentAnswer b name) e a

-- one of the eight names that is not present
pub absent_of : (b : Board) (name : ℕ) → name < board_names_count → PresentAnswer b name false → present_at b name ≡ false
absent_of b name h a = ⊎_elim (λ l. absurd (let z : ⊥ = omega arith in z)) (λ (e : present_at b name ≡ false). e) a
