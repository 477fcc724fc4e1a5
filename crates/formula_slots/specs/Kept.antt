-- Slots of a formula's stack that a step leaves as they are. Assumes nothing.
use Rattle.std.specs.Prelude.{ℕ, ◌≡◌, List}
use Rattle.board_promises.specs.Boards.{file_at}

-- all but two, or but one where they are the same
pub record OthersKept (a b : ℕ) (entry exit : List ℕ) : Type 0 where
  pub others : (i : ℕ) → (i ≡ a → ⊥) → (i ≡ b → ⊥) → file_at exit i ≡ file_at entry i
