-- The parts of a text, where marks stand between them. Assumes nothing.
use Rattle.std.specs.Prelude.{ℕ, zero, suc, cond, List, [], ◌∷◌, eqb}

-- the text before the first mark, all of it where there is none
unfoldable pub up_to : ℕ → List ℕ → List ℕ
up_to mark [] = []
up_to mark (byte ∷ text) = cond (eqb byte mark) [] (byte ∷ up_to mark text)

-- the text after the first mark, empty where there is none
unfoldable pub after : ℕ → List ℕ → List ℕ
after mark [] = []
after mark (byte ∷ text) = cond (eqb byte mark) text (after mark text)

-- the part with the number k, empty where there is none
unfoldable pub part_of : ℕ → ℕ → List ℕ → List ℕ
part_of mark zero text = up_to mark text
part_of mark (suc k) text = part_of mark k (after mark text)
