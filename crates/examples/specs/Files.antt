-- The files of document 01's small rules and of its small automaton, byte by byte, section by section: n, n × n products, k, k
-- images, a two-byte count and the marks, each with its grade; states and their kinds, letters, a two-byte count and the transitions. Assumes nothing.
use Rattle.std.specs.Prelude.{ℕ, List, [], ◌∷◌}

-- "Rule W, letters 0 and 1, "letter 0 without end": bytes 2 0 0 0 1 2 0 1 1 0 0 0"; "Document 01's small rules get grade 3 on each
-- mark" (document 02, Job 12)
abbrev pub W : List ℕ
W = 2 ∷ 0 ∷ 0 ∷ 0 ∷ 1 ∷ 2 ∷ 0 ∷ 1 ∷ 1 ∷ 0 ∷ 0 ∷ 0 ∷ 3 ∷ []

-- "W with all 3 linked pairs marked": (0, 0), (0, 1) and (1, 1)
abbrev pub W_all : List ℕ
W_all = 2 ∷ 0 ∷ 0 ∷ 0 ∷ 1 ∷ 2 ∷ 0 ∷ 1 ∷ 3 ∷ 0 ∷ 0 ∷ 0 ∷ 3 ∷ 0 ∷ 1 ∷ 3 ∷ 1 ∷ 1 ∷ 3 ∷ []

-- what that reduces to: "bytes 1 0 2 0 0 1 0 0 0", and the grade
abbrev pub one_element : List ℕ
one_element = 1 ∷ 0 ∷ 2 ∷ 0 ∷ 0 ∷ 1 ∷ 0 ∷ 0 ∷ 0 ∷ 3 ∷ []

-- "Rule Z: table 0 1 / 1 0, images 1 0 (letters 0 and 1), mark (0, 0)."
abbrev pub Z : List ℕ
Z = 2 ∷ 0 ∷ 1 ∷ 1 ∷ 0 ∷ 2 ∷ 1 ∷ 0 ∷ 1 ∷ 0 ∷ 0 ∷ 0 ∷ 3 ∷ []

-- "Z with letter 0 only"
abbrev pub Z₀ : List ℕ
Z₀ = 2 ∷ 0 ∷ 1 ∷ 1 ∷ 0 ∷ 1 ∷ 1 ∷ 1 ∷ 0 ∷ 0 ∷ 0 ∷ 3 ∷ []

-- "table 1 0 / 0 0", with the letters of W and no marks
abbrev pub not_associative : List ℕ
not_associative = 2 ∷ 1 ∷ 0 ∷ 0 ∷ 0 ∷ 2 ∷ 0 ∷ 1 ∷ 0 ∷ 0 ∷ []

-- "table 0 0 / 0 1 with one letter of image 0", and no marks
abbrev pub unreached : List ℕ
unreached = 2 ∷ 0 ∷ 0 ∷ 0 ∷ 1 ∷ 1 ∷ 0 ∷ 0 ∷ 0 ∷ []

-- "automaton: state 0 initial, state 1 final, letter 0 to state 1, letter 1 to state 0, from either": 2 states of the kinds 1 and
-- 2, 2 letters, 4 transitions
abbrev pub automaton : List ℕ
automaton = 2 ∷ 1 ∷ 2 ∷ 2 ∷ 4 ∷ 0 ∷ 0 ∷ 0 ∷ 1 ∷ 0 ∷ 1 ∷ 0 ∷ 1 ∷ 0 ∷ 1 ∷ 1 ∷ 1 ∷ 0 ∷ []
