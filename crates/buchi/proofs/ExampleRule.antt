-- The rule of M10: three matrices, two marks. Its table is found to be that of the matrices by computing, so it is strong and
-- accepts exactly the lassos with an accepting run. Assumes nothing.
use Prim.Native.Nat.{ℕ, ◌≤◌}
use mathlib.Core.Path.{◌≡◌, refl}
use mathlib.Core.List.{List, [], ◌∷◌}
use lib.ListN.{get_or}
use Rattle.theory.specs.Rules.{Morphism, Lawful, Marking, level, AllReached}
use Rattle.theory.specs.Grades.{StrongMarking}
use Rattle.theory.specs.Smallest.{MarksGrades}
use Rattle.theory.proofs.Computing.{computing}
use Rattle.theory.proofs.TableTests.{lawful_elim, reached_all}
use Rattle.theory.proofs.SmallRules.{entry, table}
use Rattle.buchi.specs.Matrices.{Matrix}
use Rattle.buchi.specs.Rule.{MatricesOf, MarkedBy, AcceptsRuns}
use Rattle.buchi.proofs.AutomatonRule.{run_marks, run_marked, run_threes, graded_accepts_runs, graded_strong, graded_marks}
use Rattle.buchi.proofs.TableTest.{matrices_elim}
use Rattle.buchi.proofs.Computing.{testing}
use Rattle.buchi.proofs.Examples.{M10}

-- the matrices of the words 0, 1 and 0 1
abbrev pub M10_matrices : List (List (List ℕ))
M10_matrices =
    ((0 ∷ 2 ∷ []) ∷ (0 ∷ 2 ∷ []) ∷ [])
    ∷ ((1 ∷ 0 ∷ []) ∷ (2 ∷ 0 ∷ []) ∷ [])
    ∷ ((2 ∷ 0 ∷ []) ∷ (2 ∷ 0 ∷ []) ∷ [])
    ∷ []

abbrev pub M10_matrix : ℕ → Matrix
M10_matrix s = entry (get_or M10_matrices s [])

-- their products
abbrev pub M10_table : Morphism
M10_table = table ((0 ∷ 2 ∷ 2 ∷ []) ∷ (0 ∷ 1 ∷ 2 ∷ []) ∷ (0 ∷ 2 ∷ 2 ∷ []) ∷ []) (0 ∷ 1 ∷ [])

pub M10_lawful : Lawful M10_table
unfolding computing
M10_lawful = lawful_elim M10_table tt

pub M10_reached : AllReached M10_table
unfolding computing
M10_reached = reached_all M10_lawful tt

-- M10: "3 matrices"
pub M10_three : MatricesOf M10 M10_table M10_matrix
unfolding testing
M10_three = matrices_elim M10 M10_table M10_matrix M10_lawful M10_reached refl tt

-- "A linked pair (R, E) is marked if ..": (0, 0) and (2, 2), and no other; "Automata mark with 3"
abbrev pub M10_marks : Marking
M10_marks = run_marks M10 M10_table M10_matrix

abbrev row : ℕ → List ℕ
row s = M10_marks s 0 ∷ M10_marks s 1 ∷ M10_marks s 2 ∷ []

pub M10_two_marks : row 0 ∷ row 1 ∷ row 2 ∷ [] ≡ (3 ∷ 0 ∷ 0 ∷ []) ∷ (0 ∷ 0 ∷ 0 ∷ []) ∷ (0 ∷ 0 ∷ 3 ∷ []) ∷ []
unfolding testing
M10_two_marks = refl

pub M10_marked : MarkedBy M10 M10_table M10_matrix (level 1 M10_marks)
M10_marked = run_marked M10 M10_table M10_matrix

pub M10_accepts_runs : (g : ℕ) → 1 ≤ g → g ≤ 3 → AcceptsRuns M10 M10_table (level g M10_marks)
M10_accepts_runs = graded_accepts_runs M10_marks M10_lawful M10_three M10_marked (run_threes M10 M10_table M10_matrix)

pub M10_strong : StrongMarking M10_table M10_marks
M10_strong = graded_strong M10_marks M10_lawful M10_three M10_marked (run_threes M10 M10_table M10_matrix)

pub M10_marks_grades : MarksGrades M10_table M10_marks
M10_marks_grades = graded_marks M10_marks M10_lawful M10_three M10_marked (run_threes M10 M10_table M10_matrix)
