-- An automaton and matrices as they stand in bytes. Assumes nothing.
use Rattle.std.specs.Prelude.{ℕ, ◌+◌, ◌*◌, ◌≤◌, ◌<◌, ◌≡◌, Bool, cond, ◌||◌, List, [], length, get_or, ltb, eqb}
use Rattle.finite.proofs.Search.{all_below}
use Rattle.buchi.specs.Automata.{Automaton}
use Rattle.buchi.specs.Matrices.{Matrix, SameEntries}
use Rattle.buchi.proofs.WordMatrices.{letter_matrix}
use Rattle.automaton_products.specs.Arrays.{entry_in, MatrixShape}
use Rattle.scratch.specs.Map.{transition_table_size}

-- "a byte for each (0 plain, 1 initial, 2 final, 3 both)": 1 and 3 are initial
unfoldable pub initial_at : List ℕ → ℕ → Bool
initial_at kinds p = eqb (get_or kinds p 0) 1 || eqb (get_or kinds p 0) 3

-- 2 and 3, the highest kinds, are final
unfoldable pub final_at : List ℕ → ℕ → Bool
final_at kinds p = ltb 1 (get_or kinds p 0)

-- the byte of the transition from p to q by a letter is not 0
unfoldable pub step_at : List ℕ → ℕ → ℕ → ℕ → Bool
step_at steps p x q = ltb 0 (get_or steps (p * 96 + (x * 6 + q)) 0)

-- an automaton of at most six states and sixteen letters stands in bytes
pub record AutomatonAt (automaton : Automaton) (kinds steps : List ℕ) : Type 0 where
  pub few_states : automaton.states ≤ 6
  pub few_letters : automaton.letters ≤ 16
  pub kinds_long : automaton.states ≤ length kinds
  pub steps_long : transition_table_size ≤ length steps
  pub initials : (p : ℕ) → p < automaton.states → automaton.initial p ≡ initial_at kinds p
  pub finals : (p : ℕ) → p < automaton.states → automaton.final p ≡ final_at kinds p
  pub transitions : (p x q : ℕ) → p < automaton.states → x < automaton.letters → q < automaton.states → automaton.step p x q ≡ step_at steps p x q

-- the automaton of n states and k letters that the bytes describe
unfoldable pub automaton_at : List ℕ → ℕ → ℕ → List ℕ → Automaton
automaton_at kinds n k steps = record { states = n; letters = k; initial = initial_at kinds; final = final_at kinds; step = step_at steps }

-- the bytes that the matrix of a letter is read from are there
pub record LetterNeeds (kinds : List ℕ) (n : ℕ) (steps : List ℕ) (x : ℕ) : Type 0 where
  pub few_states : n ≤ 6
  pub letter_small : x < 16
  pub kinds_long : n ≤ length kinds
  pub steps_long : transition_table_size ≤ length steps

-- and those of one entry of it
pub record EntryNeeds (kinds steps : List ℕ) (x p q : ℕ) : Type 0 where
  pub from_small : p < 6
  pub to_small : q < 6
  pub letter_small : x < 16
  pub from_there : p < length kinds
  pub to_there : q < length kinds
  pub steps_long : transition_table_size ≤ length steps

-- an entry of the matrix of a letter
unfoldable pub letter_entry : List ℕ → List ℕ → ℕ → Matrix
letter_entry kinds steps x p q = cond (step_at steps p x q) (cond (final_at kinds p || final_at kinds q) 2 1) 0

-- m is the matrix of a letter of whatever automaton of n states stands there
pub record IsLetter (kinds : List ℕ) (n : ℕ) (steps : List ℕ) (x : ℕ) (m : List (List ℕ)) : Type 0 where
  pub shape : MatrixShape n m
  pub same : SameEntries n (letter_entry kinds steps x) (entry_in m)
  pub is_letter : (automaton : Automaton) → AutomatonAt automaton kinds steps → automaton.states ≡ n → x < automaton.letters
      → SameEntries n (letter_matrix automaton x) (entry_in m)

-- the entries of matrix i of a list that begins at a byte: 64 bytes a matrix, the entry (p, q) at p · 6 + q
unfoldable pub matrix_from : List ℕ → ℕ → ℕ → Matrix
matrix_from scratch base i p q = get_or scratch (base + (i * 64 + (p * 6 + q))) 0

-- m is the matrix that stands there
pub record Loaded (scratch : List ℕ) (base i : ℕ) (m : List (List ℕ)) : Type 0 where
  pub rows : length m ≡ 6
  pub columns : (p : ℕ) → p < 6 → length (get_or m p []) ≡ 6
  pub entries : (p q : ℕ) → p < 6 → q < 6 → entry_in m p q ≡ matrix_from scratch base i p q

-- the bytes of matrix i are there
pub record MatrixNeeds (scratch : List ℕ) (base i : ℕ) : Type 0 where
  pub room : base + (i * 64 + 36) ≤ length scratch

-- the first k rows of the matrix were written, and no other byte changed
pub record Stored (entry exit : List ℕ) (base i : ℕ) (m : List (List ℕ)) (k : ℕ) : Type 0 where
  pub same_length : length exit ≡ length entry
  pub entries : (p q : ℕ) → p < k → q < 6 → matrix_from exit base i p q ≡ entry_in m p q
  pub before : (j : ℕ) → j < base + i * 64 → get_or exit j 0 ≡ get_or entry j 0
  pub behind : (j : ℕ) → base + (i * 64 + k * 6) ≤ j → get_or exit j 0 ≡ get_or entry j 0

-- the bytes from one on
unfoldable pub bytes_from : List ℕ → ℕ → ℕ → ℕ
bytes_from scratch at q = get_or scratch (at + q) 0

-- the first n entries of a row are the bytes from one on
unfoldable pub same_bytes : List ℕ → ℕ → ℕ → List ℕ → Bool
same_bytes scratch at n row = all_below n (λ q. eqb (get_or row q 0) (bytes_from scratch at q))

-- the first k entries of a row were written from a byte on, and no other byte changed
pub record RowStored (entry exit : List ℕ) (at : ℕ) (row : List ℕ) (k : ℕ) : Type 0 where
  pub same_length : length exit ≡ length entry
  pub entries : (q : ℕ) → q < k → bytes_from exit at q ≡ get_or row q 0
  pub before : (j : ℕ) → j < at → get_or exit j 0 ≡ get_or entry j 0
  pub behind : (j : ℕ) → at + k ≤ j → get_or exit j 0 ≡ get_or entry j 0
