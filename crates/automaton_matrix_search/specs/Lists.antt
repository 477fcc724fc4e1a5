-- The list of an automaton's matrices as it stands in scratch: the bytes of the transitions up to 576, the matrices from 8192 on, and
-- behind them what is recorded while they are found. The search goes by entries: entry 0 is the empty word, entry i + 1 is matrix i.
-- Assumes nothing.
use Rattle.std.specs.Prelude.{ℕ, zero, suc, ◌+◌, ◌*◌, ◌≤◌, ◌<◌, ◌≡◌, List, length, get_or, Option, Some, None}
use Rattle.buchi.specs.Automata.{Automaton}
use Rattle.buchi.specs.Matrices.{Matrix, SameEntries, OtherEntry, product}
use Rattle.buchi.specs.Rule.{MoreMatrices}
use Rattle.buchi.proofs.MatrixLists.{ClosedList, FoundInOrder}
use Rattle.automaton_products.specs.Arrays.{StateEntries}
use Rattle.automaton_matrices.specs.Bytes.{AutomatonAt, matrix_from, letter_entry}
use Rattle.scratch.specs.Bytes.{UnchangedOutside}
use Rattle.scratch.specs.Map.{laid_end, matrices_base, step_letters_base, step_parents_base, steps_base}
use Rattle.formats.specs.RuleChecks.{scratch_size}

-- matrix i of the list
abbrev pub matrix_at : List ℕ → ℕ → Matrix
matrix_at scratch i = matrix_from scratch matrices_base i

-- the byte of the step from entry p by letter x, and those of the entry from which matrix j was found and of the letter by which
abbrev pub step_place : ℕ → ℕ → ℕ
step_place p x = steps_base + (p * 16 + x)

abbrev pub parent_place : ℕ → ℕ
parent_place j = step_parents_base + j

abbrev pub letter_place : ℕ → ℕ
letter_place j = step_letters_base + j

-- what stands there: the number of the matrix that the letter leads to, the entry, and the letter
abbrev pub next_at : List ℕ → ℕ → ℕ → ℕ
next_at scratch p x = get_or scratch (step_place p x) 0

abbrev pub parent_at : List ℕ → ℕ → ℕ
parent_at scratch j = get_or scratch (parent_place j) 0

abbrev pub letter_at : List ℕ → ℕ → ℕ
letter_at scratch j = get_or scratch (letter_place j) 0

-- the bytes of an automaton of n states and k letters are there, and scratch is
pub record ListNeeds (kinds : List ℕ) (n k : ℕ) (scratch : List ℕ) : Type 0 where
  pub few_states : n ≤ 6
  pub few_letters : k ≤ 16
  pub kinds_long : n ≤ length kinds
  pub room : scratch_size ≤ length scratch

-- an automaton of n states and k letters stands in the bytes
pub record StandsHere (automaton : Automaton) (kinds : List ℕ) (n k : ℕ) (scratch : List ℕ) : Type 0 where
  pub stands : AutomatonAt automaton kinds scratch
  pub states : automaton.states ≡ n
  pub letters : automaton.letters ≡ k

-- count different matrices over n states
pub record MatrixList (n : ℕ) (scratch : List ℕ) (count : ℕ) : Type 0 where
  pub few_states : n ≤ 6
  pub room : scratch_size ≤ length scratch
  pub few : count ≤ 64
  pub entries : (i : ℕ) → i < count → StateEntries n (matrix_at scratch i)
  pub apart : (i j : ℕ) → i < count → j < count → ¬ (i ≡ j) → OtherEntry n (matrix_at scratch i) (matrix_at scratch j)

-- the bytes before a place are as they were, and so are those behind a rule that is laid out
abbrev pub KeptBelow : ℕ → List ℕ → List ℕ → Type 0
KeptBelow limit entry now = UnchangedOutside limit laid_end entry now

-- those before the list are
abbrev pub Kept : List ℕ → List ℕ → Type 0
Kept entry exit = KeptBelow matrices_base entry exit

-- what letter x makes of entry p of the search: of entry 0, the empty word, the letter's own matrix, and of entry i + 1 the
-- product of matrix i with it
unfoldable pub step_entry : List ℕ → ℕ → List ℕ → ℕ → ℕ → Matrix
step_entry kinds n scratch zero x = letter_entry kinds scratch x
step_entry kinds n scratch (suc i) x = product n (matrix_at scratch i) (letter_entry kinds scratch x)

-- r is the number of what letter x makes of entry p
pub record StepNumber (kinds : List ℕ) (n : ℕ) (scratch : List ℕ) (count p x r : ℕ) : Type 0 where
  pub below : r < count
  pub same : SameEntries n (step_entry kinds n scratch p x) (matrix_at scratch r)

-- matrix j is what letter x makes of entry p, which stands before it
pub record StepMatrix (kinds : List ℕ) (n k : ℕ) (scratch : List ℕ) (j p x : ℕ) : Type 0 where
  pub parent_before : p ≤ j
  pub letter_lt : x < k
  pub same : SameEntries n (step_entry kinds n scratch p x) (matrix_at scratch j)

-- for each entry and letter the number of what the letter makes of the entry, and for each matrix an entry and a letter that make it
pub record Recorded (kinds : List ℕ) (n k : ℕ) (scratch : List ℕ) (count : ℕ) : Type 0 where
  pub steps : (p x : ℕ) → p ≤ count → x < k → StepNumber kinds n scratch count p x (next_at scratch p x)
  pub sources : (j : ℕ) → j < count → StepMatrix kinds n k scratch j (parent_at scratch j) (letter_at scratch j)

-- the list has the matrices of all non-empty words, each once, in the order in which a search in breadth finds them, with its steps
pub record AllListed (kinds : List ℕ) (n k : ℕ) (entry exit : List ℕ) (count : ℕ) : Type 0 where
  pub some : 1 ≤ count
  pub list : MatrixList n exit count
  pub recorded : Recorded kinds n k exit count
  pub closed : (automaton : Automaton) → StandsHere automaton kinds n k entry → ClosedList automaton count (matrix_at exit)
  pub in_order : (automaton : Automaton) → StandsHere automaton kinds n k entry → FoundInOrder automaton count (matrix_at exit)

-- the automaton has more than 64 matrices
pub record TooRich (kinds : List ℕ) (n k : ℕ) (scratch : List ℕ) : Type 0 where
  pub more : (automaton : Automaton) → StandsHere automaton kinds n k scratch → MoreMatrices automaton 64

-- how many there are, or that there are more than 64
abbrev pub ListAnswer : List ℕ → ℕ → ℕ → List ℕ → List ℕ → Option ℕ → Type 0
ListAnswer kinds n k entry exit (Some count) = AllListed kinds n k entry exit count
ListAnswer kinds n k entry exit None = TooRich kinds n k entry

-- the answer, and the bytes before the list
pub record MatricesAnswer (kinds : List ℕ) (n k : ℕ) (entry exit : List ℕ) (answer : Option ℕ) : Type 0 where
  pub kept : Kept entry exit
  pub says : ListAnswer kinds n k entry exit answer
