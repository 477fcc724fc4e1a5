-- The rule while it is laid out in scratch behind the list of matrices: what each byte is to be, and which bytes stay.
-- Assumes nothing.
use Rattle.std.specs.Prelude.{ℕ, ◌+◌, ◌*◌, ◌≤◌, ◌<◌, ◌≡◌, false, List, length, get_or}
use Rattle.theory.specs.Rules.{Morphism, Marking}
use Rattle.theory.specs.Pairs.{Linked}
use Rattle.buchi.specs.Automata.{Automaton}
use Rattle.buchi.specs.Matrices.{SameEntries, product}
use Rattle.buchi.specs.Rule.{Recurs}
use Rattle.automaton_matrices.specs.Bytes.{initial_at, final_at}
use Rattle.automaton_matrix_search.specs.Lists.{matrix_at, next_at, parent_at, letter_at, MatrixList, KeptBelow, Recorded}
use Rattle.scratch.specs.Map.{laid_marks_base, laid_products_base}
use Rattle.rule_laid.specs.Laid.{laid_table}
use Rattle.formats.specs.RuleChecks.{scratch_size}

-- ---- the rule that is laid out

-- products from byte 16384 on; a letter's image is the matrix that it makes of the empty word
abbrev pub laid_rule : List ℕ → ℕ → ℕ → Morphism
laid_rule scratch count k = record {
  size = count;
  letters = k;
  product = λ a b. get_or scratch (laid_products_base + (a * count + b)) 0;
  image = λ a. next_at scratch 0 a;
}

-- marks from byte 24576 on
abbrev pub laid_marks : List ℕ → Marking
laid_marks scratch s e = get_or scratch (laid_marks_base + (s * 64 + e)) 0

-- ---- what each byte is to be

-- the bytes along which the products are looked up are there: each matrix was found from an entry before it, and the letter by which it
-- was leads from every matrix to one of the list
pub record StepNeeds (scratch : List ℕ) (count : ℕ) : Type 0 where
  pub few : count ≤ 64
  pub room : scratch_size ≤ length scratch
  pub parents : (j : ℕ) → j < count → parent_at scratch j ≤ j
  pub letters : (j : ℕ) → j < count → letter_at scratch j < 16
  pub steps : (i j : ℕ) → i < count → j < count → next_at scratch (i + 1) (letter_at scratch j) < count

-- they were recorded of a list of matrices over n states, with some number of letters
pub record StepList (kinds : List ℕ) (n : ℕ) (scratch : List ℕ) (count : ℕ) : Type 0 where
  pub letters : ℕ
  pub few_letters : letters ≤ 16
  pub list : MatrixList n scratch count
  pub recorded : Recorded kinds n letters scratch count

-- r is the number of the product of matrices i and j
pub record ProductNumber (n count : ℕ) (scratch : List ℕ) (i j r : ℕ) : Type 0 where
  pub below : r < count
  pub same : SameEntries n (product n (matrix_at scratch i) (matrix_at scratch j)) (matrix_at scratch r)

-- r is a number of the list, that of the product of matrices i and j wherever the bytes were recorded of a list
pub record TableNumber (count : ℕ) (scratch : List ℕ) (i j r : ℕ) : Type 0 where
  pub below : r < count
  pub is_of_product : (kinds : List ℕ) (n : ℕ) → StepList kinds n scratch count → ProductNumber n count scratch i j r

-- the products of matrix i with the first j matrices are laid out
pub record RowLaid (count : ℕ) (scratch : List ℕ) (i j : ℕ) : Type 0 where
  pub numbers : (y : ℕ) → y < j → TableNumber count scratch i y (get_or scratch (laid_products_base + i * count + y) 0)

-- n states, which of them are initial, and nothing else: what the marking looks at
abbrev pub initial_states : List ℕ → ℕ → Automaton
initial_states kinds n = record { states = n; letters = 0; initial = initial_at kinds; final = final_at kinds; step = λ p x q. false }

-- the byte of the pair (s, e) is not 0 exactly if the pair is linked and "for some initial p and some q entry (p, q) of R is not
-- 0 and entry (q, q) of E is 2"; then it is 3
pub record MarkByte (kinds : List ℕ) (n count : ℕ) (scratch : List ℕ) (s e byte : ℕ) : Type 0 where
  pub linked : 0 < byte → Linked (laid_table scratch count) s e
  pub recurs : 0 < byte → Recurs (initial_states kinds n) (matrix_at scratch s) (matrix_at scratch e)
  pub marked : Linked (laid_table scratch count) s e → Recurs (initial_states kinds n) (matrix_at scratch s) (matrix_at scratch e) → 0 < byte
  pub three : 0 < byte → byte ≡ 3

-- the bytes of two matrices and of the states' kinds are there
pub record PairNeeds (kinds : List ℕ) (n : ℕ) (scratch : List ℕ) (s e : ℕ) : Type 0 where
  pub few_states : n ≤ 6
  pub kinds_long : n ≤ length kinds
  pub room : scratch_size ≤ length scratch
  pub start_small : s < 64
  pub cycle_small : e < 64

-- and so are those of count matrices
pub record MarkNeeds (kinds : List ℕ) (n : ℕ) (scratch : List ℕ) (count : ℕ) : Type 0 where
  pub few_states : n ≤ 6
  pub kinds_long : n ≤ length kinds
  pub room : scratch_size ≤ length scratch
  pub few : count ≤ 64

-- the products and marks were laid out; the matrices and what was recorded of them, the images too, are as they were
pub record RuleLaid (kinds : List ℕ) (n count : ℕ) (entry exit : List ℕ) : Type 0 where
  pub kept : KeptBelow laid_products_base entry exit
  pub products : (i j : ℕ) → i < count → j < count → ProductNumber n count exit i j ((laid_rule exit count 0).product i j)
  pub marks : (s e : ℕ) → s < count → e < count → MarkByte kinds n count exit s e (laid_marks exit s e)
