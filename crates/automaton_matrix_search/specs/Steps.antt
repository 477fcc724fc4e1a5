-- What each step of the list's making does to the list and to what is recorded. Assumes nothing.
use Rattle.std.specs.Prelude.{ℕ, ◌+◌, ◌≤◌, ◌<◌, ◌≡◌, ◌≢◌, List, length, get_or, Option, Some, None}
use Rattle.finite.proofs.FirstWords.{Sooner}
use Rattle.buchi.specs.Automata.{Automaton}
use Rattle.buchi.specs.Matrices.{Matrix, SameEntries, OtherEntry}
use Rattle.buchi.specs.Rule.{MatrixWord}
use Rattle.buchi.proofs.MatrixLists.{Among, number_of}
use Rattle.automaton_products.specs.Arrays.{entry_in}
use Rattle.automaton_matrix_search.specs.Lists.{matrix_at, step_place, parent_place, letter_place, next_at, parent_at, letter_at, ListNeeds, StandsHere, MatrixList, Kept, step_entry, StepNumber, StepMatrix, TooRich, MatricesAnswer}
use Rattle.automaton_matrix_search.specs.declared.Placed.{Placed}
use Rattle.scratch.specs.Bytes.{UnchangedOutside}
use Rattle.scratch.specs.Map.{matrices_base, steps_base}
use Rattle.formats.specs.RuleChecks.{scratch_size}

-- ---- a matrix is looked up

-- it is the first with the entries of m
pub record MatrixThere (n : ℕ) (scratch : List ℕ) (count : ℕ) (m : List (List ℕ)) (at : ℕ) : Type 0 where
  pub below : at < count
  pub first : at ≡ number_of n count (matrix_at scratch) (entry_in m)

-- or none has them
abbrev pub FoundMatrix : ℕ → List ℕ → ℕ → List (List ℕ) → Option ℕ → Type 0
FoundMatrix n scratch count m (Some at) = MatrixThere n scratch count m at
FoundMatrix n scratch count m None = count ≡ number_of n count (matrix_at scratch) (entry_in m)

-- ---- a matrix is added

-- matrices were added behind the first count, which are as they were
pub record Grown (n : ℕ) (entry : List ℕ) (count : ℕ) (exit : List ℕ) (total : ℕ) : Type 0 where
  pub list : MatrixList n exit total
  pub more : count ≤ total
  pub same : (i : ℕ) → i < count → SameEntries n (matrix_at entry i) (matrix_at exit i)
  pub kept : Kept entry exit

-- the matrix stands in the list now at this number, and no other was added
pub record AddedTo (n : ℕ) (entry : List ℕ) (count : ℕ) (m : List (List ℕ)) (exit : List ℕ) (number total : ℕ) : Type 0 where
  pub grown : Grown n entry count exit total
  pub below : number < total
  pub same : SameEntries n (entry_in m) (matrix_at exit number)
  pub only : (j : ℕ) → count ≤ j → j < total → SameEntries n (entry_in m) (matrix_at exit j)
  pub one_more : total ≤ count + 1

-- the list has 64 matrices, none of which has the entries of m
pub record Full (n : ℕ) (scratch : List ℕ) (count : ℕ) (m : List (List ℕ)) : Type 0 where
  pub full : count ≡ 64
  pub other : (i : ℕ) → i < count → OtherEntry n (entry_in m) (matrix_at scratch i)

-- the matrix was added or is there, or there is no place for it
abbrev pub AddAnswer : ℕ → List ℕ → ℕ → List (List ℕ) → List ℕ → Option Placed → Type 0
AddAnswer n entry count m exit (Some placed) = AddedTo n entry count m exit placed.number placed.total
AddAnswer n entry count m exit None = Full n entry count m

-- the answer, and the bytes before and behind the list
pub record Added (n : ℕ) (entry : List ℕ) (count : ℕ) (m : List (List ℕ)) (exit : List ℕ) (answer : Option Placed) : Type 0 where
  pub kept : UnchangedOutside matrices_base steps_base entry exit
  pub says : AddAnswer n entry count m exit answer

-- ---- a step is taken

-- numbers that fit into the places where a step is recorded
pub record RecordNeeds (scratch : List ℕ) (p x number next : ℕ) : Type 0 where
  pub entry_small : p ≤ 64
  pub letter_small : x < 16
  pub number_small : number < 64
  pub next_small : next ≤ 64
  pub room : scratch_size ≤ length scratch

-- letter x leads from entry p to this number, and the matrix at `next` was found so; no other byte changed
pub record StepRecorded (entry exit : List ℕ) (p x number next : ℕ) : Type 0 where
  pub same_length : length exit ≡ length entry
  pub step : next_at exit p x ≡ number
  pub parent : parent_at exit next ≡ p
  pub letter : letter_at exit next ≡ x
  pub others : (i : ℕ) → i ≢ step_place p x → i ≢ parent_place next → i ≢ letter_place next → get_or exit i 0 ≡ get_or entry i 0

-- the matrix stands in the list now at the number that is recorded for letter x from entry p; where it is new, it was found so
pub record StepTaken (n : ℕ) (entry : List ℕ) (count : ℕ) (m : List (List ℕ)) (p x : ℕ) (exit : List ℕ) (total : ℕ) : Type 0 where
  pub added : AddedTo n entry count m exit (next_at exit p x) total
  pub parent : parent_at exit count ≡ p
  pub letter : letter_at exit count ≡ x
  pub others : (i : ℕ) → steps_base ≤ i → i ≢ step_place p x → i ≢ parent_place count → i ≢ letter_place count → get_or exit i 0 ≡ get_or entry i 0

-- the step was taken, or there is no place for its matrix
abbrev pub StepAnswer : ℕ → List ℕ → ℕ → List (List ℕ) → ℕ → ℕ → List ℕ → Option ℕ → Type 0
StepAnswer n entry count m p x exit (Some total) = StepTaken n entry count m p x exit total
StepAnswer n entry count m p x exit None = Full n entry count m

-- the answer, and the bytes before the list
pub record StepAdded (n : ℕ) (entry : List ℕ) (count : ℕ) (m : List (List ℕ)) (p x : ℕ) (exit : List ℕ) (answer : Option ℕ) : Type 0 where
  pub kept : Kept entry exit
  pub says : StepAnswer n entry count m p x exit answer

-- ---- the search

-- a matrix is that of a word, whatever automaton stands in the bytes
pub record IsWord (kinds : List ℕ) (n k : ℕ) (scratch : List ℕ) (M : Matrix) : Type 0 where
  pub word : (automaton : Automaton) → StandsHere automaton kinds n k scratch → MatrixWord automaton M

-- and so is each of the list
pub record WordList (kinds : List ℕ) (n k : ℕ) (scratch : List ℕ) (count : ℕ) : Type 0 where
  pub list : MatrixList n scratch count
  pub words : (i : ℕ) → i < count → IsWord kinds n k scratch (matrix_at scratch i)

-- matrix j was found from entry p by letter x, and whatever is found sooner stands before it
pub record FoundFrom (kinds : List ℕ) (n k : ℕ) (scratch : List ℕ) (j p x : ℕ) : Type 0 where
  pub made : StepMatrix kinds n k scratch j p x
  pub sooner : (q y : ℕ) → Sooner q y p x → y < k → Among n j (matrix_at scratch) (step_entry kinds n scratch q y)

-- the steps that come sooner than letter x from entry p were taken
pub record StepsTaken (kinds : List ℕ) (n k : ℕ) (entry exit : List ℕ) (total p x : ℕ) : Type 0 where
  pub kept : Kept entry exit
  pub words : WordList kinds n k exit total
  pub steps : (q y : ℕ) → Sooner q y p x → y < k → StepNumber kinds n exit total q y (next_at exit q y)
  pub found : (j : ℕ) → j < total → FoundFrom kinds n k exit j (parent_at exit j) (letter_at exit j)

-- so far that the first x letters were followed from entry p, from a list of count matrices on
pub record Following (kinds : List ℕ) (n k : ℕ) (entry : List ℕ) (count p : ℕ) (exit : List ℕ) (total x : ℕ) : Type 0 where
  pub grown : Grown n entry count exit total
  pub taken : StepsTaken kinds n k entry exit total p x

-- every letter was followed from entry p, or there are too many matrices
abbrev pub FollowAnswer : List ℕ → ℕ → ℕ → List ℕ → ℕ → ℕ → List ℕ → Option ℕ → Type 0
FollowAnswer kinds n k entry count p exit (Some total) = Following kinds n k entry count p exit total k
FollowAnswer kinds n k entry count p exit None = TooRich kinds n k entry

-- the answer, and the bytes before the list
pub record Followed (kinds : List ℕ) (n k : ℕ) (entry : List ℕ) (count p : ℕ) (exit : List ℕ) (answer : Option ℕ) : Type 0 where
  pub kept : Kept entry exit
  pub says : FollowAnswer kinds n k entry count p exit answer

-- ---- products, whatever the states' kinds

-- a list over n states with the number of the matrix of each of k letters
pub record LetterList (n k : ℕ) (scratch : List ℕ) (count : ℕ) : Type 0 where
  pub few_letters : k ≤ 16
  pub list : MatrixList n scratch count
  pub letters : (x : ℕ) → x < k → next_at scratch 0 x < count

-- it is that of the search for an automaton with these kinds of states, as far as entry p
pub record SearchAt (n k : ℕ) (scratch : List ℕ) (count p : ℕ) (kinds : List ℕ) : Type 0 where
  pub place : ListNeeds kinds n k scratch
  pub taken : StepsTaken kinds n k scratch scratch count p 0

-- the first x letters were followed from entry p, whatever the kinds
pub record Multiplied (n k : ℕ) (entry : List ℕ) (count p : ℕ) (exit : List ℕ) (total x : ℕ) : Type 0 where
  pub grown : Grown n entry count exit total
  pub letters : LetterList n k exit total
  pub following : (kinds : List ℕ) → SearchAt n k entry count p kinds → Following kinds n k entry count p exit total x

-- the automaton has too many matrices, whatever the kinds
pub record MultipliedFull (n k : ℕ) (entry : List ℕ) (count p : ℕ) : Type 0 where
  pub rich : (kinds : List ℕ) → SearchAt n k entry count p kinds → TooRich kinds n k entry

abbrev pub MultiplyAnswer : ℕ → ℕ → List ℕ → ℕ → ℕ → List ℕ → Option ℕ → Type 0
MultiplyAnswer n k entry count p exit (Some total) = Multiplied n k entry count p exit total k
MultiplyAnswer n k entry count p exit None = MultipliedFull n k entry count p

-- the answer, and the bytes before the list
pub record ProductsAdded (n k : ℕ) (entry : List ℕ) (count p : ℕ) (exit : List ℕ) (answer : Option ℕ) : Type 0 where
  pub kept : Kept entry exit
  pub says : MultiplyAnswer n k entry count p exit answer

-- the list was closed: the answer for whatever kinds
pub record ListClosed (n k : ℕ) (entry : List ℕ) (begun : ℕ) (exit : List ℕ) (answer : Option ℕ) : Type 0 where
  pub kept : Kept entry exit
  pub closed : (kinds : List ℕ) → SearchAt n k entry begun 1 kinds → MatricesAnswer kinds n k entry exit answer
