-- What is recorded of a list of classes of words while they are found, as it stands in scratch. The search goes by entries: entry 0 is the empty word, entry
-- j + 1 is class j. Assumes nothing.
use Rattle.std.specs.Prelude.{ℕ, zero, suc, ◌+◌, ◌*◌, ◌≤◌, ◌<◌, ◌≡◌, ◌≢◌, List, [], ◌∷◌, ◌++◌, length, get_or}
use Rattle.scratch.specs.Map.{step_letters_base, step_parents_base, steps_base, laid_products_base}
use Rattle.formats.specs.RuleChecks.{scratch_size}

-- the byte of the step from entry p by letter x, and those of the entry from which class j was found and of the letter by which
abbrev pub step_place : ℕ → ℕ → ℕ
step_place p x = steps_base + (p * 16 + x)

abbrev pub parent_place : ℕ → ℕ
parent_place j = step_parents_base + j

abbrev pub letter_place : ℕ → ℕ
letter_place j = step_letters_base + j

-- what stands there: the number of the class that the letter leads to, the entry, and the letter
abbrev pub next_at : List ℕ → ℕ → ℕ → ℕ
next_at scratch p x = get_or scratch (step_place p x) 0

abbrev pub parent_at : List ℕ → ℕ → ℕ
parent_at scratch j = get_or scratch (parent_place j) 0

abbrev pub letter_at : List ℕ → ℕ → ℕ
letter_at scratch j = get_or scratch (letter_place j) 0

-- numbers that fit into the places where a step is recorded
pub record RecordNeeds (scratch : List ℕ) (p x number next : ℕ) : Type 0 where
  pub entry_small : p ≤ 64
  pub letter_small : x < 16
  pub number_small : number < 64
  pub next_small : next ≤ 64
  pub room : scratch_size ≤ length scratch

-- letter x leads from entry p to this number, and the class at `next` was found so; no other byte changed
pub record StepRecorded (entry exit : List ℕ) (p x number next : ℕ) : Type 0 where
  pub same_length : length exit ≡ length entry
  pub step : next_at exit p x ≡ number
  pub parent : parent_at exit next ≡ p
  pub letter : letter_at exit next ≡ x
  pub others : (i : ℕ) → i ≢ step_place p x → i ≢ parent_place next → i ≢ letter_place next → get_or exit i 0 ≡ get_or entry i 0

-- all that is recorded is as it was
pub record RecordsKept (entry exit : List ℕ) : Type 0 where
  pub same : (i : ℕ) → steps_base ≤ i → i < laid_products_base → get_or exit i 0 ≡ get_or entry i 0

-- the word along which an entry was found, by a recursion that is at most d deep: none for entry 0, and for entry j + 1 that of the entry from which class
-- j was found, with the letter by which it was
unfoldable pub word_to : List ℕ → ℕ → ℕ → List ℕ
word_to scratch zero i = []
word_to scratch (suc d) zero = []
word_to scratch (suc d) (suc j) = word_to scratch d (parent_at scratch j) ++ (letter_at scratch j ∷ [])

unfoldable pub word_at : List ℕ → ℕ → List ℕ
word_at scratch i = word_to scratch i i
