-- The table of the recorded classes of words while it is laid out in scratch: what each byte is to be. Assumes nothing.
use Rattle.std.specs.Prelude.{ℕ, suc, ◌+◌, ◌*◌, ◌≤◌, ◌<◌, ◌≡◌, List, length, get_or}
use Rattle.finite.proofs.FirstWords.{after}
use Rattle.theory.specs.Rules.{Morphism}
use Rattle.word_steps.specs.Records.{next_at, parent_at, letter_at, word_at}
use Rattle.scratch.specs.Map.{laid_products_base}
use Rattle.formats.specs.RuleChecks.{scratch_size}

-- where a letter leads from class i
abbrev pub step_from : List ℕ → ℕ → ℕ → ℕ
step_from scratch x i = next_at scratch (i + 1) x

-- products from byte 16384 on; a letter's element is the class that it makes of the empty word
abbrev pub laid_rule : List ℕ → ℕ → ℕ → Morphism
laid_rule scratch count k = record {
  size = count;
  letters = k;
  product = λ a b. get_or scratch (laid_products_base + (a * count + b)) 0;
  image = λ a. next_at scratch 0 a;
}

-- the bytes along which the products are looked up are there: each class was found from an entry before it, and the letter by which it was leads from every
-- class to one of the list
pub record TableNeeds (scratch : List ℕ) (count : ℕ) : Type 0 where
  pub few : count ≤ 64
  pub room : scratch_size ≤ length scratch
  pub parents : (j : ℕ) → j < count → parent_at scratch j ≤ j
  pub letters : (j : ℕ) → j < count → letter_at scratch j < 16
  pub steps : (i j : ℕ) → i < count → j < count → next_at scratch (i + 1) (letter_at scratch j) < count

-- r is where the word of class j leads from class i
pub record AlongWord (count : ℕ) (scratch : List ℕ) (i j r : ℕ) : Type 0 where
  pub below : r < count
  pub along : r ≡ after (step_from scratch) i (word_at scratch (suc j))

-- the products of class i with the first j classes are laid out
pub record RowLaid (count : ℕ) (scratch : List ℕ) (i j : ℕ) : Type 0 where
  pub numbers : (y : ℕ) → y < j → AlongWord count scratch i y (get_or scratch (laid_products_base + i * count + y) 0)
