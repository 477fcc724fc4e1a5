-- The element after an entry and a letter: how the code computes it, and that it is the value of the entry's word with one
-- letter more. Assumes nothing.
use Prim.Native.Nat.{ℕ, zero, suc, ◌+◌, ◌-◌, ◌<◌}
use mathlib.Core.Path.{◌≡◌, refl, ◌∙◌}
use mathlib.Core.List.{List}
use native.Mathlib.Omega.{arith}
use native.Mathlib.Numerals.{sub-one}
use lib.ListN.{get_or}
use Rattle.theory.specs.Rules.{element, join}
use Rattle.formats.proofs.Tables.{Table}
use Rattle.formats.specs.Table.{product_at, image_at, morphism_at}
use Rattle.rule_reach.specs.Reach.{entry_at, word_step}
use Rattle.rule_reach.specs.Steps.{step_at, StepNeeds}

-- the value of the entry's word with one letter more
pub step_value : (bytes : List ℕ) (n k : ℕ) (queue : List ℕ) (p a : ℕ) → element (step_at bytes n queue p a) ≡ word_step (morphism_at bytes n k) a (entry_at queue p)
unfolding step_at word_step entry_at join
step_value bytes n k queue zero a = refl
step_value bytes n k queue (suc p) a = refl

-- what is found is an element
pub step_inside : {bytes : List ℕ} {n k : ℕ} {queue : List ℕ} {p a : ℕ} → Table bytes n k → StepNeeds bytes n queue p a → a < k → step_at bytes n queue p a < n
unfolding step_at
step_inside {bytes} {n} {queue = queue} {p} {a} table place ha = go p place.entry_inside
  where
    go : (p : ℕ) → ((i : ℕ) → p ≡ i + 1 → get_or queue i 0 < n) → step_at bytes n queue p a < n
    go zero inside = table.images a ha
    go (suc i) inside = table.products (get_or queue i 0) (image_at bytes n a) (inside i (omega arith)) (table.images a ha)

-- an entry other than the first holds an element
pub entry_below : {bytes : List ℕ} {n : ℕ} {queue : List ℕ} {from letter : ℕ} → StepNeeds bytes n queue from letter → (from ≡ 0 → ⊥)
    → get_or queue (from - 1) 0 < n
entry_below {from = from} place d = place.entry_inside (from - 1) (omega arith)

module _ {bytes : List ℕ} {n : ℕ} {queue : List ℕ} {from letter h : ℕ} (place : StepNeeds bytes n queue from letter) (is-image : h ≡ image_at bytes n letter) where
  -- after the empty word: the letter's own
  pub step_first : from ≡ 0 → h ≡ step_at bytes n queue from letter
  unfolding step_at
  step_first e = rw e is-image

  -- the letter's element is an element
  pub image_below : h < n
  image_below = rw is-image place.image_inside

  -- after another entry: the product of its element and the letter's
  pub step_later : {r : ℕ} → (from ≡ 0 → ⊥) → r ≡ product_at bytes n (get_or queue (from - 1) 0) h → r ≡ step_at bytes n queue from letter
  unfolding step_at
  step_later {r} d e = go from d e
    where
      go : (from : ℕ) → (from ≡ 0 → ⊥) → r ≡ product_at bytes n (get_or queue (from - 1) 0) h → r ≡ step_at bytes n queue from letter
      go zero d e = absurd (d refl)
      go (suc i) d e = e ∙ rw (sub-one, is-image)
