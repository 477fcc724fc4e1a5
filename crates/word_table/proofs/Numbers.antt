-- The number of a product along the step by which its second factor was found: of a letter's own class it is where the letter leads from the first factor,
-- and of a class p · g where g leads from the product with p. Assumes nothing.
use Prim.Native.Nat.{ℕ, suc, ◌+◌, ◌*◌, ◌-◌, ◌<◌}
use mathlib.Core.Path.{◌≡◌, sym, ap, ◌∙◌}
use mathlib.Core.Logic.{◌≢◌}
use mathlib.Core.List.{List, [], ◌∷◌, ◌++◌}
use native.Mathlib.Omega.{arith}
use lib.ListN.{get_or}
use Rattle.finite.proofs.FirstWords.{after, after_snoc}
use Rattle.word_steps.specs.Records.{next_at, parent_at, letter_at, word_at}
use Rattle.word_steps.proofs.Words.{Rooted, word_empty, word_step_lem}
use Rattle.word_table.specs.Laying.{step_from, TableNeeds, RowLaid, AlongWord}
use Rattle.scratch.proofs.Rows.{pair_small}

pub needs_rooted : {count : ℕ} {scratch : List ℕ} → TableNeeds scratch count → Rooted scratch count
needs_rooted p = record { parents = p.parents }

module _ {count i j : ℕ} {scratch : List ℕ} (place : TableNeeds scratch count) (hi : i < count) (hj : j < count) where
  pub letter_small : letter_at scratch j < 16
  letter_small = place.letters j hj

  -- the word of class j, found from an entry
  word_from : (p : ℕ) → parent_at scratch j ≡ p → word_at scratch (suc j) ≡ word_at scratch p ++ (letter_at scratch j ∷ [])
  word_from p e = word_step_lem (needs_rooted place) j hj ∙ ap (λ (q : ℕ). word_at scratch q ++ (letter_at scratch j ∷ [])) e

  -- a letter's own class
  pub letter_product : parent_at scratch j ≡ 0 → AlongWord count scratch i j (next_at scratch (i + 1) (letter_at scratch j))
  unfolding after
  letter_product e = record {
    below = place.steps i j hi hj;
    along = sym (ap (after (step_from scratch) i) (word_from 0 e) ∙ after_snoc (step_from scratch) i (word_at scratch 0) (letter_at scratch j)
        ∙ ap (step_from scratch (letter_at scratch j)) (ap (after (step_from scratch) i) (word_empty scratch)));
  }

  -- the class before the last letter
  module _ (row : RowLaid count scratch i j) (some : parent_at scratch j ≢ 0) where
    abbrev before : ℕ
    before = get_or scratch (16384 + i * count + (parent_at scratch j - 1)) 0

    earlier : parent_at scratch j - 1 < j
    earlier = omega (arith, place.parents j hj)

    number : AlongWord count scratch i (parent_at scratch j - 1) before
    number = row.numbers (parent_at scratch j - 1) earlier

    pub before_place : i * count + (parent_at scratch j - 1) < 4096
    before_place = let h = earlier in pair_small _ _ _ place.few hi (omega arith)

    pub before_below : get_or scratch (16384 + i * count + (parent_at scratch j - 1)) 0 < count
    before_below = number.below

    pub longer_product : AlongWord count scratch i j (next_at scratch (get_or scratch (16384 + i * count + (parent_at scratch j - 1)) 0 + 1) (letter_at scratch j))
    longer_product =
        let p = parent_at scratch j - 1 in
        let e : parent_at scratch j ≡ suc p = omega arith in
        record {
          below = place.steps before j before_below hj;
          along = ap (step_from scratch (letter_at scratch j)) number.along
              ∙ sym (ap (after (step_from scratch) i) (word_from (suc p) e) ∙ after_snoc (step_from scratch) i (word_at scratch (suc p)) (letter_at scratch j));
        }
