-- The rule of the blocks is worked out from bytes that laying it out leaves as they were; and the byte of a mark, by the ways
-- through its tests. Assumes nothing.
use Prim.Native.Nat.{ℕ, ◌+◌, ◌*◌, ◌≤◌, ◌<◌}
use mathlib.Core.Path.{◌≡◌, sym, ap₂, ◌∙◌}
use mathlib.Core.Bool.{Bool, cond, ◌&&◌}
use mathlib.Core.List.{List}
use native.Mathlib.Omega.{arith}
use borrow.Author.Tests.{eq-eqb, ne_eqb}
use lib.Dec.{eqb}
use lib.ListN.{length, get_or}
use Rattle.scratch.specs.Map.{laid_marks_base, laid_products_base, leaders_base, numbers_base, outcomes_base}
use Rattle.formats.proofs.Tables.{Table}
use Rattle.formats.specs.Table.{product_at, image_at}
use Rattle.reduce_first_round.specs.Map.{outcome_at}
use Rattle.scratch.specs.Bytes.{UnchangedOutside}
use Rattle.scratch.proofs.Unchanged.{unchanged_room}
use Rattle.reduce_numbering.specs.Steps.{number_at, leader_at}
use Rattle.reduce_table.specs.Layout.{BlocksNeeds, block_product, block_image, laid_product, block_outcome, block_mark}
use Rattle.scratch.proofs.Rows.{pair_small}

-- the product of two leaders is one of 64 elements
pub product_small : {bytes : List ℕ} {n k c : ℕ} {scratch : List ℕ} → Table bytes n k → BlocksNeeds n c scratch → (i j : ℕ) → i < c → j < c
    → product_at bytes n (leader_at scratch i) (leader_at scratch j) < 64
product_small t p i j hi hj = omega (arith, t.small, t.products _ _ (p.leaders i hi) (p.leaders j hj))

-- the places of a pair of blocks in the table and among the marks lie within scratch
module _ {n c : ℕ} {entry : List ℕ} (p : BlocksNeeds n c entry) (i j : ℕ) (hi : i < c) (hj : j < c) {from to : ℕ} {now : List ℕ} (k : UnchangedOutside from to entry now) where
  pub table_inside : laid_products_base + i * c + j < length now
  table_inside = omega (arith, pair_small c i j p.small hi hj, unchanged_room k p.room)

  pub marks_inside : laid_marks_base + i * 64 + j < length now
  marks_inside = omega (arith, p.small, unchanged_room k p.room)

module _ {from to : ℕ} {entry now : List ℕ} (k : UnchangedOutside from to entry now) (h : laid_products_base ≤ from) where
  -- numbers and leaders are as they were
  number_kept : (s : ℕ) → s < 64 → number_at now s ≡ number_at entry s
  number_kept s l = k.before (numbers_base + s) (omega arith)

  leader_kept : (j : ℕ) → j < 64 → leader_at now j ≡ leader_at entry j
  leader_kept j l = k.before (leaders_base + j) (omega arith)

  pub blocks_kept : {n c : ℕ} → BlocksNeeds n c entry → BlocksNeeds n c now
  blocks_kept p = record {
    small = p.small;
    leaders = λ j l. rw (leader_kept j (omega (arith, p.small))) (p.leaders j l);
    room = unchanged_room k p.room;
  }

  -- and so are the products and the letters of the blocks
  pub product_kept : {bytes : List ℕ} {n k c : ℕ} → Table bytes n k → BlocksNeeds n c entry → (i j : ℕ) → i < c → j < c
      → block_product bytes n now i j ≡ block_product bytes n entry i j
  unfolding block_product
  product_kept {bytes} {n} t p i j hi hj =
      ap₂ (λ (a b : ℕ). number_at now (product_at bytes n a b)) (leader_kept i (omega (arith, p.small))) (leader_kept j (omega (arith, p.small)))
      ∙ number_kept _ (product_small t p i j hi hj)

  -- and so is what was worked out from them
  pub product_stored : {bytes : List ℕ} {n k c : ℕ} → Table bytes n k → BlocksNeeds n c entry → (i j : ℕ) → i < c → j < c
      → {v : ℕ} → v ≡ block_product bytes n now i j → v ≡ block_product bytes n entry i j
  product_stored t p i j hi hj e = e ∙ product_kept t p i j hi hj

  pub image_kept : {bytes : List ℕ} {n k : ℕ} → Table bytes n k → (a : ℕ) → a < k → block_image bytes n now a ≡ block_image bytes n entry a
  unfolding block_image
  image_kept {bytes} {n} t a ha = number_kept (image_at bytes n a) (omega (arith, t.small, t.images a ha))

  -- and the marks, where the products are laid out already
  pub mark_kept : laid_marks_base ≤ from → {c : ℕ} → BlocksNeeds 64 c entry → (i j : ℕ) → i < c → j < c → block_mark c now i j ≡ block_mark c entry i j
  unfolding block_mark laid_product block_outcome outcome_at
  mark_kept g {c} p i j hi hj =
      let ei : leader_at now i ≡ leader_at entry i = leader_kept i (omega (arith, p.small)) in
      let ej : leader_at now j ≡ leader_at entry j = leader_kept j (omega (arith, p.small)) in
      let square : laid_product c now j j ≡ laid_product c entry j j = k.before (laid_products_base + (j * c + j)) (omega (arith, pair_small c j j p.small hj hj)) in
      let stays : laid_product c now i j ≡ laid_product c entry i j = k.before (laid_products_base + (i * c + j)) (omega (arith, pair_small c i j p.small hi hj)) in
      let outcome : block_outcome now i j ≡ block_outcome entry i j =
      ap₂ (λ (a b : ℕ). get_or now (outcomes_base + (a * 64 + b)) 0) ei ej
      ∙ k.before (outcomes_base + (leader_at entry i * 64 + leader_at entry j)) (omega (arith, p.leaders i hi, p.leaders j hj)) in
      ap₂ (λ (b : Bool) (y : ℕ). cond b y 0) (ap₂ (λ (x y : ℕ). eqb x j && eqb y i) square stays) outcome

-- the ways through the code for the byte of a mark, from what was read
module _ (c : ℕ) (scratch : List ℕ) (i j : ℕ) {square : ℕ} (e : square ≡ laid_product c scratch j j) where
  pub mark_not_square : (square ≡ j → ⊥) → 0 ≡ block_mark c scratch i j
  unfolding block_mark
  mark_not_square g = sym (simp (ne_eqb (laid_product c scratch j j) j (λ q. g (e ∙ q))))

  module _ (s : square ≡ j) {kept : ℕ} (e' : kept ≡ laid_product c scratch i j) where
    pub mark_moves : (kept ≡ i → ⊥) → 0 ≡ block_mark c scratch i j
    unfolding block_mark
    mark_moves g =
        sym (simp (eq-eqb (laid_product c scratch j j) j (sym e ∙ s), ne_eqb (laid_product c scratch i j) i (λ q. g (e' ∙ q))))

    module _ (t : kept ≡ i) {outcome : ℕ} (o : outcome ≡ block_outcome scratch i j) where
      pub mark_linked : outcome ≡ block_mark c scratch i j
      unfolding block_mark
      mark_linked =
          o ∙ sym (simp (eq-eqb (laid_product c scratch j j) j (sym e ∙ s), eq-eqb (laid_product c scratch i j) i (sym e' ∙ t)))
