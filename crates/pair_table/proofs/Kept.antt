-- The rule of the pairs is worked out from bytes that laying it out leaves as they were. Assumes nothing.
use Prim.Native.Nat.{ℕ, ◌+◌, ◌*◌, ◌≤◌, ◌<◌}
use mathlib.Core.Path.{◌≡◌, ap₂, ◌∙◌}
use mathlib.Core.List.{List}
use native.Mathlib.Omega.{arith}
use lib.ListN.{length}
use Rattle.formats.specs.Table.{product_at, image_at}
use Rattle.scratch.specs.Bytes.{UnchangedOutside}
use Rattle.scratch.specs.Map.{laid_products_base, pair_numbers_base, pair_lefts_base, pair_rights_base}
use Rattle.scratch.proofs.Unchanged.{unchanged_room}
use Rattle.scratch.proofs.Rows.{pair_small}
use Rattle.pair_list.specs.Pairs.{left_at, right_at, number_at, TwoTables}
use Rattle.pair_table.specs.Layout.{pair_product, pair_image, NumberNeeds, HalvesNeeds, PairsNeeds}

module _ {first : List ℕ} {n₁ : ℕ} {second : List ℕ} {n₂ k : ℕ} (tables : TwoTables first n₁ second n₂ k) where
  -- the halves of a letter's pair are two of 64 elements
  pub image_halves : (x : ℕ) → x < k → (image_at first n₁ x < 64) × (image_at second n₂ x < 64)
  image_halves x h =
      (omega (arith, tables.first_is_table.small, tables.first_is_table.images x h), omega (arith, tables.second_is_table.small, tables.second_is_table.images x h))

  -- and so are those of a product
  module _ {count : ℕ} {scratch : List ℕ} (p : HalvesNeeds n₁ n₂ count scratch) (i j : ℕ) (hi : i < count) (hj : j < count) where
    pub product_left : product_at first n₁ (left_at scratch i) (left_at scratch j) < 64
    product_left = omega (arith, tables.first_is_table.small, tables.first_is_table.products _ _ (p.lefts i hi) (p.lefts j hj))

    pub product_right : product_at second n₂ (right_at scratch i) (right_at scratch j) < 64
    product_right = omega (arith, tables.second_is_table.small, tables.second_is_table.products _ _ (p.rights i hi) (p.rights j hj))

-- the place of a product lies within scratch
pub product_inside : {n₁ n₂ count : ℕ} {entry : List ℕ} → HalvesNeeds n₁ n₂ count entry → (i j : ℕ) → i < count → j < count → {from to : ℕ} {now : List ℕ}
    → UnchangedOutside from to entry now → laid_products_base + i * count + j < length now
product_inside {count = count} p i j hi hj k = omega (arith, pair_small count i j p.few hi hj, unchanged_room k p.room)

module _ {from to : ℕ} {entry now : List ℕ} (kept : UnchangedOutside from to entry now) (h : laid_products_base ≤ from) where
  -- halves and numbers are as they were
  pub left_kept : (i : ℕ) → i < 64 → left_at now i ≡ left_at entry i
  left_kept i l = kept.before (pair_lefts_base + i) (omega arith)

  pub right_kept : (i : ℕ) → i < 64 → right_at now i ≡ right_at entry i
  right_kept i l = kept.before (pair_rights_base + i) (omega arith)

  number_kept : (s t : ℕ) → s < 64 → t < 64 → number_at now s t ≡ number_at entry s t
  unfolding number_at
  number_kept s t ls lt = kept.before (pair_numbers_base + (s * 64 + t)) (omega arith)

  pub halves_kept : {n₁ n₂ count : ℕ} → HalvesNeeds n₁ n₂ count entry → HalvesNeeds n₁ n₂ count now
  halves_kept p = record {
    few = p.few;
    lefts = λ i l. rw (left_kept i (omega (arith, p.few))) (p.lefts i l);
    rights = λ i l. rw (right_kept i (omega (arith, p.few))) (p.rights i l);
    room = unchanged_room kept p.room;
  }

  module _ {first : List ℕ} {n₁ : ℕ} {second : List ℕ} {n₂ k : ℕ} (tables : TwoTables first n₁ second n₂ k) where
    -- and so are the numbers of products and letters
    pub product_kept : {count : ℕ} → HalvesNeeds n₁ n₂ count entry → (i j : ℕ) → i < count → j < count
        → pair_product first n₁ second n₂ now i j ≡ pair_product first n₁ second n₂ entry i j
    unfolding pair_product
    product_kept p i j hi hj =
        let li = left_kept i (omega (arith, p.few)) in
        let lj = left_kept j (omega (arith, p.few)) in
        let ri = right_kept i (omega (arith, p.few)) in
        let rj = right_kept j (omega (arith, p.few)) in
        ap₂ (number_at now) (ap₂ (product_at first n₁) li lj) (ap₂ (product_at second n₂) ri rj)
        ∙ number_kept _ _ (product_left tables p i j hi hj) (product_right tables p i j hi hj)

    pub image_kept : (x : ℕ) → x < k → pair_image first n₁ second n₂ now x ≡ pair_image first n₁ second n₂ entry x
    unfolding pair_image
    image_kept x l = number_kept _ _ (image_halves tables x l).0 (image_halves tables x l).1

    pub pairs_kept : {count : ℕ} → PairsNeeds first n₁ second n₂ k count entry → PairsNeeds first n₁ second n₂ k count now
    pairs_kept p = record {
      halves = halves_kept p.halves;
      products = λ i j hi hj. rw (product_kept p.halves i j hi hj) (p.products i j hi hj);
      images = λ x l. rw (image_kept x l) (p.images x l);
    }

-- what was read of a product or a letter, half by half
module _ {first : List ℕ} {n₁ : ℕ} {second : List ℕ} {n₂ k : ℕ} (tables : TwoTables first n₁ second n₂ k) {count : ℕ} {scratch : List ℕ}
    (p : PairsNeeds first n₁ second n₂ k count scratch) {s t : ℕ} where
  -- the pair of a product has a number
  module _ (i j : ℕ) (hi : i < count) (hj : j < count) (es : s ≡ product_at first n₁ (left_at scratch i) (left_at scratch j))
      (et : t ≡ product_at second n₂ (right_at scratch i) (right_at scratch j)) where
    pub product_number_lem : number_at scratch s t ≡ pair_product first n₁ second n₂ scratch i j
    unfolding pair_product
    product_number_lem = ap₂ (number_at scratch) es et

    pub product_numbered : NumberNeeds scratch s t
    product_numbered = record {
      left_small = omega (arith, product_left tables p.halves i j hi hj);
      right_small = omega (arith, product_right tables p.halves i j hi hj);
      some = omega (arith, product_number_lem, p.products i j hi hj);
      room = p.halves.room;
    }

  -- and so has a letter's
  module _ (x : ℕ) (h : x < k) (es : s ≡ image_at first n₁ x) (et : t ≡ image_at second n₂ x) where
    pub image_number : number_at scratch s t ≡ pair_image first n₁ second n₂ scratch x
    unfolding pair_image
    image_number = ap₂ (number_at scratch) es et

    pub image_numbered : NumberNeeds scratch s t
    image_numbered = record {
      left_small = omega (arith, (image_halves tables x h).0);
      right_small = omega (arith, (image_halves tables x h).1);
      some = omega (arith, image_number, p.images x h);
      room = p.halves.room;
    }
