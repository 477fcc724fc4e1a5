-- Products and letters' elements looked up in a checked table. Assumes nothing.
use Prim.Native.Nat.{ℕ, ◌-◌, ◌≤◌, ◌<◌}
use native.Mathlib.Omega.{arith}
use mathlib.Core.Path.{◌≡◌, sym, subst}
use mathlib.Core.Logic.{◌≢◌}
use mathlib.Core.List.{List}
use Rattle.theory.specs.Rules.{Lawful}
use Rattle.formats.specs.Table.{product_at, image_at, morphism_at}
use Rattle.formats.proofs.Tables.{Table}
use Rattle.rule_table.specs.Table.{ProductNeeds, ImageNeeds}
use Rattle.next_list.specs.Pairs.{tail_at, whole_at, ValueNeeds, ValueBehind, Listing, PairBehind}
use Rattle.next_list.proofs.Values.{behind_some, some_inside}
use Rattle.next_list.proofs.Following.{pair_first, before_whole, before_tail, pair_longer}

module _ {bytes : List ℕ} {n k : ℕ} (t : Table bytes n k) where
  pub product_place : {a b : ℕ} → a < n → b < n → ProductNeeds bytes n a b
  product_place ha hb = record { small = t.small; long = omega (arith, t.long); left_inside = ha; right_inside = hb }

  pub image_place : {x : ℕ} → x < k → ImageNeeds bytes n x
  image_place h = record { small = t.small; long = omega (arith, t.long) }

  pub product_behind : {value element r : ℕ} → ValueNeeds n value element → value ≢ 64 → r ≡ product_at bytes n value element → ValueBehind (morphism_at bytes n k) value element r
  product_behind {value} {element} p f e =
      subst (ValueBehind (morphism_at bytes n k) value element) (sym e) (behind_some t.small f (t.products value element (some_inside p f) p.inside))

-- the ways through the values of an entry's word with a letter behind it
module _ {bytes : List ℕ} {n k : ℕ} (t : Table bytes n k) (law : Lawful (morphism_at bytes n k)) {scratch : List ℕ} {count p x : ℕ} (l : Listing (morphism_at bytes n k) scratch count p x)
    (inside : p ≤ count) (letter : x < k) {element : ℕ} (e : element ≡ image_at bytes n x) where
  pub pair_zero : p ≡ 0 → PairBehind (morphism_at bytes n k) scratch p x (record { tail = 64; whole = element })
  pair_zero z = rw e (pair_first law t.small l inside letter z)

  module _ (some : p ≢ 0) where
    pub needs_before : ValueNeeds n (tail_at scratch (p - 1)) element
    needs_before = rw e (before_tail law t.small l inside letter some)

    pub whole_before : ProductNeeds bytes n (whole_at scratch (p - 1)) element
    whole_before = product_place t (before_whole law t.small l inside letter some) (rw e (law.images x letter))

    pub pair_more : {behind whole : ℕ} → ValueBehind (morphism_at bytes n k) (tail_at scratch (p - 1)) element behind → whole ≡ product_at bytes n (whole_at scratch (p - 1)) element
        → PairBehind (morphism_at bytes n k) scratch p x (record { tail = behind; whole = whole })
    pair_more {behind} b q = rw (q, e) (pair_longer law t.small l inside letter some (subst (λ (i : ℕ). ValueBehind (morphism_at bytes n k) (tail_at scratch (p - 1)) i behind) e b))
