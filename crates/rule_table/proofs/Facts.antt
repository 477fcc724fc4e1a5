-- What the calls of the library use of a checked table: where its entries stand. Assumes nothing.
use Prim.Native.Nat.{ℕ, ◌<◌}
use mathlib.Core.Path.{◌≡◌}
use mathlib.Core.List.{List}
use native.Mathlib.Omega.{arith}
use Rattle.rule_table.specs.Table.{ProductNeeds, ImageNeeds}
use Rattle.formats.specs.Table.{product_at}
use Rattle.formats.proofs.Tables.{Table}

-- where a product stands in a checked table
pub table_place : {bytes : List ℕ} {n k a b : ℕ} → Table bytes n k → a < n → b < n → ProductNeeds bytes n a b
table_place t ha hb = record { small = t.small; long = omega arith; left_inside = ha; right_inside = hb }

-- where a letter's element stands in a checked table
pub image_place : {bytes : List ℕ} {n k a : ℕ} → Table bytes n k → a < k → ImageNeeds bytes n a
image_place t ha = record { small = t.small; long = omega arith }

-- a product of elements of a checked table is an element
pub product_below : {bytes : List ℕ} {n k a b r : ℕ} → Table bytes n k → a < n → b < n → r ≡ product_at bytes n a b → r < n
product_below {a = a} {b = b} t ha hb e = rw e (t.products a b ha hb)
