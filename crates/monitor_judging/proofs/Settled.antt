-- One look in a table of marks, at the settled pair of two values: the idempotent power f of since, and before·f.
-- Assumes nothing.
use Prim.Native.Nat.{ℕ, ◌+◌, ◌*◌, ◌<◌}
use mathlib.Core.Path.{◌≡◌, ap, ◌∙◌}
use mathlib.Core.List.{List}
use native.Mathlib.Omega.{arith}
use lib.ListN.{get_or}
use Rattle.theory.specs.Rules.{Lawful}
use Rattle.theory.specs.Pairs.{LeastPower}
use Rattle.theory.proofs.IdempotentPowers.{least_power_is, least_power_idempotent}
use Rattle.theory.proofs.Strength.{settled_start, settled_cycle}
use Rattle.formats.proofs.Tables.{Table}
use Rattle.formats.specs.Table.{product_at, morphism_at}
use Rattle.rule_table.proofs.Facts.{product_below}
use Rattle.scratch.specs.Map.{mark_table_size, second_base, marks_from}

-- with the idempotent power that was found
module _ (bytes : List ℕ) (n k z : ℕ) {e exponent : ℕ} (law : Lawful (morphism_at bytes n k)) (hz : z < n) (found : LeastPower (morphism_at bytes n k) z e exponent) where
  -- the pair is within the table of marks
  pub pair_below : {before s : ℕ} → Table bytes n k → before < n → s ≡ product_at bytes n before e → s * 64 + e < mark_table_size
  pair_below table hb es = omega (arith, table.small, (least_power_idempotent found).inside, product_below table hb (least_power_idempotent found).inside es)

  -- the byte that is read is that of the settled pair
  pub settled_byte : {s : ℕ} (before : ℕ) (scratch : List ℕ) → s ≡ product_at bytes n before e
      → get_or scratch (second_base + (s * 64 + e)) 0 ≡ marks_from scratch second_base (settled_start (morphism_at bytes n k) before z) (settled_cycle (morphism_at bytes n k) z)
  unfolding marks_from
  settled_byte before scratch es =
      let settled = (least_power_is law hz found).is_power in
      ap (λ (x : ℕ). marks_from scratch second_base x e) (es ∙ ap (product_at bytes n before) settled)
      ∙ ap (marks_from scratch second_base (settled_start (morphism_at bytes n k) before z)) settled
