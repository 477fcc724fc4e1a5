-- One half of the search: in the part of scratch where the halves stand, the step of one table's own search finds the half after a
-- letter. Assumes nothing.
use Prim.Native.Nat.{ℕ, zero, suc, ◌+◌, ◌-◌, ◌≤◌, ◌<◌}
use mathlib.Core.Path.{◌≡◌, refl, ap, ◌∙◌}
use mathlib.Core.List.{List}
use native.Mathlib.Omega.{arith}
use lib.ListN.{length, get_or, take, drop}
use Rattle.theory.specs.Rules.{element}
use Rattle.formats.specs.Table.{morphism_at}
use Rattle.formats.proofs.Tables.{Table}
use Rattle.scratch.proofs.Parts.{part_length, part_byte}
use Rattle.rule_reach.specs.Reach.{word_step}
use Rattle.rule_reach.specs.Reach.{entry_at as reachedAt}
use Rattle.rule_reach.specs.Steps.{step_at, StepNeeds}
use Rattle.rule_reach.proofs.Steps.{step_value, step_inside}
use Rattle.pair_list.specs.Pairs.{value_at}

-- the part of scratch from a byte on
abbrev pub part_from : List ℕ → ℕ → List ℕ
part_from scratch base = take (length scratch - base) (drop base scratch)

-- count elements below n stand from a byte on, where there is room for 64
pub record HalfList (n : ℕ) (scratch : List ℕ) (base count : ℕ) : Type 0 where
  pub room : base + 64 ≤ length scratch
  pub few : count ≤ 64
  pub inside : (i : ℕ) → i < count → get_or scratch (base + i) 0 < n

module _ {bytes : List ℕ} {n k : ℕ} (table : Table bytes n k) {scratch : List ℕ} {base count p a : ℕ} (half : HalfList n scratch base count) (hp : p ≤ count) (ha : a < k) where
  -- where the part begins, and the bytes of its entries
  begins : base ≤ length scratch
  begins = omega (arith, half.room)

  byte : (i : ℕ) → i < 64 → get_or (part_from scratch base) i 0 ≡ get_or scratch (base + i) 0
  byte i h = part_byte scratch base begins i (omega (arith, half.room))

  -- the letter may be tried at the entry
  pub half_place : StepNeeds bytes n (part_from scratch base) p a
  half_place = record {
    small = table.small;
    long = omega (arith, table.long);
    image_inside = table.images a ha;
    entry_there = omega (arith, half.room, half.few, part_length scratch base begins);
    entry_inside = λ i e. rw (byte i (omega (arith, half.few))) (half.inside i (omega arith));
  }

  -- what is found is an element
  pub half_inside : {s : ℕ} → s ≡ step_at bytes n (part_from scratch base) p a → s < n
  half_inside e = rw e (step_inside table half_place ha)

  -- the value after the letter
  pub half_value : {s : ℕ} → s ≡ step_at bytes n (part_from scratch base) p a → element s ≡ word_step (morphism_at bytes n k) a (value_at scratch base p)
  unfolding reachedAt value_at
  half_value e = ap element e ∙ step_value bytes n k (part_from scratch base) p a ∙ ap (word_step (morphism_at bytes n k) a) (same p hp)
    where
      same : (p : ℕ) → p ≤ count → reachedAt (part_from scratch base) p ≡ value_at scratch base p
      same zero h = refl
      same (suc i) h = ap element (byte i (omega (arith, half.few)))
