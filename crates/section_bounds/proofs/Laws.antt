-- Bytes in their ranges, one after the other, and the first that is not. Assumes nothing.
use Prim.Native.Nat.{ℕ, ◌+◌, ◌≤◌, ◌<◌}
use mathlib.Core.Path.{◌≡◌, subst}
use mathlib.Core.Logic.{◌⊎◌}
use mathlib.Core.List.{List}
use native.Mathlib.Omega.{arith}
use borrow.Author.Count.{below_more}
use lib.ListN.{get_or}
use Rattle.formats.specs.Sections.{InRange}
use Rattle.std.specs.Prelude.{Option, Some, None}
use Rattle.formats.proofs.Sections.{FirstOut, AllInRange}
use Rattle.section_bounds.specs.Answers.{FoundOut}

-- no byte is passed yet
pub none_out : (bytes : List ℕ) (from : ℕ) (floor bound : ℕ → ℕ) → AllInRange bytes from 0 floor bound
none_out bytes from floor bound = record { each = λ i h. absurd (let z : ⊥ = omega arith in z) }

-- below a bound, without a floor
pub from_zero : {bound byte : ℕ} → byte < bound → InRange 0 bound byte
from_zero h = record { above = omega arith; below = h }

-- one more byte, none above a greater bound
pub raised_below : {bytes : List ℕ} {from i top r : ℕ} → AllInRange bytes from i (λ j. 0) (λ j. top + 1) → top ≤ r → get_or bytes (from + i) 0 ≤ r
    → AllInRange bytes from (i + 1) (λ j. 0) (λ j. r + 1)
raised_below {bytes} {from} {i} {top} {r} so_far h l = record {
  each = below_more (λ j. InRange 0 (r + 1) (get_or bytes (from + j) 0)) i (λ j g. from_zero (omega (arith, (so_far.each j g).below))) (from_zero (omega arith));
}

module _ {bytes : List ℕ} {from : ℕ} {floor bound : ℕ → ℕ} {i : ℕ} (so_far : AllInRange bytes from i floor bound) where
  -- one more byte in its range
  pub one_more_in : InRange (floor i) (bound i) (get_or bytes (from + i) 0) → AllInRange bytes from (i + 1) floor bound
  one_more_in h = record { each = below_more _ _ so_far.each h }

  -- the first byte that is not in it
  pub out_first : {count : ℕ} → i < count → (get_or bytes (from + i) 0 < floor i) ⊎ (bound i ≤ get_or bytes (from + i) 0) → FirstOut bytes from count floor bound i
  out_first l h = record { below = l; outside = h; first = so_far.each }

  -- all of them were passed
  pub all_in : {count : ℕ} → count ≤ i → AllInRange bytes from count floor bound
  all_in l = record { each = λ j h. so_far.each j (omega arith) }

module _ {bytes : List ℕ} {from count : ℕ} {floor bound : ℕ → ℕ} (found : Option ℕ) (answer : FoundOut bytes from count floor bound found) where
  -- what an answer that names an index says
  pub found_at : {i : ℕ} → found ≡ Some i → FirstOut bytes from count floor bound i
  found_at e = subst (λ (f : Option ℕ). FoundOut bytes from count floor bound f) e answer

  -- what an answer that names none says
  pub found_nothing : found ≡ None → AllInRange bytes from count floor bound
  found_nothing e = subst (λ (f : Option ℕ). FoundOut bytes from count floor bound f) e answer

-- where none is above a byte below the bound, all are below the bound
pub under_bound : {bytes : List ℕ} {from count top bound : ℕ} → AllInRange bytes from count (λ i. 0) (λ i. top + 1) → top < bound
    → AllInRange bytes from count (λ i. 0) (λ i. bound)
under_bound a h = record { each = λ i l. from_zero (omega (arith, (a.each i l).below)) }
