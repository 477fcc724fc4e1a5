-- What the definitions of a map onto the elements of another table and of a rule reduced by a map leave out: for each a case that it excludes for
-- each thing that it asks. A rule that is reduced by a map is in SmallReductions. Assumes nothing.
use Prim.Native.Nat.{ℕ}
use mathlib.Core.Path.{◌≡◌}
use mathlib.Core.List.{List, [], ◌∷◌}
use native.Mathlib.Omega.{arith}
use Rattle.theory.specs.Smallest.{ReducedBy}
use Rattle.theory.specs.Maps.{MapsOnto}
use Rattle.theory.proofs.SmallRules.{table, meet_rows, parity_rows, W, W_rule, W_all}
use Rattle.theory.proofs.EveryLasso.{one, one_rule}
use Rattle.theory.proofs.CombinedExclusions.{other_products}
use Rattle.theory.proofs.RivalExclusions.{not_same_one, not_smallest}

-- ---- no maps onto: a foreign number; an element that none goes to; products of another table

-- every product is 0, so that it does not matter where 1, which is no letter's, goes
abbrev zero_rows : List (List ℕ)
zero_rows = (0 ∷ 0 ∷ []) ∷ (0 ∷ 0 ∷ []) ∷ []

pub foreign_number : ¬ MapsOnto (table zero_rows (0 ∷ [])) (one 1) (λ s. s)
foreign_number p = omega (arith, p.inside 1 (omega arith))

pub left_out : ¬ MapsOnto (one 2) (table meet_rows (0 ∷ 0 ∷ [])) (λ s. 0)
left_out p =
    let e : ◌≡◌ {A = ℕ} 0 1 = (p.onto 1 (omega arith)).2 in
    omega arith

pub onto_other_products : ¬ MapsOnto W (table parity_rows (0 ∷ 1 ∷ [])) (λ s. s)
onto_other_products p = other_products p.carries

-- ---- not reduced by the map: a foreign number, though the rule of one element is a reduction of W with all its linked pairs marked; other grades,
-- though all go to the one element; a copy, though nothing is lost

pub reduced_by_foreign : ¬ ReducedBy W_all (one_rule 2) (λ s. 1)
reduced_by_foreign k = omega (arith, k.maps.inside 0 (omega arith))

pub reduced_other_grades : ¬ ReducedBy W_rule (one_rule 2) (λ s. 0)
reduced_other_grades k = not_same_one k.same

pub reduced_to_copy : ¬ ReducedBy W_all W_all (λ s. s)
reduced_to_copy k = not_smallest k.smallest
