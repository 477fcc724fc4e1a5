-- The marks of a good marks' section name elements and have grades, wherever the section stands. Assumes nothing.
use Prim.Native.Nat.{ℕ, ◌+◌, ◌*◌, ◌%◌, ◌≤◌, ◌<◌}
use mathlib.Core.Path.{◌≡◌, ap, subst}
use mathlib.Core.Bool.{Bool, true, false, cond}
use mathlib.Core.List.{List}
use native.Mathlib.Omega.{arith}
use lib.Dec.{eqb}
use lib.ListN.{get_or}
use Rattle.formats.specs.Sections.{two_bytes, InRange}
use Rattle.formats.specs.RuleFile.{mark_width, mark_floor, mark_bound, marks_section, mark_start, mark_cycle, mark_grade}
use Rattle.formats.proofs.SectionList.{GoodAt}
use Rattle.formats.proofs.Triples.{first_of, second_of, third_of}

-- the ranges of a mark's bytes
module _ (i : ℕ) where
  pub floor_start : mark_floor (mark_width * i) ≡ 0
  unfolding mark_floor
  floor_start = ap (λ (x : ℕ). cond (eqb x 2) 1 0) (first_of i)

  pub floor_cycle : mark_floor (mark_width * i + 1) ≡ 0
  unfolding mark_floor
  floor_cycle = ap (λ (x : ℕ). cond (eqb x 2) 1 0) (second_of i)

  pub floor_grade : mark_floor (mark_width * i + 2) ≡ 1
  unfolding mark_floor
  floor_grade = ap (λ (x : ℕ). cond (eqb x 2) 1 0) (third_of i)

  module _ (n : ℕ) where
    pub bound_start : mark_bound n (mark_width * i) ≡ n
    unfolding mark_bound
    bound_start = ap (λ (x : ℕ). cond (eqb x 2) 4 n) (first_of i)

    pub bound_cycle : mark_bound n (mark_width * i + 1) ≡ n
    unfolding mark_bound
    bound_cycle = ap (λ (x : ℕ). cond (eqb x 2) 4 n) (second_of i)

    pub bound_grade : mark_bound n (mark_width * i + 2) ≡ 4
    unfolding mark_bound
    bound_grade = ap (λ (x : ℕ). cond (eqb x 2) 4 n) (third_of i)

-- no range goes further than the elements of the largest table
pub bound_small : (n i : ℕ) → n ≤ 64 → mark_bound n i ≤ 64
unfolding mark_bound
bound_small n i h = go (eqb (i % mark_width) 2)
  where
    go : (b : Bool) → cond b 4 n ≤ 64
    go true = omega arith
    go false = h

module _ {n : ℕ} {bytes : List ℕ} {at : ℕ} (g : GoodAt (marks_section n) bytes at) (i : ℕ) (h : i < two_bytes bytes at) where
  pub starts_below : mark_start bytes at i < n
  unfolding mark_start
  starts_below = subst (λ (x : ℕ). get_or bytes (at + (2 + mark_width * i)) 0 < x) (bound_start i n) (g.entries_good (mark_width * i) (omega arith)).below

  pub cycles_below : mark_cycle bytes at i < n
  unfolding mark_cycle
  cycles_below =
      subst (λ (x : ℕ). get_or bytes x 0 < n) (let e : at + (2 + (mark_width * i + 1)) ≡ at + (2 + mark_width * i) + 1 = omega arith in e)
      (subst (λ (x : ℕ). get_or bytes (at + (2 + (mark_width * i + 1))) 0 < x) (bound_cycle i n) (g.entries_good (mark_width * i + 1) (omega arith)).below)

-- the grades are 1 to 3
pub grades_within : (n : ℕ) {bytes : List ℕ} {at : ℕ} → GoodAt (marks_section n) bytes at → (i : ℕ) → i < two_bytes bytes at → InRange 1 4 (mark_grade bytes at i)
unfolding mark_grade
grades_within n {bytes} {at} g i h =
    subst (λ (x : ℕ). InRange 1 4 (get_or bytes x 0)) (let e : at + (2 + (mark_width * i + 2)) ≡ at + (2 + mark_width * i) + 2 = omega arith in e)
    (subst (λ (x : ℕ). InRange x 4 (get_or bytes (at + (2 + (mark_width * i + 2))) 0)) (floor_grade i)
    (subst (λ (x : ℕ). InRange (mark_floor (mark_width * i + 2)) x (get_or bytes (at + (2 + (mark_width * i + 2))) 0)) (bound_grade i n)
    (g.entries_good (mark_width * i + 2) (omega arith))))
