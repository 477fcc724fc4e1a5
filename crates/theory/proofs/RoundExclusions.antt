-- What the definitions of the rounds leave out: for each a case that it excludes, and for one that asks several things a case for each. Assumes
-- nothing.
use Prim.Native.Nat.{ℕ, ◌+◌, ◌*◌, ◌-◌, ◌≤◌, ◌<◌}
use mathlib.Core.Path.{◌≡◌, refl, sym, ap, subst, ◌∙◌}
use mathlib.Core.List.{List, [], ◌∷◌}
use native.Mathlib.Omega.{arith}
use lib.ListN.{length}
use Rattle.theory.specs.Words.{Lasso, Over}
use Rattle.theory.specs.Rules.{Morphism, element, value}
use Rattle.theory.specs.Rounds.{GradesByValues, SameOutcomes, StillTogether, Together, Stable, IsBlocks, OneValueIn, ElementsOfReductions}
use Rattle.theory.proofs.Values.{element_same, value_element, value_some}
use Rattle.theory.proofs.Gradings.{one_grade}
use Rattle.theory.proofs.Computing.{computing, lasso_elim, over_elim}
use Rattle.theory.proofs.SmallRules.{W, W_rule, W_all, entry, first_mark}
use Rattle.theory.proofs.EveryLasso.{one, one_lawful, one_rule}
use Rattle.theory.proofs.Examples.{W_zeros, W_ones}
use Rattle.theory.proofs.SmallReductions.{W_all_reduction}

-- W grades 1 and then 0 for ever with 3, so the outcome of (1, 0) is not 0
pub not_all_zero : ¬ GradesByValues W (entry first_mark) (λ s z. 0)
unfolding computing
not_all_zero k =
    let l : Lasso 2 (1 ∷ []) (0 ∷ []) = lasso_elim 2 (1 ∷ []) (0 ∷ []) tt in
    let e : ◌≡◌ {A = ℕ} 0 3 = one_grade ((k.graded 1 0 (omega arith) (omega arith)).graded (1 ∷ []) (0 ∷ []) l refl refl) W_zeros in
    omega arith

-- outcomes that differ as starts, and as cycles
pub starts_told_apart : ¬ SameOutcomes W (λ s z. s) 0 1
starts_told_apart k = let e : ◌≡◌ {A = ℕ} 0 1 = k.as_start 0 (omega arith) in omega arith

pub cycles_told_apart : ¬ SameOutcomes W (λ s z. z) 0 1
cycles_told_apart k = let e : ◌≡◌ {A = ℕ} 0 1 = k.as_cycle 0 (omega arith) in omega arith

-- one letter, whose element is 0, and some product
abbrev with_product : (ℕ → ℕ → ℕ) → Morphism
with_product f = record { size = 2; letters = 1; product = f; image = λ a. 0 }

-- 0 and 1 are related, and their products with the letter on the left, not those on the right; the other way round; and they are not related
pub right_apart : ¬ StillTogether (with_product (λ s t. 2 * s + t)) (λ s t. t ≡ 1) 0 1
right_apart k = let e : ◌≡◌ {A = ℕ} 2 1 = k.on_right 0 (omega arith) in omega arith

pub left_apart : ¬ StillTogether (with_product (λ s t. s + 2 * t)) (λ s t. t ≡ 1) 0 1
left_apart k = let e : ◌≡◌ {A = ℕ} 2 1 = k.on_left 0 (omega arith) in omega arith

pub apart_before : ¬ StillTogether (with_product (λ s t. 0)) (λ s t. s ≡ t) 0 1
apart_before k = let e : ◌≡◌ {A = ℕ} 0 1 = k.before in omega arith

-- a round that the next one changes: 0 and 1 have the same outcomes, and their products with the letter do not
pub not_stable : ¬ Stable (with_product (λ s t. 2 * s)) (λ s z. s - 1) 0
unfolding Together
not_stable k =
    let at_first : Together (with_product (λ s t. 2 * s)) (λ s z. s - 1) 0 0 1 = record { as_start = λ z h. refl; as_cycle = λ z h. refl } in
    let apart = k.kept 0 1 (omega arith) (omega arith) at_first in
    let e : ◌≡◌ {A = ℕ} 0 1 = (apart.on_right 0 (omega arith)).as_start 0 (omega arith) in
    omega arith

-- a list that is too short, one that puts together what is apart, one that keeps apart what is together, and numbers of blocks for their least
-- elements
pub no_byte : ¬ IsBlocks 1 (λ s t. s ≡ t) []
no_byte b = let e : ◌≡◌ {A = ℕ} 0 1 = b.count in omega arith

pub put_together : ¬ IsBlocks 2 (λ s t. s ≡ t) (0 ∷ 0 ∷ [])
put_together b = let e : ◌≡◌ {A = ℕ} 0 1 = b.related 1 (omega arith) in omega arith

pub kept_apart : ¬ IsBlocks 2 (λ s t. ℕ) (0 ∷ 1 ∷ [])
kept_apart b = b.least 1 0 (omega arith) (omega arith) 0

pub numbers_of_blocks : ¬ IsBlocks 3 (λ s t. s - 1 ≡ t - 1) (0 ∷ 0 ∷ 1 ∷ [])
numbers_of_blocks b = let e : ◌≡◌ {A = ℕ} 0 1 = b.related 2 (omega arith) in omega arith

-- the letters of W have two values in W
pub two_values : ¬ OneValueIn W W 0 1
unfolding computing
two_values k =
    let e : ◌≡◌ {A = ℕ} 0 1 = element_same (k.one (0 ∷ []) (1 ∷ []) (over_elim 2 (0 ∷ []) tt) (over_elim 2 (1 ∷ []) tt) refl refl) in omega arith

-- in the rule of one element all words with a letter have one value
all_one : {u : List ℕ} → Over 2 u → 0 < length u → value (one 2) u ≡ element 0
all_one o some =
    let k = value_element (one_lawful 2) o some in
    let e : k.the ≡ 0 = omega (arith, k.inside) in
    k.is ∙ ap element e

-- W with every pair marked has one element in its reduction, so its two elements are not kept apart
pub not_kept_apart : ¬ ElementsOfReductions W_all (λ s t. s ≡ t)
not_kept_apart k =
    let one_value : OneValueIn W (one 2) 0 1 = record { one = λ u w ou ow eu ew. all_one ou (value_some W u 0 eu) ∙ sym (all_one ow (value_some W w 1 ew)) } in
    let e : ◌≡◌ {A = ℕ} 0 1 = (k.related (one_rule 2) W_all_reduction 0 1 (omega arith) (omega arith)).1 one_value in
    omega arith

-- W has two, since a strong rule where its letters have one value grades 0 and then 1 for ever like 1 and then 0 for ever
pub not_put_together : ¬ ElementsOfReductions W_rule (λ s t. ℕ)
unfolding computing
not_put_together k =
    let x = k.reduced in
    let p = k.reduction in
    let one_value : OneValueIn W x.morphism 0 1 = (k.related x p 0 1 (omega arith) (omega arith)).0 0 in
    let same = one_value.one (0 ∷ []) (1 ∷ []) (over_elim 2 (0 ∷ []) tt) (over_elim 2 (1 ∷ []) tt) refl refl in
    let there : (u v : List ℕ) → Lasso 2 u v → Lasso x.morphism.letters u v = λ u v l. subst (λ (n : ℕ). Lasso n u v) p.same.same_letters l in
    let zeros : Lasso 2 (1 ∷ []) (0 ∷ []) = lasso_elim 2 (1 ∷ []) (0 ∷ []) tt in
    let ones : Lasso 2 (0 ∷ []) (1 ∷ []) = lasso_elim 2 (0 ∷ []) (1 ∷ []) tt in
    let some : 1 ≤ 3 = omega arith in
    W_ones.highest 3 (omega arith)
    ((p.same.both_or_neither 3 some (0 ∷ []) (1 ∷ []) ones).1
    (((p.smallest.strong.at_each 3 some).both_or_neither (1 ∷ []) (0 ∷ []) (0 ∷ []) (1 ∷ []) (there (1 ∷ []) (0 ∷ []) zeros) (there (0 ∷ []) (1 ∷ []) ones) (sym same) same).0
    ((p.same.both_or_neither 3 some (1 ∷ []) (0 ∷ []) zeros).0 (W_zeros.attained (omega arith)))))
