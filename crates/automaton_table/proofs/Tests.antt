-- Whether for some initial p and some q entry (p, q) of one matrix is not 0 and entry (q, q) of another is 2: the ways through the
-- tests, and the loops over q and over p. Assumes nothing.
use Prim.Native.Nat.{ℕ, ◌+◌, ◌*◌, ◌≤◌, ◌<◌}
use mathlib.Core.Path.{◌≡◌, refl, sym, ap, ap₂, ◌∙◌}
use mathlib.Core.Bool.{Bool, true, false, not, ◌||◌}
use mathlib.Core.List.{List}
use native.Mathlib.Omega.{arith}
use lib.ListN.{get_or}
use borrow.Author.Tests.{ne_eqb}
use Rattle.finite.proofs.Tests.{true_T, T_true}
use Rattle.finite.specs.Search.{any_below}
use Rattle.finite.proofs.Search.{any_zero, any_add_one, any_intro}
use Rattle.buchi.specs.Matrices.{Matrix}
use Rattle.buchi.proofs.MatrixTests.{returns_at, returns_from, recurs_test}
use Rattle.automaton_matrices.specs.Bytes.{initial_at, matrix_from}
use Rattle.automaton_matrix_search.specs.Lists.{matrix_at}
use Rattle.automaton_table.specs.Laying.{initial_states}

-- ---- a state's kind

module _ (kinds : List ℕ) (p : ℕ) where
  pub kind_initial : get_or kinds p 0 ≡ 1 → true ≡ initial_at kinds p
  unfolding initial_at
  kind_initial e = rw e

  pub kind_both : get_or kinds p 0 ≡ 3 → true ≡ initial_at kinds p
  unfolding initial_at
  kind_both e = rw e

  pub kind_other : (get_or kinds p 0 ≡ 1 → ⊥) → (get_or kinds p 0 ≡ 3 → ⊥) → false ≡ initial_at kinds p
  unfolding initial_at
  kind_other f g = sym (ap₂ ◌||◌ (ne_eqb (get_or kinds p 0) 1 f) (ne_eqb (get_or kinds p 0) 3 g))

-- ---- two entries

module _ (scratch : List ℕ) (s e p q : ℕ) where
  pub entry_none : get_or scratch (8192 + (s * 64 + (p * 6 + q))) 0 ≡ 0 → false ≡ returns_at (matrix_at scratch s) (matrix_at scratch e) p q
  unfolding returns_at matrix_from
  entry_none z = rw z

  pub entry_returns : (get_or scratch (8192 + (s * 64 + (p * 6 + q))) 0 ≡ 0 → ⊥) → get_or scratch (8192 + (e * 64 + (q * 6 + q))) 0 ≡ 2
      → true ≡ returns_at (matrix_at scratch s) (matrix_at scratch e) p q
  unfolding returns_at matrix_from
  entry_returns f z = simp (ne_eqb (get_or scratch (8192 + (s * 64 + (p * 6 + q))) 0) 0 f, z)

  pub entry_other : (get_or scratch (8192 + (s * 64 + (p * 6 + q))) 0 ≡ 0 → ⊥) → (get_or scratch (8192 + (e * 64 + (q * 6 + q))) 0 ≡ 2 → ⊥)
      → false ≡ returns_at (matrix_at scratch s) (matrix_at scratch e) p q
  unfolding returns_at matrix_from
  entry_other f g = simp (ne_eqb (get_or scratch (8192 + (s * 64 + (p * 6 + q))) 0) 0 f, ne_eqb (get_or scratch (8192 + (e * 64 + (q * 6 + q))) 0) 2 g)

-- ---- a search

-- none of the first i passes
pub record NoneBelow (n : ℕ) (test : ℕ → Bool) (i : ℕ) : Type 0 where
  pub within : i ≤ n
  pub none : any_below i test ≡ false

module _ {n : ℕ} {test : ℕ → Bool} where
  pub none_start : NoneBelow n test 0
  none_start = record { within = omega arith; none = any_zero test }

  module _ {i : ℕ} {b : Bool} (k : NoneBelow n test i) (h : i < n) (said : b ≡ test i) where
    pub none_more : b ≡ false → NoneBelow n test (i + 1)
    none_more e = record { within = omega arith; none = any_add_one i test ∙ ap₂ ◌||◌ (sym said ∙ e) k.none }

    pub one_found : b ≡ true → true ≡ any_below n test
    one_found e = sym (T_true (any_below n test) (any_intro n test i h (true_T (sym said ∙ e))))

  pub none_all : {i : ℕ} → NoneBelow n test i → n ≤ i → false ≡ any_below n test
  none_all {i} k h = let e : i ≡ n = let w = k.within in omega arith in sym (rw e at k.none)

-- ---- the loops

pub not_not : (b : Bool) → not (not b) ≡ b
not_not true = refl
not_not false = refl

module _ (kinds : List ℕ) (n : ℕ) (R E : Matrix) where
  module _ (p : ℕ) {b : Bool} (said : b ≡ initial_at kinds p) where
    initial_is : {c : Bool} → not b ≡ c → initial_at kinds p ≡ not c
    initial_is e = sym said ∙ sym (not_not b) ∙ ap not e

    pub from_not_initial : not b ≡ true → false ≡ returns_from (initial_states kinds n) R E p
    unfolding returns_from
    from_not_initial e = simp (initial_is e)

    pub from_initial : {r : Bool} → not b ≡ false → r ≡ any_below n (returns_at R E p) → r ≡ returns_from (initial_states kinds n) R E p
    unfolding returns_from
    from_initial e a = a ∙ simp (initial_is e)

  pub recurs_is : {r : Bool} → r ≡ any_below n (returns_from (initial_states kinds n) R E) → r ≡ recurs_test (initial_states kinds n) R E
  unfolding recurs_test
  recurs_is a = a
