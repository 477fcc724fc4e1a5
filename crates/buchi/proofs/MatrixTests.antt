-- Tests of matrices that compute: that two have the same entries, and that for some initial p and some q entry (p, q) of R is
-- not 0 and entry (q, q) of E is 2; and a lasso decided by them. Assumes nothing.
use Prim.Native.Nat.{ℕ, ◌<◌}
use mathlib.Core.Bool.{Bool, not, ◌&&◌}
use mathlib.Core.List.{List, ◌++◌}
use mathlib.Core.Logic.{◌↔◌, ⊎_elim}
use native.Mathlib.Omega.{arith}
use lib.ListN.{length, length-append}
use lib.Dec.{T, eqb}
use mir.Facts.{eqb_yes, yes_eqb}
use Rattle.finite.proofs.Tests.{T_and, T_and_left, T_and_right, T_not, not_T}
use Rattle.finite.specs.Search.{any_below}
use Rattle.finite.proofs.Search.{any_intro, any_elim, all_below, all_intro, all_elim, all_or_not}
use Rattle.theory.proofs.Words.{repeat, repeat_some}
use Rattle.buchi.specs.Automata.{Automaton, AcceptedBy}
use Rattle.buchi.specs.Matrices.{Matrix, SameEntries, OtherEntry, product}
use Rattle.buchi.specs.Rule.{Recurs}
use Rattle.buchi.proofs.WordMatrices.{matrix_of, word_is_matrix}
use Rattle.buchi.proofs.LassoRuns.{lasso_recurrence}

-- the same entry for each pair of n states
unfoldable pub same_test : ℕ → Matrix → Matrix → Bool
same_test n M N = all_below n (λ p. all_below n (λ q. eqb (M p q) (N p q)))

module _ (n : ℕ) (M N : Matrix) where
  pub same_intro : SameEntries n M N → T (same_test n M N)
  unfolding same_test
  same_intro e = all_intro n _ (λ p hp. all_intro n _ (λ q hq. yes_eqb (e.same p q hp hq)))

  pub same_elim : T (same_test n M N) → SameEntries n M N
  unfolding same_test
  same_elim t = record { same = λ p q hp hq. eqb_yes (all_elim n (λ q. eqb (M p q) (N p q)) (all_elim n (λ p. all_below n (λ q. eqb (M p q) (N p q))) t p hp) q hq) }

  -- matrices that fail differ in some entry
  pub other_elim : ¬ T (same_test n M N) → OtherEntry n M N
  unfolding same_test
  other_elim f = ⊎_elim (λ every. absurd (f (all_intro n row every))) (λ k. at k.at k.below (not_T (row k.at) k.holds)) (all_or_not n row)
    where
      row : ℕ → Bool
      row p = all_below n (λ q. eqb (M p q) (N p q))

      at : (p : ℕ) → p < n → ¬ T (row p) → OtherEntry n M N
      at p h g =
          ⊎_elim (λ every. absurd (g (all_intro n (λ q. eqb (M p q) (N p q)) every)))
          (λ k. record { row = p; column = k.at; row_inside = h; column_inside = k.below; other = λ e. not_T (eqb (M p k.at) (N p k.at)) k.holds (yes_eqb e) })
          (all_or_not n (λ q. eqb (M p q) (N p q)))

-- entry (p, q) of R is not 0 and entry (q, q) of E is 2
unfoldable pub returns_at : Matrix → Matrix → ℕ → ℕ → Bool
returns_at R E p q = not (eqb (R p q) 0) && eqb (E q q) 2

-- p is initial, and this holds for some q
unfoldable pub returns_from : Automaton → Matrix → Matrix → ℕ → Bool
returns_from a R E p = a.initial p && any_below a.states (returns_at R E p)

unfoldable pub recurs_test : Automaton → Matrix → Matrix → Bool
recurs_test a R E = any_below a.states (returns_from a R E)

module _ (a : Automaton) (R E : Matrix) where
  pub recurs_intro : Recurs a R E → T (recurs_test a R E)
  unfolding recurs_test returns_from returns_at
  recurs_intro k =
      any_intro a.states (returns_from a R E) k.p k.p_inside
      (T_and (a.initial k.p) _ k.p_initial
      (any_intro a.states (returns_at R E k.p) k.q k.q_inside
      (T_and (not (eqb (R k.p k.q) 0)) _ (T_not (eqb (R k.p k.q) 0) (λ t. k.reached (eqb_yes t))) (yes_eqb k.returns))))

  pub recurs_elim : T (recurs_test a R E) → Recurs a R E
  unfolding recurs_test returns_from returns_at
  recurs_elim t =
      let f = any_elim a.states (returns_from a R E) t in
      let g = any_elim a.states (returns_at R E f.at) (T_and_right (a.initial f.at) _ f.holds) in
      record {
        p = f.at;
        q = g.at;
        p_inside = f.below;
        q_inside = g.below;
        p_initial = T_and_left (a.initial f.at) _ f.holds;
        reached = λ e. not_T (eqb (R f.at g.at) 0) (T_and_left (not (eqb (R f.at g.at) 0)) _ g.holds) (yes_eqb e);
        returns = eqb_yes (T_and_right (not (eqb (R f.at g.at) 0)) _ g.holds);
      }

-- the matrix of c times v is idempotent
unfoldable pub settles : Automaton → List ℕ → ℕ → Bool
settles a v c = same_test a.states (product a.states (matrix_of a (repeat c v)) (matrix_of a (repeat c v))) (matrix_of a (repeat c v))

-- then the lasso is accepted exactly if this passes
unfoldable pub run_test : Automaton → List ℕ → List ℕ → ℕ → Bool
run_test a u v c = recurs_test a (matrix_of a (u ++ repeat c v)) (matrix_of a (repeat c v))

module _ (a : Automaton) (u v : List ℕ) (c : ℕ) (start_some : 0 < length u) (cycle_some : 0 < length v) (some : 0 < c) (settled : T (settles a v c)) where
  both : AcceptedBy a u v ↔ Recurs a (matrix_of a (u ++ repeat c v)) (matrix_of a (repeat c v))
  unfolding settles
  both =
      lasso_recurrence u v c start_some cycle_some some
      (word_is_matrix a (u ++ repeat c v) (omega (arith, length-append u (repeat c v))))
      (word_is_matrix a (repeat c v) (repeat_some c v some cycle_some))
      (same_elim a.states _ _ settled)

  pub run_test_intro : AcceptedBy a u v → T (run_test a u v c)
  unfolding run_test
  run_test_intro k = recurs_intro a _ _ (both.0 k)

  pub run_test_elim : T (run_test a u v c) → AcceptedBy a u v
  unfolding run_test
  run_test_elim t = both.1 (recurs_elim a _ _ t)
