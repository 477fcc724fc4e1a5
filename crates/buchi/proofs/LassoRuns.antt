-- Acceptance by an automaton depends on the endless word only; so a lasso (u, v) is decided by the matrices R of u followed by
-- c times v and E of c times v, for any c above 0 with E-as-E = E. Assumes nothing.
use Prim.Native.Nat.{ℕ, suc, ◌<◌}
use mathlib.Core.Path.{◌≡◌, sym, subst}
use mathlib.Core.List.{List, ◌++◌}
use mathlib.Core.Logic.{◌↔◌}
use lib.ListN.{length}
use lib.Dec.{T}
use Rattle.theory.specs.Words.{endless}
use Rattle.theory.proofs.Words.{repeat, repeat_some}
use Rattle.theory.proofs.Periods.{same_unrolled_repeated}
use Rattle.buchi.specs.Automata.{Automaton, AcceptedBy}
use Rattle.buchi.specs.Matrices.{Matrix, IsMatrix, SameEntries, product}
use Rattle.buchi.specs.Rule.{Recurs}
use Rattle.buchi.proofs.Products.{product_same, same_refl, same_trans, same_sym, product_associative}
use Rattle.buchi.proofs.WordMatrices.{matrix_unique, matrix_append, matrix_of, word_is_matrix}
use Rattle.buchi.proofs.Recurrence.{recurrence}

-- lassos that write one endless word are both accepted or both not
pub accepted_same : {a : Automaton} {u v u' v' : List ℕ} → ((i : ℕ) → endless u v i ≡ endless u' v' i) → AcceptedBy a u v → AcceptedBy a u' v'
accepted_same {a} same k =
    let r = k.accepting.run in
    record {
      accepting = record {
        run = record {
          state = r.state;
          inside = r.inside;
          starts = r.starts;
          steps = λ i. subst (λ x. T (a.step (r.state i) x (r.state (suc i)))) (same i) (r.steps i);
        };
        again = k.accepting.again;
      };
    }

-- the matrix R of x ++ y has R-as-E = R, where x is not empty and the matrix E of y has E-as-E = E
pub appended_stays : {a : Automaton} (x : List ℕ) {y : List ℕ} {R E : Matrix} → 0 < length x → IsMatrix a (x ++ y) R → IsMatrix a y E
    → SameEntries a.states (product a.states E E) E → SameEntries a.states (product a.states R E) R
appended_stays {a} x {y} {R} {E} some whole cycle square =
    let n = a.states in
    let M = matrix_of a x in
    let split : SameEntries n R (product n M E) = matrix_unique whole (matrix_append (word_is_matrix a x some) cycle) in
    same_trans (product_same split same_refl)
    (same_trans (record { same = λ p q hp hq. product_associative n M E E p q })
    (same_trans (product_same {M = M} same_refl square) (same_sym split)))

module _ {a : Automaton} (u v : List ℕ) (c : ℕ) (start_some : 0 < length u) (cycle_some : 0 < length v) (some : 0 < c) {R E : Matrix}
    (start : IsMatrix a (u ++ repeat c v) R) (cycle : IsMatrix a (repeat c v) E) (square : SameEntries a.states (product a.states E E) E) where
  -- an accepting run on u followed by v for ever exists exactly if for some initial p and some q entry (p, q) of R is not 0 and
  -- entry (q, q) of E is 2
  pub lasso_recurrence : AcceptedBy a u v ↔ Recurs a R E
  lasso_recurrence =
      let same : (i : ℕ) → endless (u ++ repeat c v) (repeat c v) i ≡ endless u v i = same_unrolled_repeated u v c c cycle_some some in
      let both : AcceptedBy a (u ++ repeat c v) (repeat c v) ↔ Recurs a R E =
      recurrence (repeat_some c v some cycle_some) start cycle square (appended_stays u start_some start cycle square) in
      (λ k. both.0 (accepted_same (λ i. sym (same i)) k), λ k. accepted_same same (both.1 k))
