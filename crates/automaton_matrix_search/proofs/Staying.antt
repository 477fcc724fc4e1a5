-- The list of matrices does not change while bytes behind it do. Assumes nothing.
use Prim.Native.Nat.{ℕ, ◌+◌, ◌*◌, ◌≤◌, ◌<◌}
use mathlib.Core.Path.{◌≡◌, sym, ◌∙◌}
use mathlib.Core.List.{List}
use native.Mathlib.Omega.{arith}
use Rattle.buchi.specs.Matrices.{SameEntries}
use Rattle.automaton_products.specs.Arrays.{StateEntries}
use Rattle.automaton_matrices.specs.Bytes.{matrix_from}
use Rattle.scratch.proofs.Unchanged.{unchanged_wider}
use Rattle.automaton_matrix_search.specs.Lists.{matrix_at, MatrixList, KeptBelow}
use Rattle.automaton_matrix_search.specs.Steps.{Grown}
use Rattle.automaton_matrix_search.proofs.Growing.{other_same}

module _ {a b : List ℕ} (kept : KeptBelow 12288 a b) where
  entry_stays : (i p q : ℕ) → i < 64 → p < 6 → q < 6 → matrix_at b i p q ≡ matrix_at a i p q
  unfolding matrix_from
  entry_stays i p q hi hp hq = kept.before (8192 + (i * 64 + (p * 6 + q))) (omega arith)

  pub matrix_stays : {n i : ℕ} → n ≤ 6 → i < 64 → SameEntries n (matrix_at a i) (matrix_at b i)
  matrix_stays {n} {i} few h = record { same = λ p q hp hq. sym (entry_stays i p q h (omega arith) (omega arith)) }

  pub list_stays : {n count : ℕ} → MatrixList n a count → MatrixList n b count
  list_stays {n} {count} l =
      let few = l.few in
      record {
        few_states = l.few_states;
        room = rw kept.same_length l.room;
        few = l.few;
        entries = λ i h.
            let e : StateEntries n (matrix_at a i) = l.entries i h in
            record {
              small = λ p q hp hq. rw (entry_stays i p q (omega arith) hp hq) (e.small p q hp hq);
              no_row = λ p q g hp hq. entry_stays i p q (omega arith) hp hq ∙ e.no_row p q g hp hq;
              no_column = λ p q g hp hq. entry_stays i p q (omega arith) hp hq ∙ e.no_column p q g hp hq;
            };
        apart = λ i j hi hj f. other_same (matrix_stays l.few_states (omega arith)) (matrix_stays l.few_states (omega arith)) (l.apart i j hi hj f);
      }

  -- a list to which nothing was added
  pub grown_stays : {n count : ℕ} → MatrixList n a count → Grown n a count b count
  grown_stays l =
      let few = l.few in
      record { list = list_stays l; more = omega arith; same = λ i h. matrix_stays l.few_states (omega arith); kept = unchanged_wider (omega arith) (omega arith) kept }
