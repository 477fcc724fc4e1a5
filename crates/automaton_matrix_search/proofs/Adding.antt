-- One matrix added to the list, unless it is there or the list is full. Assumes nothing.
use Rattle.std.proofs.Common.{Some, None}
use Prim.Native.Nat.{ℕ, ◌+◌, ◌≤◌, ◌<◌}
use mathlib.Core.Path.{◌≡◌, sym, ◌∙◌}
use mathlib.Core.Logic.{◌≢◌}
use mathlib.Core.List.{List}
use native.Mathlib.Omega.{arith}
use native.Mathlib.Decide.{ℕ_discrete}
use Rattle.buchi.specs.Matrices.{SameEntries, OtherEntry}
use Rattle.buchi.proofs.MatrixLists.{number_of}
use Rattle.automaton_products.specs.Arrays.{entry_in, StateEntries, MatrixShape}
use Rattle.automaton_matrices.specs.Bytes.{Stored}
use Rattle.automaton_matrices.proofs.Storing.{stored_same, stored_entries, stored_other}
use Rattle.scratch.specs.Bytes.{UnchangedOutside}
use Rattle.scratch.specs.Map.{matrices_base, steps_base}
use Rattle.scratch.proofs.Unchanged.{unchanged_none, unchanged_wider}
use Rattle.automaton_matrix_search.specs.Lists.{matrix_at, MatrixList}
use Rattle.automaton_matrix_search.specs.Steps.{MatrixThere, Added}
use Rattle.automaton_matrix_search.proofs.Finding.{answer_same, answer_other}
use Rattle.automaton_matrix_search.proofs.Growing.{other_same, other_sym, grown_refl}

module _ {n count : ℕ} {scratch : List ℕ} {m : List (List ℕ)} (list : MatrixList n scratch count) where
  -- it is there
  pub add_there : {at : ℕ} → MatrixThere n scratch count m at → Added n scratch count m scratch (Some (record { number = at; total = count }))
  add_there f = record {
    kept = unchanged_none _ _ _;
    says = record { grown = grown_refl list; below = f.below; same = answer_same (matrix_at scratch) (entry_in m) f.first f.below; only = λ j l b. absurd (omega arith); one_more = omega arith };
  }

module _ {n count : ℕ} {scratch : List ℕ} {m : List (List ℕ)} (list : MatrixList n scratch count)
    (e : count ≡ number_of n count (matrix_at scratch) (entry_in m)) where
  -- the list is full
  pub add_full : count ≡ 64 → Added n scratch count m scratch None
  add_full d = record { kept = unchanged_none _ _ _; says = record { full = d; other = answer_other (matrix_at scratch) (entry_in m) e (omega arith) } }

  -- it gets the next place
  module _ {exit : List ℕ} (f : count ≢ 64) (shape : MatrixShape n m) (s : Stored scratch exit 8192 count m 6) where
    old : (i : ℕ) → i < count → SameEntries n (matrix_at scratch i) (matrix_at exit i)
    old i l =
        let few = list.few_states in
        record { same = λ p q hp hq. sym (stored_other s i p q (omega arith) (omega arith) (omega arith)) }

    new : SameEntries n (entry_in m) (matrix_at exit count)
    new = stored_same s list.few_states

    old_entries : (i : ℕ) → i < count → StateEntries n (matrix_at exit i)
    old_entries i l = record {
      small = λ p q hp hq. rw (stored_other s i p q (omega arith) hp hq) ((list.entries i l).small p q hp hq);
      no_row = λ p q g hp hq. stored_other s i p q (omega arith) hp hq ∙ (list.entries i l).no_row p q g hp hq;
      no_column = λ p q g hp hq. stored_other s i p q (omega arith) hp hq ∙ (list.entries i l).no_column p q g hp hq;
    }

    all_entries : (i : ℕ) → i < count + 1 → Dec (i ≡ count) → StateEntries n (matrix_at exit i)
    all_entries i l (yes d) = rw d (stored_entries s shape)
    all_entries i l (no d) = old_entries i (omega arith)

    -- the new matrix differs from the others, and those from one another
    other_old : (i : ℕ) → i < count → OtherEntry n (matrix_at exit count) (matrix_at exit i)
    other_old i l = other_same new (old i l) (answer_other (matrix_at scratch) (entry_in m) e (omega arith) i l)

    all_apart : (i j : ℕ) → i < count + 1 → j < count + 1 → ¬ (i ≡ j) → Dec (i ≡ count) → Dec (j ≡ count) → OtherEntry n (matrix_at exit i) (matrix_at exit j)
    all_apart i j li lj g (yes d) (yes b) = absurd (g (d ∙ sym b))
    all_apart i j li lj g (yes d) (no b) = rw d (other_old j (omega arith))
    all_apart i j li lj g (no d) (yes b) = rw b (other_sym (other_old i (omega arith)))
    all_apart i j li lj g (no d) (no b) =
        let hi : i < count = omega arith in
        let hj : j < count = omega arith in
        other_same (old i hi) (old j hj) (list.apart i j hi hj g)

    kept : UnchangedOutside matrices_base steps_base scratch exit
    kept =
        let few = list.few in
        record { same_length = s.same_length; before = λ j l. s.before j (omega arith); after = λ j l. s.behind j (omega arith) }

    longer : MatrixList n exit (count + 1)
    longer =
        let few = list.few in
        record {
          few_states = list.few_states;
          room = rw s.same_length list.room;
          few = omega arith;
          entries = λ i l. all_entries i l (ℕ_discrete i count);
          apart = λ i j li lj g. all_apart i j li lj g (ℕ_discrete i count) (ℕ_discrete j count);
        }

    only : (j : ℕ) → count ≤ j → j < count + 1 → SameEntries n (entry_in m) (matrix_at exit j)
    only j l b = let d : j ≡ count = omega arith in rw d new

    pub add_new : Added n scratch count m exit (Some (record { number = count; total = count + 1 }))
    add_new = record {
      kept = kept;
      says = record {
        grown = record { list = longer; more = omega arith; same = old; kept = unchanged_wider (omega arith) (omega arith) kept };
        below = omega arith;
        same = new;
        only = only;
        one_more = omega arith;
      };
    }
