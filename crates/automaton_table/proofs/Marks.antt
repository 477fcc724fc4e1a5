-- The byte of a pair: the ways through its tests, and what it says while bytes behind the products change. Assumes nothing.
use Prim.Native.Nat.{ℕ, ◌+◌, ◌*◌, ◌≤◌, ◌<◌}
use mathlib.Core.Path.{◌≡◌, refl, sym, ap, ◌∙◌, subst}
use mathlib.Core.Bool.{Bool, true, false, not}
use mathlib.Core.List.{List}
use native.Mathlib.Omega.{arith}
use lib.Dec.{T}
use Rattle.finite.proofs.Tests.{true_T}
use Rattle.theory.specs.Pairs.{Linked}
use Rattle.rule_marks.specs.Faults.{LinkedAnswer}
use Rattle.rule_marks.proofs.MarkOrder.{said_linked, said_unlinked}
use Rattle.buchi.specs.Automata.{Automaton}
use Rattle.buchi.specs.Matrices.{Matrix, SameEntries}
use Rattle.buchi.specs.Rule.{Recurs}
use Rattle.buchi.proofs.MatrixTests.{recurs_test, recurs_intro, recurs_elim}
use Rattle.automaton_matrix_search.specs.Lists.{matrix_at, KeptBelow}
use Rattle.scratch.proofs.Unchanged.{unchanged_sym, unchanged_wider}
use Rattle.scratch.proofs.Rows.{pair_small}
use Rattle.rule_laid.specs.Laid.{laid_table}
use Rattle.rule_laid.proofs.Laid.{linked_alike}
use Rattle.automaton_matrix_search.proofs.Staying.{matrix_stays}
use Rattle.automaton_table.specs.Laying.{initial_states, PairNeeds, MarkNeeds, MarkByte}
use Rattle.automaton_table.proofs.Tests.{not_not}

-- the bytes of both matrices of a pair are there
pub pair_place : {kinds : List ℕ} {n count s e : ℕ} {scratch : List ℕ} → MarkNeeds kinds n scratch count → s < count → e < count → PairNeeds kinds n scratch s e
pair_place p hs he =
    let few = p.few in
    record { few_states = p.few_states; kinds_long = p.kinds_long; room = p.room; start_small = omega arith; cycle_small = omega arith }

-- ---- the ways through the tests

module _ (kinds : List ℕ) (n count : ℕ) (scratch : List ℕ) (s e : ℕ) (linked : Bool) (l : LinkedAnswer (laid_table scratch count) s e linked) where
  pub mark_unlinked : not linked ≡ true → MarkByte kinds n count scratch s e 0
  mark_unlinked g = record {
    linked = λ h. absurd (omega arith);
    recurs = λ h. absurd (omega arith);
    marked = λ k r. absurd (said_unlinked _ s e linked l g k);
    three = λ h. absurd (omega arith);
  }

  module _ {recurs : Bool} (t : recurs ≡ recurs_test (initial_states kinds n) (matrix_at scratch s) (matrix_at scratch e)) (g : not linked ≡ false) where
    test_is : {c : Bool} → not recurs ≡ c → recurs_test (initial_states kinds n) (matrix_at scratch s) (matrix_at scratch e) ≡ not c
    test_is h = sym t ∙ sym (not_not recurs) ∙ ap not h

    pub mark_other : not recurs ≡ true → MarkByte kinds n count scratch s e 0
    mark_other h = record {
      linked = λ z. absurd (omega arith);
      recurs = λ z. absurd (omega arith);
      marked = λ k r. absurd (subst T (test_is h) (recurs_intro (initial_states kinds n) _ _ r));
      three = λ z. absurd (omega arith);
    }

    pub mark_new : not recurs ≡ false → MarkByte kinds n count scratch s e 3
    mark_new h = record {
      linked = λ z. said_linked _ s e linked l g;
      recurs = λ z. recurs_elim (initial_states kinds n) _ _ (true_T (test_is h));
      marked = λ k r. omega arith;
      three = λ z. refl;
    }

-- ---- bytes behind the products change

pub recurs_same : {t : Automaton} {R R' E E' : Matrix} → SameEntries t.states R R' → SameEntries t.states E E' → Recurs t R E → Recurs t R' E'
recurs_same d f r = record {
  p = r.p;
  q = r.q;
  p_inside = r.p_inside;
  q_inside = r.q_inside;
  p_initial = r.p_initial;
  reached = λ z. r.reached (d.same r.p r.q r.p_inside r.q_inside ∙ z);
  returns = sym (f.same r.q r.q r.q_inside r.q_inside) ∙ r.returns;
}

module _ {a b : List ℕ} {count : ℕ} (kept : KeptBelow 24576 a b) (few : count ≤ 64) where
  product_byte_lem : (i j : ℕ) → i < count → j < count → (laid_table b count).product i j ≡ (laid_table a count).product i j
  product_byte_lem i j hi hj = kept.before (16384 + (i * count + j)) (omega (arith, pair_small count i j few hi hj))

  pub linked_stays : {s e : ℕ} → Linked (laid_table a count) s e → Linked (laid_table b count) s e
  linked_stays l = linked_alike refl product_byte_lem l

  recurs_stays : (kinds : List ℕ) {n s e : ℕ} → n ≤ 6 → s < count → e < count
      → Recurs (initial_states kinds n) (matrix_at a s) (matrix_at a e) → Recurs (initial_states kinds n) (matrix_at b s) (matrix_at b e)
  recurs_stays kinds small hs he r =
      let k : KeptBelow 12288 a b = unchanged_wider (omega arith) (omega arith) kept in
      recurs_same (matrix_stays k small (omega arith)) (matrix_stays k small (omega arith)) r

pub mark_stays : {kinds a b : List ℕ} {n count s e byte : ℕ} → KeptBelow 24576 a b → n ≤ 6 → count ≤ 64 → s < count → e < count
    → MarkByte kinds n count a s e byte → MarkByte kinds n count b s e byte
mark_stays {kinds} kept small few hs he m = record {
  linked = λ h. linked_stays kept few (m.linked h);
  recurs = λ h. recurs_stays kept few kinds small hs he (m.recurs h);
  marked = λ l r. m.marked (linked_stays (unchanged_sym kept) few l) (recurs_stays (unchanged_sym kept) few kinds small hs he r);
  three = m.three;
}
