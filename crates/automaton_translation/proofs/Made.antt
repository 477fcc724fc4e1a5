-- The rule that is laid out behind the list of an automaton's matrices is the automaton's: its elements are the matrices, its
-- products and images theirs, and its marks those of document 01. Assumes nothing.
use Prim.Native.Nat.{ℕ, ◌≤◌, ◌<◌}
use mathlib.Core.Path.{◌≡◌, refl, sym, subst}
use mathlib.Core.List.{List}
use native.Mathlib.Omega.{arith}
use lib.Dec.{T, leb→le, le→leb}
use Rattle.theory.specs.Rules.{Morphism, Lawful, level}
use Rattle.theory.specs.Pairs.{Linked}
use Rattle.buchi.specs.Automata.{Automaton}
use Rattle.buchi.specs.Matrices.{Matrix, SameEntries, product}
use Rattle.buchi.specs.Rule.{MatricesOf, Recurs, MarkedBy, MoreMatrices}
use Rattle.buchi.proofs.Products.{same_sym, same_trans}
use Rattle.buchi.proofs.WordMatrices.{letter_matrix}
use Rattle.buchi.proofs.MatrixLists.{ClosedList}
use Rattle.buchi.proofs.MatrixTables.{TableOf, table_lawful, table_matrices}
use Rattle.buchi.proofs.Numberings.{more_matrices}
use Rattle.automaton_matrices.specs.Bytes.{letter_entry}
use Rattle.automaton_matrices.proofs.Letters.{stands_letter}
use Rattle.scratch.proofs.Unchanged.{unchanged_sym, unchanged_wider}
use Rattle.automaton_matrix_search.specs.Lists.{matrix_at, ListNeeds, StandsHere, Kept, step_entry, StepNumber, AllListed}
use Rattle.automaton_matrix_search.proofs.Growing.{here_kept}
use Rattle.automaton_matrix_search.proofs.Staying.{matrix_stays}
use Rattle.rule_laid.specs.Laid.{laid_table}
use Rattle.rule_laid.proofs.Laid.{linked_alike}
use Rattle.automaton_table.specs.Laying.{laid_rule, laid_marks, initial_states, StepList, ProductNumber, MarkNeeds, RuleLaid}
use Rattle.formats.specs.FirstWords.{ByFirstWords}
use Rattle.automaton_translation.proofs.Order.{table_by_first_words}
use Rattle.automaton_table.proofs.Staying.{step_stays, product_number_stays}
use Rattle.automaton_table.proofs.Marks.{recurs_same}

-- ---- the list of an automaton's matrices

module _ {t : Automaton} {kinds : List ℕ} {n k count : ℕ} {entry listed : List ℕ} (here : StandsHere t kinds n k entry) (place : ListNeeds kinds n k entry)
    (kept : Kept entry listed) (all : AllListed kinds n k entry listed count) where
  closed : ClosedList t count (matrix_at listed)
  closed = all.closed t here

  -- a letter's matrix is the one that stands in the bytes
  letter_same : (x : ℕ) → x < k → SameEntries n (letter_matrix t x) (letter_entry kinds listed x)
  letter_same x h =
      let now = here_kept kept here in
      subst (λ (m : ℕ). SameEntries m (letter_matrix t x) (letter_entry kinds listed x)) here.states
      (stands_letter now.stands x (subst (λ (m : ℕ). x < m) (sym here.letters) h))

  -- with what was recorded of it
  pub step_list : StepList kinds n listed count
  step_list = record { letters = k; few_letters = place.few_letters; list = all.list; recorded = all.recorded }

  pub mark_place : MarkNeeds kinds n listed count
  mark_place = record { few_states = place.few_states; kinds_long = place.kinds_long; room = all.list.room; few = all.list.few }

  -- ---- the rule

  module _ {laid : List ℕ} (r : RuleLaid kinds n count listed laid) where
    abbrev m : Morphism
    m = laid_rule laid count k

    product_number_lem : (i j : ℕ) → i < count → j < count → ProductNumber n count listed i j (m.product i j)
    product_number_lem i j hi hj = product_number_stays (unchanged_sym r.kept) all.list.few_states all.list.few hi hj (r.products i j hi hj)

    image_number : (x : ℕ) → x < k → StepNumber kinds n listed count 0 x (m.image x)
    image_number x h =
        let few = place.few_letters in
        rw (step_stays r.kept 0 x (omega arith) (omega arith)) (all.recorded.steps 0 x (omega arith) h)

    over_states : {M N : Matrix} → SameEntries n M N → SameEntries t.states M N
    over_states {M} {N} e = subst (λ (c : ℕ). SameEntries c M N) (sym here.states) e

    table : TableOf t (laid_rule laid count k) (matrix_at listed)
    unfolding step_entry
    table = record {
      same_letters = sym here.letters;
      images = λ x h. (image_number x h).below;
      closed = λ i j hi hj. (product_number_lem i j hi hj).below;
      letters = λ x h. over_states (same_trans (letter_same x h) (image_number x h).same);
      products = λ i j hi hj.
          subst (λ (c : ℕ). SameEntries c (product c (matrix_at listed i) (matrix_at listed j)) (matrix_at listed (m.product i j))) (sym here.states)
          (product_number_lem i j hi hj).same;
      apart = closed.apart;
    }

    pub laid_lawful : Lawful (laid_rule laid count k)
    laid_lawful = table_lawful table

    pub laid_matrices : MatricesOf t (laid_rule laid count k) (matrix_at listed)
    laid_matrices = table_matrices table closed.words

    -- its elements are numbered in the order of the list
    pub laid_order : ByFirstWords (laid_rule laid count k)
    laid_order = table_by_first_words table (all.in_order t here)

    -- ---- its marks

    -- the letters play no part in being linked
    linked_more : {s e : ℕ} → Linked (laid_table laid count) s e → Linked (laid_rule laid count k) s e
    linked_more l = linked_alike refl (λ i j hi hj. refl) l

    linked_less : {s e : ℕ} → Linked (laid_rule laid count k) s e → Linked (laid_table laid count) s e
    linked_less l = linked_alike refl (λ i j hi hj. refl) l

    -- the automaton's initial states are those of the bytes
    recurs_here : {R E : Matrix} → Recurs (initial_states kinds n) R E → Recurs t R E
    recurs_here k =
        let h = k.p_inside in
        let hp = subst (λ (c : ℕ). k.p < c) (sym here.states) k.p_inside in
        record {
          p = k.p;
          q = k.q;
          p_inside = hp;
          q_inside = subst (λ (c : ℕ). k.q < c) (sym here.states) k.q_inside;
          p_initial = subst T (sym (here.stands.initials k.p hp)) k.p_initial;
          reached = k.reached;
          returns = k.returns;
        }

    recurs_bytes : {R E : Matrix} → Recurs t R E → Recurs (initial_states kinds n) R E
    recurs_bytes k = record {
      p = k.p;
      q = k.q;
      p_inside = subst (λ (c : ℕ). k.p < c) here.states k.p_inside;
      q_inside = subst (λ (c : ℕ). k.q < c) here.states k.q_inside;
      p_initial = subst T (here.stands.initials k.p k.p_inside) k.p_initial;
      reached = k.reached;
      returns = k.returns;
    }

    -- the matrices are those of the list
    matrix_same : {i : ℕ} → i < count → SameEntries t.states (matrix_at listed i) (matrix_at laid i)
    matrix_same h = let few = all.list.few in over_states (matrix_stays (unchanged_wider (omega arith) (omega arith) r.kept) all.list.few_states (omega arith))

    pub laid_marking : MarkedBy t (laid_rule laid count k) (matrix_at listed) (level 1 (laid_marks laid))
    unfolding level
    laid_marking = record {
      marks = λ s e hs he.
          let b = r.marks s e hs he in (
            λ u. (
              linked_more (b.linked (leb→le 1 _ u)),
              recurs_same (same_sym (matrix_same hs)) (same_sym (matrix_same he)) (recurs_here (b.recurs (leb→le 1 _ u))),
            ),
            λ k. le→leb 1 _ (b.marked (linked_less k.0) (recurs_bytes (recurs_same (matrix_same hs) (matrix_same he) k.1))),
          );
    }

    pub laid_threes : (s e : ℕ) → s < count → e < count → 1 ≤ laid_marks laid s e → laid_marks laid s e ≡ 3
    laid_threes s e hs he h = (r.marks s e hs he).three h

    -- there are no more than 64 matrices
    pub not_rich : MoreMatrices t 64 → ⊥
    not_rich k = let few = all.list.few in omega (arith, (more_matrices laid_lawful laid_matrices 64).0 k)
