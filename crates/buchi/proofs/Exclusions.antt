-- What the definitions of paths, runs, matrices and rules of automata leave out: for each a case that it excludes, and for one
-- that asks several things a case for each. Assumes nothing.
use Prim.Native.Nat.{ℕ, zero, suc, ◌≤◌, ◌<◌}
use mathlib.Core.Path.{◌≡◌, refl}
use mathlib.Core.Bool.{true, false}
use mathlib.Core.List.{[], ◌∷◌}
use native.Mathlib.Omega.{arith}
use lib.Dec.{T, eqb}
use mir.Facts.{eqb_yes}
use Rattle.theory.specs.Words.{over_nil, over_cons}
use Rattle.theory.specs.Rules.{Pairs, none, element, level, join, value}
use Rattle.theory.proofs.SmallRules.{table, W, Z, Z₀, W₀, W₀_lawful}
use Rattle.theory.proofs.Computing.{over_test, lasso_test, lasso_elim}
use Rattle.theory.proofs.EveryLasso.{one}
use Rattle.theory.proofs.Exclusions.{no_word}
use Rattle.buchi.specs.Automata.{Automaton, WordPath, FinalPath, final_here, final_later, path_end, path_step, AcceptingRun}
use Rattle.buchi.specs.Matrices.{Matrix, IsEntry}
use Rattle.buchi.specs.Rule.{MatricesOf, Recurs, MarkedBy, AcceptsRuns, MoreMatrices}
use Rattle.buchi.specs.RuleAutomaton.{is_value, is_state, value_number, numbered_value, letter_then, then_cycle, leads, state_number, state_rest, state_cycle, numbers_state, transition, rule_automaton}
use Rattle.buchi.proofs.Paths.{path_from}
use Rattle.buchi.proofs.Products.{same_trans, same_or_other}
use Rattle.buchi.proofs.WordMatrices.{entry_unique, path_matrix, final_matrix, letter_is_matrix, matrix_unique, matrix_of, word_is_matrix}
use Rattle.buchi.proofs.MatrixTests.{same_elim, recurs_intro}
use Rattle.buchi.proofs.AutomatonRule.{elements_reached}
use Rattle.buchi.proofs.Numberings.{matrices_size}
use Rattle.buchi.proofs.Computing.{testing}
use Rattle.buchi.proofs.Examples.{idle, M10, M10_accepts}
use Rattle.buchi.proofs.ExampleRule.{M10_matrix, M10_table, M10_lawful, M10_three, M10_marked}

-- ---- paths

-- no path through a number that is no state, and none without a transition
pub no_state : ¬ WordPath M10 [] 2 2
no_state d = omega (arith, path_from d)

pub no_transition : ¬ WordPath M10 (0 ∷ []) 0 0
unfolding testing
no_transition d = path_matrix (letter_is_matrix M10 0) d refl

-- both ends of a path count: of letter 0 from state 0 the last, of letter 1 from state 1 the first
pub last_end : FinalPath M10 (0 ∷ []) 0 1
last_end = final_later {p = 0} (omega arith) tt (final_here tt (path_end {p = 1} (omega arith)))

pub first_end : FinalPath M10 (1 ∷ []) 1 0
first_end = final_here tt (path_step {p = 1} (omega arith) tt (path_end {p = 0} (omega arith)))

-- a path of states that are not final meets none
pub no_final : ¬ FinalPath M10 (1 ∷ []) 0 0
unfolding testing
no_final d =
    let e : ◌≡◌ {A = ℕ} 1 2 = final_matrix (letter_is_matrix M10 1) d in
    omega arith

-- ---- runs

-- no initial state
pub no_initial : {α : ℕ → ℕ} → ¬ AcceptingRun (record { states = 1; letters = 1; initial = λ p. false; final = λ p. true; step = λ p x q. true }) α
no_initial k = k.run.starts

-- no transition with the letter 0, which is read again and again
pub no_step : ¬ AcceptingRun (record { states = 1; letters = 2; initial = λ p. true; final = λ p. true; step = λ p x q. eqb x 1 }) (λ i. 0)
no_step k = k.run.steps 0

-- a transition to a number that is no state
pub no_state_run : {α : ℕ → ℕ} → ¬ AcceptingRun (record { states = 1; letters = 1; initial = λ p. true; final = λ p. true; step = λ p x q. eqb q 1 }) α
no_state_run k =
    let e : k.run.state 1 ≡ 1 = eqb_yes (k.run.steps 0) in
    omega (arith, k.run.inside 1)

-- a final state that is met once, and not again
pub met_once : {α : ℕ → ℕ} → ¬ AcceptingRun (record { states = 2; letters = 1; initial = λ p. eqb p 0; final = λ p. eqb p 0; step = λ p x q. eqb q 1 }) α
met_once k = later (k.again 1).at (k.again 1).later (k.again 1).ends_final
  where
    later : (i : ℕ) → 1 ≤ i → ¬ T (eqb (k.run.state i) 0)
    later zero l f = omega arith
    later (suc i) l f =
        let e : k.run.state (suc i) ≡ 1 = eqb_yes (k.run.steps i) in
        let e' : k.run.state (suc i) ≡ 0 = eqb_yes f in
        omega arith

-- ---- matrices

-- of letter 0 from state 0 to state 1 the entry is 2, not 1; of letter 1 from 0 to 0 it is 1, not 2; from 0 to 1 it is 0
module _ {k : ℕ} where
  pub entry_two : IsEntry M10 (0 ∷ []) 0 1 k → k ≡ 2
  unfolding testing
  entry_two e = entry_unique e ((letter_is_matrix M10 0).entries 0 1 (omega arith) (omega arith))

  pub entry_one : IsEntry M10 (1 ∷ []) 0 0 k → k ≡ 1
  unfolding testing
  entry_one e = entry_unique e ((letter_is_matrix M10 1).entries 0 0 (omega arith) (omega arith))

  pub entry_zero : IsEntry M10 (1 ∷ []) 0 1 k → k ≡ 0
  unfolding testing
  entry_zero e = entry_unique e ((letter_is_matrix M10 1).entries 0 1 (omega arith) (omega arith))

-- ---- rules

-- M10's two letters have different matrices: no table gives them one element
pub one_for_two : {matrix : ℕ → Matrix} → ¬ MatricesOf M10 (one 2) matrix
unfolding testing value join
one_for_two m =
    let a = (m.each_word (0 ∷ []) 0 (over_cons (omega arith) over_nil) refl).entries 0 1 (omega arith) (omega arith) in
    let b = (m.each_word (1 ∷ []) 0 (over_cons (omega arith) over_nil) refl).entries 0 1 (omega arith) (omega arith) in
    omega (arith, entry_two a, entry_zero b)

-- the words 0 and 0 0 have one matrix in the idle automaton: no table gives them two elements
pub two_for_one : {matrix : ℕ → Matrix} → ¬ MatricesOf (idle 1) Z₀ matrix
unfolding testing value join
two_for_one {matrix} m =
    let zero_one = m.each_word (0 ∷ []) 1 (over_cons (omega arith) over_nil) refl in
    let zero-two = m.each_word (0 ∷ 0 ∷ []) 0 (over_cons (omega arith) (over_cons (omega arith) over_nil)) refl in
    let first = word_is_matrix (idle 1) (0 ∷ []) (omega arith) in
    let second = word_is_matrix (idle 1) (0 ∷ 0 ∷ []) (omega arith) in
    same_or_other
    (same_trans (matrix_unique zero-two second) (same_trans (same_elim 2 (matrix_of (idle 1) (0 ∷ 0 ∷ [])) (matrix_of (idle 1) (0 ∷ [])) tt) (matrix_unique first zero_one)))
    (m.apart 0 1 (omega arith) (omega arith) (λ e. omega arith))

-- an element that is no word's value has no matrix
pub stray_element : {a : Automaton} {matrix : ℕ → Matrix} → ¬ MatricesOf a W₀ matrix
stray_element m = no_word ((elements_reached W₀_lawful m).word_of 1 (omega arith))

-- other letters
pub other_letters : {k : ℕ} {matrix : ℕ → Matrix} → k < 2 → ¬ MatricesOf M10 (one k) matrix
other_letters l m = omega (arith, m.same_letters)

-- in the idle automaton the final state returns to itself, and is not reached from an initial one
pub not_reached : ¬ Recurs (idle 1) (matrix_of (idle 1) (0 ∷ [])) (matrix_of (idle 1) (0 ∷ []))
unfolding testing
not_reached = recurs_intro (idle 1) _ _

-- M10 returns to state 0 by letter 1, and meets no final state there
pub not_final : ¬ Recurs M10 (matrix_of M10 (1 ∷ [])) (matrix_of M10 (1 ∷ []))
unfolding testing
not_final = recurs_intro M10 _ _

-- a pair that is not linked is not marked, and one that is marked by document 01 is
pub unlinked_marked : ¬ MarkedBy M10 M10_table M10_matrix (λ s e. true)
unlinked_marked k =
    let e : ◌≡◌ {A = ℕ} 0 1 = ((k.marks 1 0 (omega arith) (omega arith)).0 tt).0.stays in
    omega arith

pub marks_left_out : ¬ MarkedBy M10 M10_table M10_matrix (λ s e. false)
unfolding testing level
marks_left_out k = (k.marks 0 0 (omega arith) (omega arith)).1 ((M10_marked.marks 0 0 (omega arith) (omega arith)).0 tt)

-- a rule without marks does not accept M10's lassos
pub no_marks : ¬ AcceptsRuns M10 M10_table (λ s e. false)
unfolding lasso_test over_test
no_marks k = ((k.accepts (1 ∷ []) (0 ∷ []) (lasso_elim 2 (1 ∷ []) (0 ∷ []) tt)).1 M10_accepts).has_mark

-- M10 has no more than 3 matrices
pub no_fourth : ¬ MoreMatrices M10 3
no_fourth k = omega (arith, matrices_size M10_lawful M10_three 3 k)

-- ---- the automaton of a rule

-- in Z 1·1 is 0, so (0, 1) is no state; and with two elements (2, 0) is none
pub not_idempotent : is_state Z (element 0) 1 ≡ false
unfolding is_state is_value
not_idempotent = refl

pub not_an_element : is_state Z (element 2) 0 ≡ false
unfolding is_state is_value
not_an_element = refl

-- so its number is not initial, whatever is marked, and no transition leads from it, though h(0) = 1 = 0·1
pub not_initial : (P : Pairs) → (rule_automaton Z P).initial (state_number Z (element 0) 1) ≡ false
unfolding rule_automaton numbers_state is_state is_value state_number state_rest state_cycle value_number numbered_value
not_initial P = refl

pub not_left : transition Z (state_number Z (element 0) 1) 0 (state_number Z none 1) ≡ false
unfolding transition numbers_state is_state is_value state_number state_rest state_cycle value_number numbered_value
not_left = refl

-- from W's (1, 0), not linked, letter 1 leads to none by h(1) = s and letter 0 by h(0) = se; from (none, 0) letter 1 does not
pub leads_by_rest : leads W (element 1) 0 1 none ≡ true
unfolding leads letter_then then_cycle value_number join
leads_by_rest = refl

pub leads_by_cycle : leads W (element 1) 0 0 none ≡ true
unfolding leads letter_then then_cycle value_number join
leads_by_cycle = refl

pub leads_nowhere : leads W none 0 1 none ≡ false
unfolding leads letter_then then_cycle value_number join
leads_nowhere = refl

-- where each product is its left factor, h(0)·1 is 0 and not 1
pub letter_in_front : leads (table ((0 ∷ 0 ∷ []) ∷ (1 ∷ 1 ∷ []) ∷ []) (0 ∷ [])) (element 1) 0 0 (element 1) ≡ false
unfolding leads letter_then then_cycle value_number join
letter_in_front = refl

-- and where each is its right factor, 1·0 is 0: from (1, 0) letter 0 leads to none by h(0) = se
pub cycle_behind : leads (table ((0 ∷ 1 ∷ []) ∷ (0 ∷ 1 ∷ []) ∷ []) (0 ∷ [])) (element 1) 0 0 none ≡ true
unfolding leads letter_then then_cycle value_number join
cycle_behind = refl
