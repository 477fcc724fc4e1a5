-- Runs and matrices. With R and E the matrices of x and y, E-as-E = E and R-as-E = R: an accepting run on x followed by y for ever
-- exists exactly if for some initial p and some q entry (p, q) of R is not 0 and entry (q, q) of E is 2. Assumes nothing.
use Prim.Native.Nat.{ℕ, zero, suc, pred, ◌+◌, ◌-◌, ◌*◌, ◌≤◌, ◌<◌}
use mathlib.Core.Path.{◌≡◌, refl, ap, subst, ◌∙◌}
use mathlib.Core.List.{List}
use mathlib.Core.Logic.{◌↔◌, ⊎_elim}
use native.Mathlib.Nat.{le-mul_of_pos_right, mul-le-mul_right}
use native.Mathlib.Omega.{arith}
use lib.ListN.{length}
use lib.Dec.{T}
use Rattle.finite.proofs.Pigeonhole.{Collision, pigeonhole}
use Rattle.finite.proofs.Numbers.{below_cases}
use Rattle.theory.specs.Words.{endless}
use Rattle.buchi.specs.Automata.{Automaton, WordPath, FinalPath, Run, FinalFrom, AcceptedBy}
use Rattle.buchi.specs.Matrices.{Matrix, IsMatrix, SameEntries, product}
use Rattle.buchi.specs.Rule.{Recurs}
use Rattle.buchi.proofs.WordMatrices.{matrix_path, matrix_final, path_matrix, final_matrix}
use Rattle.buchi.proofs.LaidRuns.{laid_accepting}
use Rattle.buchi.proofs.RunPaths.{run_path, run_final}
use Rattle.buchi.proofs.Absorption.{round_absorbs, repeat_matrix, round, before_round, from_round}

-- the entries give the run; nothing is asked of the products
pub recurs_accepted : {a : Automaton} {x y : List ℕ} {R E : Matrix} → 0 < length y → IsMatrix a x R → IsMatrix a y E → Recurs a R E → AcceptedBy a x y
recurs_accepted some start cycle k = record {
  accepting = laid_accepting some k.p_initial (matrix_path start k.p_inside k.q_inside k.reached) (matrix_final cycle k.q_inside k.q_inside k.returns);
}

module _ {a : Automaton} {x y : List ℕ} (some : 0 < length y) (k : AcceptedBy a x y) where
  abbrev run : Run a (endless x y)
  run = k.accepting.run

  -- rounds with a final position between each and the next
  chosen : ℕ → ℕ
  chosen zero = 0
  chosen (suc t) = suc (k.accepting.again (round x y (chosen t))).at

  -- the final position after the chosen round t
  final_at_lem : (t : ℕ) → FinalFrom a run.state (round x y (chosen t))
  final_at_lem t = k.accepting.again (round x y (chosen t))

  chosen_suc : (t : ℕ) → chosen (suc t) ≡ suc (final_at_lem t).at
  unfolding chosen final_at_lem
  chosen_suc t = refl

  before_next : (t : ℕ) → (final_at_lem t).at ≤ round x y (chosen (suc t))
  before_next t = omega (arith, chosen_suc t, le-mul_of_pos_right (chosen (suc t)) some)

  chosen_grows : (t : ℕ) → chosen t < chosen (suc t)
  chosen_grows t = omega (arith, chosen_suc t, (final_at_lem t).later, le-mul_of_pos_right (chosen t) some)

  chosen_later : (s t : ℕ) → s < t → chosen (suc s) ≤ chosen t
  chosen_later s zero l = absurd (omega arith)
  chosen_later s (suc t) l =
      ⊎_elim (λ (e : s ≡ t). subst (λ r. chosen (suc s) ≤ chosen (suc r)) e (omega arith))
      (λ h. omega (arith, chosen_later s t h, chosen_grows t))
      (below_cases l)

  -- the states at the chosen rounds
  state_at_lem : ℕ → ℕ
  state_at_lem t = run.state (round x y (chosen t))

  module _ {R E : Matrix} (start : IsMatrix a x R) (cycle : IsMatrix a y E)
      (square : SameEntries a.states (product a.states E E) E) (stays : SameEntries a.states (product a.states R E) R) where
    -- from the beginning to a chosen round
    reached : (t : ℕ) → ¬ (R (run.state 0) (state_at_lem t) ≡ 0)
    unfolding state_at_lem
    reached t =
        path_matrix (round_absorbs cycle stays (chosen t) x start)
        (subst (λ w. WordPath a w (run.state 0) (run.state (round x y (chosen t)))) (before_round x y some (chosen t))
        (run_path run 0 (round x y (chosen t)) (round x y (chosen t)) (omega arith)))

    -- from a chosen round to a later one
    returns : (s t : ℕ) → s < t → E (state_at_lem s) (state_at_lem t) ≡ 2
    unfolding state_at_lem
    returns s t l =
        let h : chosen (suc s) ≤ chosen t = chosen_later s t l in
        let g : chosen s < chosen (suc s) = chosen_grows s in
        let c : ℕ = pred (chosen t - chosen s) in
        let e : suc c + chosen s ≡ chosen t = omega arith in
        between (chosen s) (chosen t) c e (final_at_lem s).at (final_at_lem s).later (omega (arith, before_next s, mul-le-mul_right (length y) h)) (final_at_lem s).ends_final
      where
        between : (i j c : ℕ) → suc c + i ≡ j → (n : ℕ) → round x y i ≤ n → n ≤ round x y j → T (a.final (run.state n))
            → E (run.state (round x y i)) (run.state (round x y j)) ≡ 2
        between i j c e n l h f =
            let g : (suc c + i) * length y ≡ j * length y = ap (λ n. n * length y) e in
            let e' : round x y i + suc c * length y ≡ round x y j = omega arith in
            final_matrix (repeat_matrix cycle square c)
            (subst (λ w. FinalPath a w (run.state (round x y i)) (run.state (round x y j))) (from_round x y some i (suc c))
            (run_final run (round x y i) (suc c * length y) (round x y j) n e' l h f))

    -- two chosen rounds have one state
    meeting : Collision a.states state_at_lem → Recurs a R E
    unfolding state_at_lem
    meeting d = record {
      p = run.state 0;
      q = state_at_lem d.i;
      p_inside = run.inside 0;
      q_inside = run.inside (round x y (chosen d.i));
      p_initial = run.starts;
      reached = reached d.i;
      returns = ap (E (state_at_lem d.i)) d.same ∙ returns d.i d.j d.order;
    }

    accepting_recurs : Recurs a R E
    unfolding state_at_lem
    accepting_recurs = meeting (pigeonhole a.states state_at_lem (λ t h. run.inside (round x y (chosen t))))

module _ {a : Automaton} {x y : List ℕ} {R E : Matrix} (some : 0 < length y) (start : IsMatrix a x R) (cycle : IsMatrix a y E)
    (square : SameEntries a.states (product a.states E E) E) (stays : SameEntries a.states (product a.states R E) R) where
  -- the run gives the entries
  pub accepted_recurs : AcceptedBy a x y → Recurs a R E
  accepted_recurs k = accepting_recurs some k start cycle square stays

  pub recurrence : AcceptedBy a x y ↔ Recurs a R E
  recurrence = (accepted_recurs, recurs_accepted some start cycle)
