-- Small automata held against the definitions: an idle initial state beside a looping final one accepts nothing, and M10
-- accepts 1 and then 0 for ever and not 0 and then 1 for ever. Assumes nothing.
use Prim.Native.Nat.{ℕ, zero, suc}
use mathlib.Core.Path.{◌≡◌, sym, ◌∙◌}
use mathlib.Core.Bool.{cond}
use mathlib.Core.List.{List, [], ◌∷◌}
use native.Mathlib.Omega.{arith}
use lib.Dec.{eqb}
use mir.Facts.{eqb_yes}
use Rattle.theory.proofs.Periods.{same_cycle}
use Rattle.buchi.specs.Automata.{Automaton, Run, AcceptingRun, AcceptedBy}
use Rattle.buchi.proofs.LassoRuns.{accepted_same}
use Rattle.buchi.proofs.MatrixTests.{run_test_intro, run_test_elim}
use Rattle.buchi.proofs.Computing.{testing}

-- "An automaton with an idle initial state and a looping final one": each state steps to itself only
abbrev pub idle : ℕ → Automaton
idle k = record { states = 2; letters = k; initial = λ p. eqb p 0; final = λ p. eqb p 1; step = λ p x q. eqb p q }

-- a run stays in the initial state
idle_stays : {k : ℕ} {α : ℕ → ℕ} (r : Run (idle k) α) → (i : ℕ) → r.state i ≡ 0
idle_stays r zero = eqb_yes r.starts
idle_stays r (suc i) = sym (eqb_yes (r.steps i)) ∙ idle_stays r i

-- "accepts nothing"
pub idle_refuses : {k : ℕ} {α : ℕ → ℕ} → ¬ AcceptingRun (idle k) α
idle_refuses k =
    let f = k.again 0 in
    let e : k.run.state f.at ≡ 1 = eqb_yes f.ends_final in
    omega (arith, idle_stays k.run f.at)

pub idle_no_lasso : {k : ℕ} {u v : List ℕ} → ¬ AcceptedBy (idle k) u v
idle_no_lasso k = idle_refuses k.accepting

-- M10: "state 0 initial, state 1 final, letter 0 to state 1, letter 1 to state 0, from either"
abbrev pub M10 : Automaton
M10 = record { states = 2; letters = 2; initial = λ p. eqb p 0; final = λ p. eqb p 1; step = λ p x q. cond (eqb x 0) (eqb q 1) (eqb q 0) }

pub M10_accepts : AcceptedBy M10 (1 ∷ []) (0 ∷ [])
unfolding testing
M10_accepts = run_test_elim M10 (1 ∷ []) (0 ∷ []) 1 (omega arith) (omega arith) (omega arith) tt tt

pub M10_refuses : ¬ AcceptedBy M10 (0 ∷ []) (1 ∷ [])
unfolding testing
M10_refuses k = run_test_intro M10 (0 ∷ []) (1 ∷ []) 1 (omega arith) (omega arith) (omega arith) tt k

-- with an empty start: 0 for ever is accepted, and 1 for ever is not
pub M10_accepts_cycle : AcceptedBy M10 [] (0 ∷ [])
unfolding testing
M10_accepts_cycle =
    accepted_same (same_cycle (0 ∷ []) (omega arith)) (run_test_elim M10 (0 ∷ []) (0 ∷ []) 1 (omega arith) (omega arith) (omega arith) tt tt)

pub M10_refuses_cycle : ¬ AcceptedBy M10 [] (1 ∷ [])
unfolding testing
M10_refuses_cycle k =
    run_test_intro M10 (1 ∷ []) (1 ∷ []) 1 (omega arith) (omega arith) (omega arith) tt (accepted_same (λ i. sym (same_cycle (1 ∷ []) (omega arith) i)) k)
