-- From a run to paths: between two positions a run on an endless word is a path of the letters there, and it meets a final
-- state if the run is in one at a position from the first to the second. Assumes nothing.
use Prim.Native.Nat.{ℕ, zero, suc, ◌+◌, ◌≤◌}
use mathlib.Core.Path.{◌≡◌, sym, subst}
use mathlib.Core.Logic.{⊎_elim}
use native.Mathlib.Nat.{eq-or-lt_of_le}
use native.Mathlib.Omega.{arith}
use lib.Dec.{T}
use Rattle.theory.proofs.Words.{seg}
use Rattle.buchi.specs.Automata.{Automaton, WordPath, path_end, path_step, FinalPath, final_here, final_later, Run}

module _ {a : Automaton} {α : ℕ → ℕ} (ρ : Run a α) where
  pub run_path : (i n j : ℕ) → i + n ≡ j → WordPath a (seg α i n) (ρ.state i) (ρ.state j)
  unfolding seg
  run_path i zero j e =
      let g : i ≡ j = omega arith in
      subst (λ k. WordPath a (seg α i 0) (ρ.state i) (ρ.state k)) g (path_end (ρ.inside i))
  run_path i (suc n) j e = path_step (ρ.inside i) (ρ.steps i) (run_path (suc i) n j (omega arith))

  -- the run is in a final state at k
  pub run_final : (i n j k : ℕ) → i + n ≡ j → i ≤ k → k ≤ j → T (a.final (ρ.state k)) → FinalPath a (seg α i n) (ρ.state i) (ρ.state j)
  unfolding seg
  run_final i zero j k e l h f =
      let g : k ≡ i = omega arith in
      final_here (subst (λ r. T (a.final (ρ.state r))) g f) (run_path i 0 j e)
  run_final i (suc n) j k e l h f = ⊎_elim here (λ r. later (run_final (suc i) n j k (omega arith) r h f)) (eq-or-lt_of_le l)
    where
      here : i ≡ k → FinalPath a (seg α i (suc n)) (ρ.state i) (ρ.state j)
      here g = final_here (subst (λ r. T (a.final (ρ.state r))) (sym g) f) (run_path i (suc n) j e)

      later : FinalPath a (seg α (suc i) n) (ρ.state (suc i)) (ρ.state j) → FinalPath a (seg α i (suc n)) (ρ.state i) (ρ.state j)
      later d = final_later (ρ.inside i) (ρ.steps i) d
