-- The answer of the look at a word of events, known by its case. Assumes nothing.
use Rattle.std.specs.Prelude.{Result, Ok, Err}
use Rattle.answer.specs.declared.Fault.{Fault}
use Rattle.answer.proofs.Parts.{fault_by}
use Prim.Native.Nat.{ℕ}
use mathlib.Core.Path.{◌≡◌, subst}
use mathlib.Core.List.{List}
use Rattle.answer.specs.declared.Refusal.{Refusal}
use Rattle.monitor_steps.specs.Steps.{GoodLog, LogAnswer}

module _ (k : ℕ) (w : List ℕ) (fault : Result (Unit {0}) Fault) (known : LogAnswer k w fault) where
  pub said_good_log : fault ≡ (Ok tt) → GoodLog k w
  said_good_log e = subst (LogAnswer k w) e known

  pub said_bad_log : {r : Refusal} {place : ℕ} → fault ≡ Err (fault_by r place) → LogAnswer k w (Err (fault_by r place))
  said_bad_log e = subst (LogAnswer k w) e known
