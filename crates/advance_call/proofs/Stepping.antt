-- A step by its kind, and the checks of a word by its fault. Assumes nothing.
use Prim.Native.Nat.{ℕ, ◌≤◌, ◌<◌}
use mathlib.Core.Path.{◌≡◌, sym, subst}
use mathlib.Core.Bool.{Bool, true, false}
use native.Mathlib.Omega.{arith}
use Rattle.promises.specs.declared.Step.{Step}
use Rattle.promises.specs.declared.Step.TheVariants.{Event, Mark, Stay}
use Rattle.promises.specs.Advance.{ForeignStep}
use Rattle.advance_call.specs.Advancing.{ForeignAnswer}

module _ {step : Step} (k : ℕ) where
  pub event_foreign : {letter : ℕ} → step ≡ Event letter → k ≤ letter → ForeignAnswer k step true
  event_foreign e h = subst (ForeignStep k) (sym e) h

  pub event_known : {letter : ℕ} → step ≡ Event letter → letter < k → ForeignAnswer k step false
  event_known {letter} e h = subst (λ (s : Step). ForeignStep k s → ⊥) (sym e) (λ g. omega arith)

  pub mark_known : step ≡ Mark → ForeignAnswer k step false
  mark_known e = subst (λ (s : Step). ForeignStep k s → ⊥) (sym e) (λ g. g)

  pub stay_known : step ≡ Stay → ForeignAnswer k step false
  stay_known e = subst (λ (s : Step). ForeignStep k s → ⊥) (sym e) (λ g. g)

pub said_foreign : (k : ℕ) (step : Step) (b : Bool) → ForeignAnswer k step b → b ≡ true → ForeignStep k step
said_foreign k step b f e = subst (ForeignAnswer k step) e f

pub said_known : (k : ℕ) (step : Step) (b : Bool) → ForeignAnswer k step b → b ≡ false → ForeignStep k step → ⊥
said_known k step b f e = subst (ForeignAnswer k step) e f
