-- Answers that tell whether a fact holds: there is one. Assumes nothing.
use Prim.Native.Nat.{ℕ}
use mathlib.Core.Path.{◌≡◌, refl}
use mathlib.Core.Bool.{Bool, true, false}
use mathlib.Core.Logic.{◌↔◌}
use native.Mathlib.Omega.{arith}
use Rattle.finite.specs.Tells.{Tells}

pub told_yes : {P : Type 0} → P → Tells P true
told_yes p = record { holds = λ e. p; fails = λ e. absurd (let z : ◌≡◌ {A = ℕ} 0 1 = cc in omega arith) }

pub told_no : {P : Type 0} → (P → ⊥) → Tells P false
told_no f = record { holds = λ e. absurd (let z : ◌≡◌ {A = ℕ} 0 1 = cc in omega arith); fails = λ e. f }

pub one_telling : {P : Type 0} (a b : Bool) → Tells P a → Tells P b → a ≡ b
one_telling true true p q = refl
one_telling false false p q = refl
one_telling true false p q = absurd (q.fails refl (p.holds refl))
one_telling false true p q = absurd (p.fails refl (q.holds refl))

-- facts that hold together are told by one answer
pub tells_same : {P Q : Type 0} {answer : Bool} → P ↔ Q → Tells P answer → Tells Q answer
tells_same w t = record { holds = λ e. w.0 (t.holds e); fails = λ e q. t.fails e (w.1 q) }
