-- Whether a notice is of a refusal, by its kind. Assumes nothing.
use Prim.Native.Nat.{ℕ}
use mathlib.Core.Path.{◌≡◌, sym, ◌∙◌, subst}
use mathlib.Core.Bool.{Bool, true, false}
use native.Mathlib.Omega.{arith}
use Rattle.answer.specs.declared.Refusal.{Refusal}
use Rattle.board_promises.specs.declared.Notice.{Notice}
use Rattle.board_promises.specs.declared.Notice.TheVariants.{Done, Refused}
use Rattle.board_answers.specs.Answers.{RefusesAnswer}

-- a refusal is not done
pub not_done : {refusal : Refusal} {input place : ℕ} → Refused refusal input place ≡ Done → ⊥
not_done e = let z : ◌≡◌ {A = ℕ} 0 1 = cc in omega arith

pub refused_not_done : {notice : Notice} {refusal : Refusal} {input place : ℕ} → notice ≡ Refused refusal input place → notice ≡ Done → ⊥
refused_not_done e done = not_done (sym e ∙ done)

module _ (notice : Notice) (flag : Bool) (a : RefusesAnswer notice flag) where
  pub said_refuses : flag ≡ true → notice ≡ Done → ⊥
  said_refuses e = subst (RefusesAnswer notice) e a

  pub said_done : flag ≡ false → notice ≡ Done
  said_done e = subst (RefusesAnswer notice) e a
