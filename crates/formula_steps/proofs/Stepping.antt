-- A step is a making and then a reduction into a slot; what is refused is passed on. Assumes nothing.
use Prim.Native.Nat.{ℕ}
use mathlib.Core.Path.{◌≡◌, refl, sym, ◌∙◌, subst}
use mathlib.Core.Bool.{Bool, true}
use mathlib.Core.List.{List}
use native.Mathlib.Omega.{arith}
use Rattle.answer.specs.Checks.{FirstFailure}
use Rattle.temporal.specs.Formulas.{negation}
use Rattle.board_promises.specs.Boards.{file_at}
use Rattle.promises.specs.declared.Written.{Written}
use Rattle.promises.specs.declared.Written.TheVariants.{Rule as Is-rule, Refused}
use Rattle.formula_promises.specs.Operations.{One, Two, made_of_one, made_of_two}
use Rattle.formula_promises.specs.Checks.{Making, making_checks}
use Rattle.formula_slots.specs.Kept.{OthersKept}
use Rattle.formula_makings.specs.Makings.{told_at, IsWritten, Made, ComplementMade, OneMade, TwoMade}
use Rattle.formula_steps.specs.Steps.{ReducedInto, is_refusal, PassedOn, Negated, OneStep, TwoStep}

-- nothing was done
pub none_touched : (a b : ℕ) (stack : List ℕ) → OthersKept a b stack stack
none_touched a b stack = record { others = λ i p q. refl }

pub refusal_unwritten : (answer : Written) → is_refusal answer ≡ true → IsWritten answer → ⊥
refusal_unwritten (Is-rule end) e w = let z : ◌≡◌ {A = ℕ} 0 1 = cc in omega arith
refusal_unwritten (Refused refusal input place) e w = w

-- a refusal is passed on as it is; else there is the result
pub passed_refusal : {Result : Type 0} (made : Written) {r : Bool} → r ≡ is_refusal made → r ≡ true → PassedOn Result made made
passed_refusal made e t = record { same_answer = refl; result = λ w. absurd (refusal_unwritten made (sym e ∙ t) w) }

pub passed_result : {Result : Type 0} (made : Written) → Result → PassedOn Result made made
passed_result made x = record { same_answer = refl; result = λ w. x }

-- what was made, with what was done after it
pub made_on : {A B Result : Type 0} {letters : ℕ} {makings : List Making} {made answer : Written} → (Result → A → B) → Made letters makings A made → PassedOn Result made answer → Made letters makings B answer
made_on {letters = letters} {makings} after m p = record {
  checked = λ at. subst (λ (w : Written). FirstFailure (making_checks letters at makings) (told_at at w)) (sym p.same_answer) (m.checked at);
  result = λ w.
      let own = subst IsWritten p.same_answer w in
      after (p.result own) (m.result own);
}

module _ {slot : ℕ} {spare exit entry : List ℕ} where
  pub negated_reduced : ComplementMade (file_at entry slot) (file_at spare 0) → ReducedInto slot spare exit → Negated slot entry exit
  negated_reduced m r = record { made = λ letters f file. r.reduced letters (negation f) (m.made letters f file) }

  pub one_settled : (operation : One) {made answer : Written} → OneMade operation (file_at entry slot) (file_at spare 0) made → PassedOn (ReducedInto slot spare exit) made answer
      → (letters : ℕ) → OneStep letters operation slot entry exit answer
  one_settled operation m p letters = record { made = λ f file. made_on (λ (r : ReducedInto slot spare exit) x. r.reduced letters (made_of_one operation f) x) (m.made letters f file) p }

  pub two_settled : (operation : Two) {first second : ℕ} {made answer : Written} → TwoMade operation (file_at entry first) (file_at entry second) (file_at spare 0) made
      → PassedOn (ReducedInto slot spare exit) made answer → (letters : ℕ) → TwoStep letters operation first second slot entry exit answer
  two_settled operation m p letters = record {
    made = λ f g file file'. made_on (λ (r : ReducedInto slot spare exit) x. r.reduced letters (made_of_two operation f g) x) (m.made letters f g file file') p;
  }
