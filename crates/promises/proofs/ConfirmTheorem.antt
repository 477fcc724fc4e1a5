-- The theorem on reductions made elsewhere, from what gets yes and what gets no. Assumes nothing.
use Prim.Native.Nat.{ℕ}
use mathlib.Core.List.{List}
use Rattle.promises.specs.Weak.{WeakAt}
use Rattle.promises.specs.ConfirmTheorem.{Judged, ConfirmTheorem}
use Rattle.promises.proofs.Confirmed.{right_confirmed, wrong_denied, renumbered_reduces, own_confirmed}
use Rattle.promises.proofs.NotConfirmed.{other_length, foreign_number, other_letters, second_not_strong}

not_weak : {first second entry : List ℕ} → Judged first second entry → (place : ℕ) → ¬ WeakAt first place
not_weak j place w = w.weak j.first_strong

pub confirm_theorem : ConfirmTheorem
confirm_theorem = record {
  right = λ first second map entry exit j r answer p. right_confirmed first second map entry exit j.room j.first_passes j.second_passes (not_weak j) r answer p;
  wrong = λ first second map entry exit j w answer p. wrong_denied first second map entry exit j.room j.first_passes j.second_passes (not_weak j) w answer p;
  own = λ bytes out out' map map' entry exit file moved entry' exit' end p front map-front room answer q. own_confirmed p front map-front room answer q;
  renumbered = λ bytes out out' map map' end a second moved law strong same to long entries. renumbered_reduces a law strong same to long entries;
  other_length = λ first second map f. other_length f;
  foreign_number = λ first second map s h foreign. foreign_number h foreign;
  other_letters = λ first second map f. other_letters f;
  weak_second = λ first second map f. second_not_strong f;
}
