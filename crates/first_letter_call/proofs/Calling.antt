-- What the calls promise: each number that is refused, and the rule that is written. Assumes nothing.
use Prim.Native.Nat.{ℕ, ◌/◌, ◌%◌, ◌^◌, ◌≤◌, ◌<◌}
use native.Mathlib.Omega.{arith}
use native.Mathlib.Nat.{lt_of_lt_of_le, div-eq_of_lt}
use mathlib.Core.Path.{◌≡◌, refl, sym, ap, subst}
use mathlib.Core.Logic.{inl, inr, ⊎_elim}
use mathlib.Core.List.{List, [], ◌∷◌}
use lib.Dec.{T, eqb}
use lib.Pow.{pow_mono}
use Rattle.finite.proofs.Numbers.{le_or_lt}
use Rattle.answer.specs.declared.Refusal.{Refusal}
use Rattle.answer.specs.declared.Refusal.TheVariants.{CountOutOfRange, EntryOutOfRange, UnknownLetter}
use Rattle.answer.specs.Checks.{Check, Verdict, refused, passed, FirstFailure}
use Rattle.answer.proofs.Order.{first_passes, first_fails, none_left}
use Rattle.promises.specs.declared.Written.{Written}
use Rattle.promises.specs.declared.Written.TheVariants.{Refused}
use Rattle.temporal_promises.specs.FirstLetter.{in_set, letter_count_check, grade_check, ForeignInSetAt, set_check, first_letter_checks, constant_checks, FirstLetterPromise, ConstantPromise}
use Rattle.first_letter_call.specs.Elements.{FirstForeign}

-- a set of 64 bits has no letter from 64 on
pub none_beyond : {set a : ℕ} → set < 2 ^ 64 → 64 ≤ a → T (in_set set a) → ⊥
unfolding in_set
none_beyond {set} {a} h l t =
    let z : set / 2 ^ a ≡ 0 = div-eq_of_lt (lt_of_lt_of_le h (pow_mono l)) in
    subst T (ap (λ (i : ℕ). eqb (i % 2) 1) z) t

-- ---- the checks of both calls

module _ {letters : ℕ} {checks : List Check} where
  pub letters_few : letters < 1 → FirstFailure (letter_count_check letters ∷ checks) (refused CountOutOfRange 1 0)
  letters_few h = first_fails (letter_count_check letters) (record { outside = inl h; is_place = refl })

  pub letters_many : 16 < letters → FirstFailure (letter_count_check letters ∷ checks) (refused CountOutOfRange 1 0)
  letters_many h = first_fails (letter_count_check letters) (record { outside = inr h; is_place = refl })

  pub letters_pass : 1 ≤ letters → letters ≤ 16 → {v : Verdict} → FirstFailure checks v → FirstFailure (letter_count_check letters ∷ checks) v
  letters_pass some few = first_passes (record { nowhere = λ place a. ⊎_elim (λ h. omega arith) (λ h. omega arith) a.outside })

module _ {grade : ℕ} {checks : List Check} where
  pub grade_high : 3 < grade → FirstFailure (grade_check grade ∷ checks) (refused EntryOutOfRange 1 0)
  grade_high h = first_fails (grade_check grade) (record { above = h; is_place = refl })

  pub grade_passes : grade ≤ 3 → {v : Verdict} → FirstFailure checks v → FirstFailure (grade_check grade ∷ checks) v
  grade_passes h = first_passes (record { nowhere = λ place a. omega (arith, a.above) })

module _ {letters set foreign : ℕ} (f : FirstForeign letters set foreign) where
  pub set_foreign : foreign < 64 → FirstFailure (set_check letters set ∷ []) (refused UnknownLetter 1 foreign)
  set_foreign h = first_fails (set_check letters set) (f.here h)

  pub set_passes : set < 2 ^ 64 → 64 ≤ foreign → FirstFailure (set_check letters set ∷ []) passed
  set_passes small h = first_passes (record { nowhere = λ place (a : ForeignInSetAt letters set place). ⊎_elim (λ l. none_beyond small l a.is_in_set) (λ l. f.nowhere h place a.foreign l a.is_in_set) (le_or_lt 64 place) }) none_left

-- ---- the calls

-- a refusal keeps out
module _ {letters set grade : ℕ} {out : List ℕ} {r : Refusal} {place : ℕ} {answer : Written} (e : answer ≡ Refused r 1 place) where
  pub first_refused : FirstFailure (first_letter_checks letters set grade out) (refused r 1 place) → FirstLetterPromise letters set grade out out answer
  first_refused f = subst (FirstLetterPromise letters set grade out out) (sym e) (record { refusal = f; answered = refl })

pub constant_refused : {letters grade : ℕ} {out : List ℕ} {r : Refusal} {place : ℕ} {answer : Written} → answer ≡ Refused r 1 place
    → FirstFailure (constant_checks letters grade out) (refused r 1 place) → ConstantPromise letters grade out out answer
constant_refused {letters} {grade} {out} e f = subst (ConstantPromise letters grade out out) (sym e) (record { refusal = f; answered = refl })
