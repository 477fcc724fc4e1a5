-- The checks for repeated transitions, one for each: where the first i transitions are new, the others decide. Assumes nothing.
use Prim.Native.Nat.{ℕ, zero, suc, ◌+◌, ◌-◌, ◌≤◌, ◌<◌}
use mathlib.Core.Path.{◌≡◌, refl, subst}
use mathlib.Core.Logic.{⊎_elim}
use mathlib.Core.List.{List}
use native.Mathlib.Omega.{arith}
use native.Mathlib.Nat.{add-zero}
use borrow.Author.Count.{below_more}
use Rattle.answer.specs.declared.Refusal.TheVariants.{Duplicate}
use Rattle.answer.specs.Checks.{Verdict, passed, refused, FirstFailure}
use Rattle.answer.proofs.Order.{first_passes, first_fails, none_left, passes_head, passes_tail}
use Rattle.finite.proofs.Numbers.{le_or_lt}
use Rattle.formats.specs.AutomatonFile.{transition_at, from_of, letter_of, to_of}
use Rattle.formats.specs.AutomatonChecks.{RepeatedTransitionAt, repeated_checks}

-- the i-th and the j-th transition are the same triple
pub record SameTransition (bytes : List ℕ) (i j : ℕ) : Type 0 where
  pub same_from : from_of bytes i ≡ from_of bytes j
  pub same_letter : letter_of bytes i ≡ letter_of bytes j
  pub same_to : to_of bytes i ≡ to_of bytes j

-- the i-th transition stood before
pub record Stood (bytes : List ℕ) (i : ℕ) : Type 0 where
  pub earlier : ℕ
  pub before : earlier < i
  pub same : SameTransition bytes earlier i

-- no earlier transition is the same triple
pub record Fresh (bytes : List ℕ) (i : ℕ) : Type 0 where
  pub fresh : (j : ℕ) → j < i → SameTransition bytes j i → ⊥

-- the first i transitions differ
pub record AllFresh (bytes : List ℕ) (i : ℕ) : Type 0 where
  pub each : (j : ℕ) → j < i → Fresh bytes j

pub no_transitions : (bytes : List ℕ) → AllFresh bytes 0
no_transitions bytes = record { each = λ j h. absurd (let z : ⊥ = omega arith in z) }

module _ {bytes : List ℕ} where
  -- one more
  pub fresh_more : {i : ℕ} → AllFresh bytes i → Fresh bytes i → AllFresh bytes (i + 1)
  fresh_more {i} all one = record { each = below_more (Fresh bytes) i all.each one }

  -- a new transition hands on
  fresh_passes : (input i count : ℕ) {v : Verdict} → Fresh bytes i → FirstFailure (repeated_checks input bytes (suc i) count) v
      → FirstFailure (repeated_checks input bytes i (suc count)) v
  unfolding repeated_checks
  fresh_passes input i count g f =
      first_passes
      (record { nowhere = λ place r. g.fresh r.earlier r.before (record { same_from = r.same_from; same_letter = r.same_letter; same_to = r.same_to }) })
      f

  -- so do new transitions from the i-th on
  fresh_pass : (input j i count : ℕ) {v : Verdict} → ((l : ℕ) → l < i + j → Fresh bytes l) → FirstFailure (repeated_checks input bytes (i + j) count) v
      → FirstFailure (repeated_checks input bytes i (j + count)) v
  fresh_pass input zero i count {v} g f =
      subst (λ (c : ℕ). FirstFailure (repeated_checks input bytes i c) v) (let e : count ≡ 0 + count = omega arith in e)
      (subst (λ (c : ℕ). FirstFailure (repeated_checks input bytes c count) v) (add-zero i) f)
  fresh_pass input (suc j) i count {v} g f =
      subst (λ (c : ℕ). FirstFailure (repeated_checks input bytes i c) v) (let e : suc (j + count) ≡ suc j + count = omega arith in e)
      (fresh_passes input i (j + count) (g i (omega arith))
      (fresh_pass input j (suc i) count (λ l h. g l (omega arith))
      (subst (λ (c : ℕ). FirstFailure (repeated_checks input bytes c count) v) (let e : i + suc j ≡ suc i + j = omega arith in e) f)))

  -- with the first i transitions new, what the rest says of the count is the verdict
  rest_decides : (input count i : ℕ) {v : Verdict} → i ≤ count → AllFresh bytes i → FirstFailure (repeated_checks input bytes i (count - i)) v
      → FirstFailure (repeated_checks input bytes 0 count) v
  rest_decides input count i {v} h g f =
      subst (λ (c : ℕ). FirstFailure (repeated_checks input bytes 0 c) v) (let e : i + (count - i) ≡ count = omega arith in e)
      (fresh_pass input i 0 (count - i) (λ l a. g.each l (omega arith))
      (subst (λ (c : ℕ). FirstFailure (repeated_checks input bytes c (count - i)) v) (let e : i ≡ 0 + i = omega arith in e) f))

  -- the i-th transition is the first that stood before
  pub repeated_first : (input count i : ℕ) → i < count → AllFresh bytes i → Stood bytes i
      → FirstFailure (repeated_checks input bytes 0 count) (refused Duplicate input (transition_at bytes i))
  unfolding repeated_checks
  repeated_first input count i h g s =
      let some_left : count - i ≡ suc (count - suc i) = omega arith in
      rest_decides input count i (omega arith) g
      (rw some_left
      (first_fails (record { refusal = Duplicate; input = input; Fails = RepeatedTransitionAt bytes i })
      (record {
        earlier = s.earlier;
        before = s.before;
        same_from = s.same.same_from;
        same_letter = s.same.same_letter;
        same_to = s.same.same_to;
        is_place = refl;
      })))

  -- all transitions are new
  pub fresh_all : (input count : ℕ) → AllFresh bytes count → FirstFailure (repeated_checks input bytes 0 count) passed
  unfolding repeated_checks
  fresh_all input count g =
      rest_decides input count count (omega arith) g
      (subst (λ (c : ℕ). FirstFailure (repeated_checks input bytes count c) passed) (let e : 0 ≡ count - count = omega arith in e) none_left)

  -- a transition whose check passes is new
  fresh_of : (input i count : ℕ) → FirstFailure (repeated_checks input bytes i (suc count)) passed → Fresh bytes i
  unfolding repeated_checks
  fresh_of input i count f = record {
    fresh = λ j h s. (passes_head f).nowhere _
        (record { earlier = j; before = h; same_from = s.same_from; same_letter = s.same_letter; same_to = s.same_to; is_place = refl });
  }

  -- so is each from the i-th on
  freshes_of : (input i count : ℕ) → FirstFailure (repeated_checks input bytes i count) passed → (l : ℕ) → i ≤ l → l < i + count → Fresh bytes l
  unfolding repeated_checks
  freshes_of input i zero f l a b = absurd (let z : ⊥ = omega arith in z)
  freshes_of input i (suc count) f l a b =
      ⊎_elim (λ h. freshes_of input (suc i) count (passes_tail f) l h (omega arith))
      (λ h. subst (Fresh bytes) (let e : i ≡ l = omega arith in e) (fresh_of input i count f))
      (le_or_lt (suc i) l)

  -- the checks pass: the transitions differ
  pub passed_fresh : (input count : ℕ) → FirstFailure (repeated_checks input bytes 0 count) passed → AllFresh bytes count
  passed_fresh input count f = record { each = λ j h. freshes_of input 0 count f j (omega arith) (omega arith) }
