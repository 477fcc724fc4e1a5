-- The lent buffers: the check of each, and what is left in them. Assumes nothing.
use Prim.Native.Nat.{ℕ, ◌≤◌, ◌<◌}
use mathlib.Core.Path.{◌≡◌, refl, ap, ◌∙◌, subst}
use mathlib.Core.Bool.{Bool, true, false, ◌||◌}
use mathlib.Core.Logic.{◌⊎◌, ⊎_elim, by_cases}
use mathlib.Core.List.{List, ◌∷◌, ◌++◌}
use native.Mathlib.Omega.{arith}
use native.Mathlib.Decide.{dec_lt}
use borrow.Author.Tests.{lt-ltb, le-ltb}
use lib.ListN.{length}
use lib.Dec.{ltb}
use Rattle.answer.specs.declared.Refusal.TheVariants.{BufferTooShort}
use Rattle.answer.specs.Checks.{Check, Verdict, refused, FirstFailure}
use Rattle.formats.specs.RuleChecks.{buffer_check}
use Rattle.formats.proofs.Buffers.{buffer_short, buffer_long}
use Rattle.formula_promises.specs.Checks.{lent_checks}
use Rattle.formula_promises.specs.FormulaRule.{some_short}
use Rattle.formula_slots.specs.Slots.{LentRoom}
use Rattle.formula_call.specs.Calling.{LongEnough, LentAnswer}

-- one buffer is short, or the others decide
short_step : {needed : ℕ} {B : Type 0} (buffer : List ℕ) {checks : List Check} → (length buffer < needed) ⊎ B → (B → FirstFailure checks (refused BufferTooShort 1 0))
    → FirstFailure (buffer_check needed buffer ∷ checks) (refused BufferTooShort 1 0)
short_step {needed} buffer s more =
    by_cases (dec_lt (length buffer) needed) (λ h. buffer_short h) (λ f. buffer_long (omega arith) (⊎_elim (λ h. absurd (f h)) more s))

or_true : (b : Bool) → (b || true) ≡ true
or_true true = refl
or_true false = refl

short_or : {a needed : ℕ} {B : Type 0} {x : Bool} → (a < needed) ⊎ B → (B → x ≡ true) → (ltb a needed || x) ≡ true
short_or {a} {needed} {x = x} s more = ⊎_elim (λ h. ap (λ (b : Bool). b || x) (lt-ltb a needed h)) (λ t. ap (λ (b : Bool). ltb a needed || b) (more t) ∙ or_true (ltb a needed)) s

long_or : {a needed : ℕ} {x : Bool} → needed ≤ a → x ≡ false → (ltb a needed || x) ≡ false
long_or {a} {needed} {x} h e = ap (λ (b : Bool). b || x) (le-ltb a needed h) ∙ e

module _ (out stack spare classes scratch : List ℕ) (b : Bool) (answer : LentAnswer (length out) (length stack) (length spare) (length classes) (length scratch) b) where
  module _ (e : b ≡ true) where
    some : LentAnswer (length out) (length stack) (length spare) (length classes) (length scratch) true
    some = subst (LentAnswer (length out) (length stack) (length spare) (length classes) (length scratch)) e answer

    pub lent_refused : {checks : List Check} → FirstFailure (lent_checks out stack spare classes scratch ++ checks) (refused BufferTooShort 1 0)
    lent_refused = short_step out some (λ s. short_step stack s (λ t. short_step spare t (λ u. short_step classes u (λ h. buffer_short h))))

    pub some_short_lem : some_short out stack spare classes scratch ≡ true
    unfolding some_short
    some_short_lem = short_or some (λ s. short_or s (λ t. short_or t (λ u. short_or u (λ h. lt-ltb _ _ h))))

  module _ (e : b ≡ false) where
    pub all_long : LongEnough (length out) (length stack) (length spare) (length classes) (length scratch)
    all_long = subst (LentAnswer (length out) (length stack) (length spare) (length classes) (length scratch)) e answer

    pub lent_room : LentRoom stack spare classes scratch
    lent_room = record { stack_room = all_long.stack_long; spare_room = all_long.spare_long; classes_room = all_long.classes_long; scratch_room = all_long.scratch_long }

    pub lent_passed : {checks : List Check} {v : Verdict} → FirstFailure checks v → FirstFailure (lent_checks out stack spare classes scratch ++ checks) v
    lent_passed f =
        buffer_long all_long.out_long (buffer_long all_long.stack_long (buffer_long all_long.spare_long (buffer_long all_long.classes_long (buffer_long all_long.scratch_long f))))

    pub none_short : some_short out stack spare classes scratch ≡ false
    unfolding some_short
    none_short = long_or all_long.out_long (long_or all_long.stack_long (long_or all_long.spare_long (long_or all_long.classes_long (le-ltb _ _ all_long.scratch_long))))
