-- Limits on what a refusal says. Where each check of a list keeps to them whenever the checks before it pass, every refusal that the
-- list comes to does. Assumes nothing.
use Prim.Native.Nat.{ℕ, ◌≤◌}
use native.Mathlib.Omega.{arith}
use mathlib.Core.Path.{◌≡◌, subst}
use mathlib.Core.List.{List, [], ◌∷◌, ◌++◌}
use Rattle.answer.specs.declared.Refusal.{Refusal}
use Rattle.answer.specs.declared.Refusal.TheVariants.{Truncated, CountOutOfRange, EntryOutOfRange, TrailingBytes, NotAssociative, Unreachable, NotLinked, Duplicate, UnknownLetter, WordLength, NotStrong, BufferTooShort, TooManyMatrices, NameOutOfRange, NameNeverKept, NoSuchState, LettersDiffer, TooManyPairs, LimitOutOfRange, NameNotFree, NameNotPresent, TooManyClasses, UnbalancedFormula}
use Rattle.answer.specs.Refusals.{number_of}
use Rattle.answer.specs.Checks.{passed, numbered, Check, Passes, first_of, FirstFailure}
use Rattle.answer.proofs.Order.{FirstCase, decides_now, hands_on, first_case, first_passes, first_fails, none_left}
use Rattle.answer.proofs.Verdicts.{not_passed}

-- every refusal that the checks come to keeps to the limits, which speak of its input and its place
pub record Limited (Within : ℕ → ℕ → Type 0) (checks : List Check) : Type 0 where
  pub refusals : (number input place : ℕ) → FirstFailure checks (numbered number input place) → Within input place

module _ {Within : ℕ → ℕ → Type 0} where
  pub limited_nil : Limited Within []
  unfolding first_of
  limited_nil = record { refusals = λ number input place f. absurd (not_passed f.decided) }

  -- one check more in front
  pub limited_cons : {c : Check} {checks : List Check} → ((place : ℕ) → c.Fails place → Within c.input place) → (Passes c → Limited Within checks)
      → Limited Within (c ∷ checks)
  limited_cons {c} {checks} here later = record { refusals = λ number input place f. go number input place (first_case f) }
    where
      go : (number input place : ℕ) → FirstCase c checks (numbered number input place) → Within input place
      go number input place (decides_now r) =
          let e = r.verdict in
          let ei : c.input ≡ input = cc in
          let ep : r.place ≡ place = cc in
          subst (λ (x : ℕ). Within x place) ei (subst (Within c.input) ep (here r.place r.fails))
      go number input place (hands_on p f) = (later p).refusals number input place f

  -- more checks behind
  pub limited_append : (before : List Check) {after : List Check} → Limited Within before → (FirstFailure before passed → Limited Within after)
      → Limited Within (before ++ after)
  limited_append [] first later = later none_left
  limited_append (c ∷ before) {after} first later =
      limited_cons (λ place f. first.refusals _ _ place (first_fails c f))
      (λ p. limited_append before (record { refusals = λ number input place f. first.refusals number input place (first_passes p f) }) (λ f. later (first_passes p f)))

-- the numbers of the table are 1 to 24
pub number_range : (r : Refusal) → (1 ≤ number_of r) × (number_of r ≤ 24)
number_range Truncated = (omega arith, omega arith)
number_range CountOutOfRange = (omega arith, omega arith)
number_range EntryOutOfRange = (omega arith, omega arith)
number_range TrailingBytes = (omega arith, omega arith)
number_range NotAssociative = (omega arith, omega arith)
number_range Unreachable = (omega arith, omega arith)
number_range NotLinked = (omega arith, omega arith)
number_range Duplicate = (omega arith, omega arith)
number_range UnknownLetter = (omega arith, omega arith)
number_range WordLength = (omega arith, omega arith)
number_range NotStrong = (omega arith, omega arith)
number_range BufferTooShort = (omega arith, omega arith)
number_range TooManyMatrices = (omega arith, omega arith)
number_range NameOutOfRange = (omega arith, omega arith)
number_range NameNeverKept = (omega arith, omega arith)
number_range NoSuchState = (omega arith, omega arith)
number_range LettersDiffer = (omega arith, omega arith)
number_range TooManyPairs = (omega arith, omega arith)
number_range LimitOutOfRange = (omega arith, omega arith)
number_range NameNotFree = (omega arith, omega arith)
number_range NameNotPresent = (omega arith, omega arith)
number_range TooManyClasses = (omega arith, omega arith)
number_range UnbalancedFormula = (omega arith, omega arith)
