-- What the derived operations leave on a formula's stack, and what stands there on the way. Assumes nothing.
use Rattle.std.specs.Prelude.{ℕ, ◌<◌, ◌≡◌, List, [], ◌∷◌}
use Rattle.temporal.specs.Formulas.{Formula, negation, either, until, eventually, always}
use Rattle.board_promises.specs.Boards.{file_at}
use Rattle.promises.specs.declared.Written.{Written}
use Rattle.formula_promises.specs.Operations.{op_always, op_release}
use Rattle.formula_promises.specs.Checks.{Making, making_pairs, making_until, proper, makings_of_one, makings_of_two}
use Rattle.formula_slots.specs.Slots.{ReductionFile}
use Rattle.formula_makings.specs.Makings.{Made}

-- the rules in two slots are negated
pub record BothNegated (first second : ℕ) (entry exit : List ℕ) : Type 0 where
  pub first_made : (letters : ℕ) (f : Formula) → ReductionFile letters f (file_at entry first) → ReductionFile letters (negation f) (file_at exit first)
  pub second_made : (letters : ℕ) (f : Formula) → ReductionFile letters f (file_at entry second) → ReductionFile letters (negation f) (file_at exit second)

-- of the formula in a slot, or of two, the reduction of another is made, by some makings
pub record OneMakes (letters : ℕ) (makings : Formula → List Making) (result : Formula → Formula) (slot : ℕ) (entry exit : List ℕ) (answer : Written) : Type 0 where
  pub made : (f : Formula) → ReductionFile letters f (file_at entry slot) → Made letters (makings f) (ReductionFile letters (result f) (file_at exit slot)) answer

pub record TwoMakes (letters : ℕ) (makings : Formula → Formula → List Making) (result : Formula → Formula → Formula) (first second slot : ℕ) (entry exit : List ℕ) (answer : Written) : Type 0 where
  pub made : (f g : Formula) → ReductionFile letters f (file_at entry first) → ReductionFile letters g (file_at entry second)
      → Made letters (makings f g) (ReductionFile letters (result f g) (file_at exit slot)) answer

-- eventually not f, as `always` makes it
abbrev pub EventuallyNot : ℕ → ℕ → List ℕ → List ℕ → Written → Type 0
EventuallyNot letters = OneMakes letters (makings_of_one op_always) (λ f. eventually (negation f))

-- not f until not g, as `release` makes it
abbrev pub UntilNegated : ℕ → ℕ → ℕ → List ℕ → List ℕ → Written → Type 0
UntilNegated letters first second = TwoMakes letters (makings_of_two op_release) (λ f g. until (negation f) (negation g)) first second first

-- g or always f, as `weak until` makes it of what it has made first
abbrev pub OrAlways : ℕ → ℕ → ℕ → List ℕ → List ℕ → Written → Type 0
OrAlways letters first free =
    TwoMakes letters (λ f g. making_until proper (negation f) ∷ making_pairs g (always f) ∷ []) (λ f g. either g (always f)) first free first

-- the slots below one are left as they are
pub record KeptBelow (slot : ℕ) (entry exit : List ℕ) : Type 0 where
  pub below : (i : ℕ) → i < slot → file_at exit i ≡ file_at entry i
