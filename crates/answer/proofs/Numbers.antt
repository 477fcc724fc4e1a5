-- No two refusals have one number: the number names the refusal; and none has the number 9. Assumes nothing.
use Prim.Native.Nat.{ℕ, zero, suc}
use mathlib.Core.Path.{◌≡◌, refl, sym, ap, ◌∙◌}
use mathlib.Core.List.{List, [], ◌∷◌}
use native.Mathlib.Omega.{arith}
use Rattle.answer.specs.declared.Refusal.{Refusal}
use Rattle.answer.specs.declared.Refusal.TheVariants.{Truncated, CountOutOfRange, EntryOutOfRange, TrailingBytes, NotAssociative, Unreachable, NotLinked, Duplicate, UnknownLetter, WordLength, NotStrong, BufferTooShort, TooManyMatrices, NameOutOfRange, NameNeverKept, NoSuchState, LettersDiffer, TooManyPairs, LimitOutOfRange, NameNotFree, NameNotPresent, TooManyClasses, UnbalancedFormula}
use Rattle.answer.specs.Refusals.{number_of}
use Rattle.answer.specs.NumbersTheorem.{NumbersTheorem}

-- the place of a number in a list, the last refusal where the list ends
unfoldable at : List Refusal → ℕ → Refusal
at [] n = UnbalancedFormula
at (r ∷ rs) zero = r
at (r ∷ rs) (suc n) = at rs n

-- the refusal of a number; 0, 9 and others that none has have the last
unfoldable refusal_of : ℕ → Refusal
unfolding at
refusal_of n = at (UnbalancedFormula ∷ Truncated ∷ CountOutOfRange ∷ EntryOutOfRange ∷ TrailingBytes ∷ NotAssociative ∷ Unreachable ∷ NotLinked ∷ Duplicate ∷ UnbalancedFormula ∷ UnknownLetter ∷ WordLength ∷ NotStrong ∷ BufferTooShort ∷ TooManyMatrices ∷ NameOutOfRange ∷ NameNeverKept ∷ NoSuchState ∷ LettersDiffer ∷ TooManyPairs ∷ LimitOutOfRange ∷ NameNotFree ∷ NameNotPresent ∷ TooManyClasses ∷ UnbalancedFormula ∷ []) n

back : (r : Refusal) → refusal_of (number_of r) ≡ r
unfolding refusal_of at
back Truncated = refl
back CountOutOfRange = refl
back EntryOutOfRange = refl
back TrailingBytes = refl
back NotAssociative = refl
back Unreachable = refl
back NotLinked = refl
back Duplicate = refl
back UnknownLetter = refl
back WordLength = refl
back NotStrong = refl
back BufferTooShort = refl
back TooManyMatrices = refl
back NameOutOfRange = refl
back NameNeverKept = refl
back NoSuchState = refl
back LettersDiffer = refl
back TooManyPairs = refl
back LimitOutOfRange = refl
back NameNotFree = refl
back NameNotPresent = refl
back TooManyClasses = refl
back UnbalancedFormula = refl

pub same_number : (r r' : Refusal) → number_of r ≡ number_of r' → r ≡ r'
same_number r r' e = sym (back r) ∙ ap refusal_of e ∙ back r'

-- no refusal has the number 9
pub nine_unused : (r : Refusal) → number_of r ≡ 9 → ⊥
nine_unused Truncated e = omega (arith, e)
nine_unused CountOutOfRange e = omega (arith, e)
nine_unused EntryOutOfRange e = omega (arith, e)
nine_unused TrailingBytes e = omega (arith, e)
nine_unused NotAssociative e = omega (arith, e)
nine_unused Unreachable e = omega (arith, e)
nine_unused NotLinked e = omega (arith, e)
nine_unused Duplicate e = omega (arith, e)
nine_unused UnknownLetter e = omega (arith, e)
nine_unused WordLength e = omega (arith, e)
nine_unused NotStrong e = omega (arith, e)
nine_unused BufferTooShort e = omega (arith, e)
nine_unused TooManyMatrices e = omega (arith, e)
nine_unused NameOutOfRange e = omega (arith, e)
nine_unused NameNeverKept e = omega (arith, e)
nine_unused NoSuchState e = omega (arith, e)
nine_unused LettersDiffer e = omega (arith, e)
nine_unused TooManyPairs e = omega (arith, e)
nine_unused LimitOutOfRange e = omega (arith, e)
nine_unused NameNotFree e = omega (arith, e)
nine_unused NameNotPresent e = omega (arith, e)
nine_unused TooManyClasses e = omega (arith, e)
nine_unused UnbalancedFormula e = omega (arith, e)

pub numbers_theorem : NumbersTheorem
numbers_theorem = record { no_nine = nine_unused; one_refusal = same_number }
