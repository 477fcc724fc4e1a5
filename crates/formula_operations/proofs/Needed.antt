-- What the parts of an operation need, from what it needs. Assumes nothing.
use Prim.Native.Nat.{ℕ, ◌≤◌, ◌<◌}
use mathlib.Core.Path.{◌≡◌, sym, subst}
use native.Mathlib.Omega.{arith}
use Rattle.formula_promises.specs.Operations.{Operation, push_set, push_constant, push_copy, on_one, on_two, One, Two, asks}
use Rattle.formula_promises.specs.Checks.{grade_of, set_of}
use Rattle.formula_promises.specs.Values.{meant}
use Rattle.formula_promises.specs.declared.Operation as declared
use Rattle.formula_pushes.specs.Pushes.{RuleNeeds, KnownLetters}
use Rattle.formula_operations.specs.Applying.{ApplyNeeds}

module _ {letters height : ℕ} where
  pub needs_at : {operation known : declared.Operation} → operation ≡ known → ApplyNeeds letters (meant operation) height → ApplyNeeds letters (meant known) height
  needs_at e n = subst (λ (o : declared.Operation). ApplyNeeds letters (meant o) height) e n

  pub set_grade : {set grade : ℕ} → ApplyNeeds letters (push_set set grade) height → grade ≤ 3
  unfolding grade_of
  set_grade n = n.small_grade

  pub set_letters : {set grade members : ℕ} → ApplyNeeds letters (push_set set grade) height → members ≡ set → KnownLetters letters members
  unfolding set_of
  set_letters n e = subst (KnownLetters letters) (sym e) (record { known = n.known_letters })

  pub constant_grade : {grade : ℕ} → ApplyNeeds letters (push_constant grade) height → grade ≤ 3
  unfolding grade_of
  constant_grade n = n.small_grade

  pub copy_stands : {below : ℕ} → ApplyNeeds letters (push_copy below) height → below < height
  unfolding asks
  copy_stands n = omega (arith, n.enough)

  pub one_stands : {one : One} → ApplyNeeds letters (on_one one) height → 1 ≤ height
  unfolding asks
  one_stands n = n.enough

  pub two_stand : {two : Two} → ApplyNeeds letters (on_two two) height → 2 ≤ height
  unfolding asks
  two_stand n = n.enough

  pub rule_needs : {operation : Operation} → ApplyNeeds letters operation height → RuleNeeds letters 3
  rule_needs n = record { letters_some = n.letters_some; letters_few = n.letters_few; small_grade = omega arith }
