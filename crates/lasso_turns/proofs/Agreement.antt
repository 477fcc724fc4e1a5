-- Membership looks at the pairs of elements only: sets of pairs that agree below the size give the same answers.
-- Assumes nothing.
use Prim.Native.Nat.{ℕ, suc, ◌<◌}
use mathlib.Core.Path.{◌≡◌, refl}
use mathlib.Core.List.{List}
use lib.ListN.{length}
use Rattle.theory.specs.Words.{Over}
use Rattle.theory.specs.Rules.{Morphism, Lawful, Pairs, Value}
use Rattle.theory.proofs.Words.{over_append, over_take, over_drop}
use Rattle.theory.proofs.Values.{Inside, inside_none, inside_element, value_inside}
use Rattle.theory.proofs.Powers.{times_inside, idempotent_of, idempotent_inside}
use Rattle.theory.proofs.Conjugacy.{semigroup}
use Rattle.theory.proofs.Membership.{turn_look, turn_test, cut_test, cut_look, accepts_test}
use Rattle.lasso_turns.proofs.Looks.{any_same}

-- two sets of pairs that hold the same pairs below n
pub record Agrees (n : ℕ) (P Q : Pairs) : Type 0 where
  pub same : (s e : ℕ) → s < n → e < n → P s e ≡ Q s e

module _ {m : Morphism} (law : Lawful m) {P Q : Pairs} (agrees : Agrees m.size P Q) where
  -- the test of a turn
  pub turn_test_agrees : {p r : ℕ} → p < m.size → r < m.size → turn_test m P p r ≡ turn_test m Q p r
  unfolding turn_test turn_look
  turn_test_agrees {p} {r} hp hr =
      let e = idempotent_of m.size m.product r in
      let he = idempotent_inside (semigroup law) hr in
      any_same m.size (turn_look m P p r e) (turn_look m Q p r e)
      (λ i h. agrees.same _ e (times_inside (semigroup law) (law.closed p e hp he) hr i) he)

  cut_test_agrees : {x y : Value} → Inside m x → Inside m y → cut_test m P x y ≡ cut_test m Q x y
  unfolding cut_test
  cut_test_agrees inside_none hy = refl
  cut_test_agrees (inside_element hx) inside_none = refl
  cut_test_agrees (inside_element hx) (inside_element hy) = turn_test_agrees hx hy

  -- the test of membership
  pub accepts_test_agrees : {u v : List ℕ} → Over m.letters u → Over m.letters v → accepts_test m P u v ≡ accepts_test m Q u v
  unfolding accepts_test cut_look
  accepts_test_agrees {u} {v} ou ov =
      any_same (length v) (cut_look m P u v) (cut_look m Q u v)
      (λ j h. cut_test_agrees (value_inside law (over_append ou (over_take (suc j) ov)))
      (value_inside law (over_append (over_drop (suc j) ov) (over_take (suc j) ov))))
