-- What is promised of two checked files, from what the checks behind theirs and the rule of the classes promise. Assumes nothing.
use Rattle.std.specs.Prelude.{Result, Ok, Err}
use Prim.Native.Nat.{ℕ}
use mathlib.Core.Path.{◌≡◌, refl, ◌∙◌}
use mathlib.Core.List.{List}
use Rattle.answer.specs.declared.Refused.{Refused}
use Rattle.rule_layout.specs.declared.Shape.{Shape}
use Rattle.two_rules.specs.Comparing.{BothCompared}
use Rattle.two_rules.proofs.Comparing.{compared_strong, compared_refused}
use Rattle.promises.specs.declared.Written.{Written}
use Rattle.promises.specs.declared.Written.TheVariants.{Refused as Not-written}
use Rattle.temporal_promises.proofs.UntilOrder.{pairs_refused}
use Rattle.until_strong.specs.Steps.{UntilReady, UntilOwn}
use Rattle.until_strengths.specs.Steps.{BothReady}

module _ {first second : List ℕ} {one two : Shape} {scratch classes out decided : List ℕ} {answer : Result Unit Refused}
    (d : BothCompared first second one two scratch decided answer) where
  -- a refusal is handed on
  pub not_compared : {r : Refused} → answer ≡ Err r → UntilOwn first second out out classes classes scratch decided (Not-written r.refusal r.input r.place)
  not_compared {r} e =
      let p = compared_refused d e in
      record { refusal = pairs_refused first second r.refusal r.input r.place p.compared; answered = refl; classes_length = refl; same_length = p.same_length }

  -- both are strong
  pub strong_place : {done : Unit} → BothReady first second one two scratch classes out → answer ≡ Ok done → UntilReady first second one two decided classes out
  strong_place r e =
      let p = compared_strong d e in
      record { files = p.compared.files; same_letters = p.compared.same_letters; out_room = r.out_room; classes_room = r.classes_room }

  pub strong_made : {after classes' exit : List ℕ} {result : Written} → UntilOwn first second out after classes classes' decided exit result
      → UntilOwn first second out after classes classes' scratch exit result
  strong_made p = record { refusal = p.refusal; answered = p.answered; classes_length = p.classes_length; same_length = p.same_length ∙ d.same_length }
