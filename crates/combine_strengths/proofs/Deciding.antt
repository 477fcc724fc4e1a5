-- What is promised of two checked files, from what the checks behind theirs and the rule of the pairs promise. Assumes nothing.
use Rattle.std.specs.Prelude.{Result, Ok, Err}
use Prim.Native.Nat.{ℕ}
use mathlib.Core.Path.{◌≡◌, refl, ◌∙◌}
use mathlib.Core.List.{List}
use Rattle.answer.specs.declared.Refused.{Refused}
use Rattle.rule_layout.specs.declared.Shape.{Shape}
use Rattle.two_rules.specs.Comparing.{BothCompared}
use Rattle.two_rules.proofs.Comparing.{compared_strong, compared_refused}
use Rattle.promises.specs.declared.Operation.{Operation}
use Rattle.promises.specs.declared.Written.{Written}
use Rattle.promises.specs.declared.Written.TheVariants.{Refused as Not-written}
use Rattle.combine_pairs.specs.Steps.{StrongReady, PairsPromise}
use Rattle.combine_strengths.specs.Steps.{BothReady}

module _ {first second : List ℕ} {one two : Shape} {scratch out decided : List ℕ} {answer : Result Unit Refused} (d : BothCompared first second one two scratch decided answer) where
  -- a refusal is handed on
  pub not_compared : {operation : Operation} {r : Refused} → answer ≡ Err r
      → PairsPromise first second operation out out scratch decided (Not-written r.refusal r.input r.place)
  not_compared e = let p = compared_refused d e in record { refusal = p.compared; answered = refl; same_length = p.same_length }

  -- both are strong
  pub strong_place : {done : Unit} → BothReady first second one two scratch out → answer ≡ Ok done → StrongReady first second one two decided out
  strong_place r e = let p = compared_strong d e in record { files = p.compared.files; same_letters = p.compared.same_letters; out_room = r.out_room }

  pub strong_combined : {operation : Operation} {after exit : List ℕ} {result : Written} → PairsPromise first second operation out after decided exit result
      → PairsPromise first second operation out after scratch exit result
  strong_combined p = record { refusal = p.refusal; answered = p.answered; same_length = p.same_length ∙ d.same_length }
