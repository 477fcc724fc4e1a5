-- What a number holds tells the answer: two answers that hold the same are one. Assumes nothing.
use mathlib.Core.Path.{◌≡◌, refl}
use Rattle.answer.proofs.Verdicts.{same_refusal}
use Rattle.promises.specs.declared.Confirmation.{Confirmation}
use Rattle.promises.specs.declared.Confirmation.TheVariants.{Yes, No, Refused as Not-confirmed}
use Rattle.promises.specs.declared.Inclusion.{Inclusion}
use Rattle.promises.specs.declared.Inclusion.TheVariants.{Included, NotIncluded, Refused as Not-compared}
use Rattle.promises.specs.declared.LassoVerdict.{LassoVerdict}
use Rattle.promises.specs.declared.LassoVerdict.TheVariants.{Decided, Refused as Not-graded}
use Rattle.promises.specs.declared.StateKind.{StateKind}
use Rattle.promises.specs.declared.StateKind.TheVariants.{Plain, Initial, Final, Refused as No-kind}
use Rattle.promises.specs.declared.Strength.{Strength}
use Rattle.promises.specs.declared.Strength.TheVariants.{Strong, Weak, Refused as Not-decided}
use Rattle.packing.specs.Packing.{fields}
use Rattle.packing.proofs.Contents.{verdict_of_lem}
use Rattle.packing_decisions.specs.Decisions.{strength_contents, lasso_verdict_contents, confirmation_contents, inclusion_contents, kind_contents}

pub strength_told : (x y : Strength) → strength_contents x ≡ strength_contents y → x ≡ y
strength_told Strong Strong e = refl
strength_told Strong Weak e = cc
strength_told Strong (Not-decided r' i' p') e = cc
strength_told Weak Strong e = cc
strength_told Weak Weak e = refl
strength_told Weak (Not-decided r' i' p') e = cc
strength_told (Not-decided r i p) Strong e = cc
strength_told (Not-decided r i p) Weak e = cc
strength_told (Not-decided r i p) (Not-decided r' i' p') e = same_refusal Not-decided r r' i i' p p' (verdict_of_lem e)

pub lasso_verdict_told : (x y : LassoVerdict) → lasso_verdict_contents x ≡ lasso_verdict_contents y → x ≡ y
lasso_verdict_told (Decided g t) (Decided g' t') e = cc
lasso_verdict_told (Decided g t) (Not-graded r' i' p') e = cc
lasso_verdict_told (Not-graded r i p) (Decided g' t') e = cc
lasso_verdict_told (Not-graded r i p) (Not-graded r' i' p') e = same_refusal Not-graded r r' i i' p p' (verdict_of_lem e)

pub confirmation_told : (x y : Confirmation) → confirmation_contents x ≡ confirmation_contents y → x ≡ y
confirmation_told Yes Yes e = refl
confirmation_told Yes No e = cc
confirmation_told Yes (Not-confirmed r' i' p') e = cc
confirmation_told No Yes e = cc
confirmation_told No No e = refl
confirmation_told No (Not-confirmed r' i' p') e = cc
confirmation_told (Not-confirmed r i p) Yes e = cc
confirmation_told (Not-confirmed r i p) No e = cc
confirmation_told (Not-confirmed r i p) (Not-confirmed r' i' p') e = same_refusal Not-confirmed r r' i i' p p' (verdict_of_lem e)

pub inclusion_told : (x y : Inclusion) → inclusion_contents x ≡ inclusion_contents y → x ≡ y
inclusion_told Included Included e = refl
inclusion_told Included (NotIncluded a' b') e = cc
inclusion_told Included (Not-compared r' i' p') e = cc
inclusion_told (NotIncluded a b) Included e = cc
inclusion_told (NotIncluded a b) (NotIncluded a' b') e = cc
inclusion_told (NotIncluded a b) (Not-compared r' i' p') e = cc
inclusion_told (Not-compared r i p) Included e = cc
inclusion_told (Not-compared r i p) (NotIncluded a' b') e = cc
inclusion_told (Not-compared r i p) (Not-compared r' i' p') e = same_refusal Not-compared r r' i i' p p' (verdict_of_lem e)

pub kind_told : (x y : StateKind) → kind_contents x ≡ kind_contents y → x ≡ y
kind_told Plain Plain e = refl
kind_told Plain Initial e = cc
kind_told Plain Final e = cc
kind_told Plain (No-kind r' i' p') e = cc
kind_told Initial Plain e = cc
kind_told Initial Initial e = refl
kind_told Initial Final e = cc
kind_told Initial (No-kind r' i' p') e = cc
kind_told Final Plain e = cc
kind_told Final Initial e = cc
kind_told Final Final e = refl
kind_told Final (No-kind r' i' p') e = cc
kind_told (No-kind r i p) Plain e = cc
kind_told (No-kind r i p) Initial e = cc
kind_told (No-kind r i p) Final e = cc
kind_told (No-kind r i p) (No-kind r' i' p') e = same_refusal No-kind r r' i i' p p' (verdict_of_lem e)

-- the numbers of the kinds, "coded as in automaton files": 0 plain, 1 initial, 2 final
pub record KindNumbers : Type 0 where
  pub plain : kind_contents Plain ≡ fields 0 0 0
  pub initial : kind_contents Initial ≡ fields 1 0 0
  pub final : kind_contents Final ≡ fields 2 0 0

pub kind_numbers : KindNumbers
kind_numbers = record { plain = refl; initial = refl; final = refl }
