-- What the number holds for an answer that decides. Assumes nothing.
use Rattle.std.specs.Prelude.{ℕ}
use Rattle.answer.specs.Refusals.{number_of}
use Rattle.promises.specs.declared.Confirmation.{Confirmation}
use Rattle.promises.specs.declared.Confirmation.TheVariants.{Yes, No, Refused as Not-confirmed}
use Rattle.promises.specs.declared.Inclusion.{Inclusion}
use Rattle.promises.specs.declared.Inclusion.TheVariants.{Included, NotIncluded, Refused as Not-compared}
use Rattle.promises.specs.declared.LassoVerdict.{LassoVerdict}
use Rattle.promises.specs.declared.LassoVerdict.TheVariants.{Decided, Refused as Not-graded}
use Rattle.promises.specs.declared.StateKind.{StateKind}
use Rattle.promises.specs.declared.StateKind.TheVariants.{Plain, Initial, Final, Refused as No-kind}
use Rattle.promises.specs.declared.Strength.{Strength}
use Rattle.promises.specs.declared.Strength.TheVariants.{Strong, Weak, Refused as Not-decided}
use Rattle.promises.specs.RuleAutomaton.{plain_kind, initial_kind, final_kind}
use Rattle.packing.specs.Packing.{Contents, fields, refusal_at, pack}

-- 1 where the rule is strong
abbrev pub strength_contents : Strength → Contents
strength_contents Strong = fields 1 0 0
strength_contents Weak = fields 0 0 0
strength_contents (Not-decided refusal input place) = refusal_at (number_of refusal) input place

abbrev pub pack_strength : Strength → ℕ
pack_strength answer = pack (strength_contents answer)

-- the grade of a lasso, or of the lassos with a monitor's values, and the turns that settle its cycle
abbrev pub lasso_verdict_contents : LassoVerdict → Contents
lasso_verdict_contents (Decided grade turns) = fields grade turns 0
lasso_verdict_contents (Not-graded refusal input place) = refusal_at (number_of refusal) input place

abbrev pub pack_lasso_verdict : LassoVerdict → ℕ
pack_lasso_verdict answer = pack (lasso_verdict_contents answer)

-- 1 for yes
abbrev pub confirmation_contents : Confirmation → Contents
confirmation_contents Yes = fields 1 0 0
confirmation_contents No = fields 0 0 0
confirmation_contents (Not-confirmed refusal input place) = refusal_at (number_of refusal) input place

abbrev pub pack_confirmation : Confirmation → ℕ
pack_confirmation answer = pack (confirmation_contents answer)

-- 1 where the first marking is included; else 0, and how many letters u and v have
abbrev pub inclusion_contents : Inclusion → Contents
inclusion_contents Included = fields 1 0 0
inclusion_contents (NotIncluded u v) = fields 0 u v
inclusion_contents (Not-compared refusal input place) = refusal_at (number_of refusal) input place

abbrev pub pack_inclusion : Inclusion → ℕ
pack_inclusion answer = pack (inclusion_contents answer)

-- the kind of a state, coded as in automaton files
abbrev pub kind_contents : StateKind → Contents
kind_contents Plain = fields plain_kind 0 0
kind_contents Initial = fields initial_kind 0 0
kind_contents Final = fields final_kind 0 0
kind_contents (No-kind refusal input place) = refusal_at (number_of refusal) input place

abbrev pub pack_kind : StateKind → ℕ
pack_kind answer = pack (kind_contents answer)
