-- What `confirm` promises: whether a rule was reduced right elsewhere. Document 02, Job 13. Assumes nothing.
use Rattle.std.specs.Prelude.{ℕ, ◌≡◌, List, [], ◌∷◌, ◌++◌, length, get_or}
use Rattle.answer.specs.Checks.{Check, Verdict, passed, refused, FirstFailure}
use Rattle.theory.specs.Rules.{Lawful}
use Rattle.theory.specs.Smallest.{ReducedBy}
use Rattle.formats.specs.RuleFile.{elements_of, morphism_of}
use Rattle.formats.specs.RuleChecks.{rule_checks}
use Rattle.formats.specs.Calls.{after_call, checked_checks}
use Rattle.promises.specs.Weak.{weak_check}
use Rattle.promises.specs.Reduce.{rule_of}
use Rattle.promises.specs.declared.Confirmation.{Confirmation}
use Rattle.promises.specs.declared.Confirmation.TheVariants.{Yes, No, Refused}

-- "a rule, a reduced rule and a byte for each element naming where it went": the first rule is reduced to the second by the bytes. "A map of another
-- length or with a foreign number gets no, as do differing letter counts": such bytes do not map each element to one, and such rules have not
-- the same letters. Lawful are the tables of all files that pass the checks.
pub record ReducesBy (first second map : List ℕ) : Type 0 where
  pub first_lawful : Lawful (morphism_of first)
  pub second_lawful : Lawful (morphism_of second)
  pub length_is : length map ≡ elements_of first
  pub reduced : ReducedBy (rule_of first first_lawful) (rule_of second second_lawful) (λ s. get_or map s 0)

-- "Both files meet the usual checks, first to second; then 12 for the first rule, before any no."
abbrev pub confirm_checks : List ℕ → List ℕ → List ℕ → List Check
confirm_checks first second scratch = checked_checks 1 first scratch ++ (rule_checks 2 second ++ weak_check 1 first ∷ [])

-- document 01's number, input and place of an answer
abbrev pub confirmation_verdict : Confirmation → Verdict
confirmation_verdict Yes = passed
confirmation_verdict No = passed
confirmation_verdict (Refused refusal input place) = refused refusal input place

-- "Say yes exactly if"
abbrev pub ConfirmationAnswer : List ℕ → List ℕ → List ℕ → Confirmation → Type 0
ConfirmationAnswer first second map Yes = ReducesBy first second map
ConfirmationAnswer first second map No = ReducesBy first second map → ⊥
ConfirmationAnswer first second map (Refused refusal input place) = Unit {0}

-- scratch as every call leaves it
pub record ConfirmPromise (first second map entry exit : List ℕ) (answer : Confirmation) : Type 0 where
  pub refusal : FirstFailure (confirm_checks first second entry) (confirmation_verdict answer)
  pub answered : ConfirmationAnswer first second map answer
  pub scratch : exit ≡ after_call entry
