-- What each way through the call for a monitor's verdict promises. Assumes nothing.
use Rattle.std.specs.Prelude.{Ok, Err}
use Rattle.answer.proofs.Parts.{refused_by}
use Prim.Native.Nat.{ℕ}
use mathlib.Core.Path.{◌≡◌, refl, sym, subst}
use mathlib.Core.Logic.{◌⊎◌, ⊎_elim}
use mathlib.Core.List.{List, [], ◌∷◌, ◌++◌, append_assoc}
use native.Mathlib.Omega.{arith}
use lib.ListN.{length, replicate}
use Rattle.answer.specs.declared.Refusal.{Refusal}
use Rattle.answer.specs.Checks.{Verdict, refused, FirstFailure}
use Rattle.answer.proofs.Order.{first_passes, first_fails, none_left, refused_before, passed_before}
use Rattle.theory.specs.Rules.{Morphism}
use Rattle.formats.specs.Table.{morphism_at}
use Rattle.formats.specs.RuleFile.{elements_of, morphism_of, marking_of}
use Rattle.rule_layout.specs.declared.Shape.{Shape}
use Rattle.rule_check.specs.Answers.{CheckPromise}
use Rattle.formats.specs.Calls.{checked_checks, after_call}
use Rattle.rule_check.proofs.Calls.{zeros_left, checked_length, shape_morphism}
use Rattle.promises.specs.Weak.{weak_check}
use Rattle.mark_strong.proofs.Calling.{checked_graded, marks_stand}
use Rattle.promises.specs.declared.Monitor.{Monitor}
use Rattle.promises.specs.Monitor.{ValueOutOfRange}
use Rattle.promises.specs.declared.LassoVerdict.{LassoVerdict}
use Rattle.promises.specs.declared.LassoVerdict.TheVariants.{Decided, Refused}
use Rattle.promises.specs.Verdict.{verdict_checks, VerdictPromise}
use Rattle.monitor_judging.specs.Judges.{JudgedBy, Judges}
use Rattle.verdict_call.specs.Judging.{value_checks, start_element, Judgeable}
use Rattle.verdict_call.proofs.Values.{start_graded}

module _ (bytes : List ℕ) (f : Monitor) (entry : List ℕ) where
  -- the rule is refused
  pub rule_refused : {exit : List ℕ} {r : Refusal} {i place : ℕ} → CheckPromise 1 bytes entry exit (Err (refused_by r i place)) → VerdictPromise bytes f entry exit (Refused r i place)
  rule_refused p = record { refusal = refused_before _ _ (refused_before _ _ p.refusal); answered = tt; scratch = p.scratch }

  module _ {shape : Shape} {mid : List ℕ} (p : CheckPromise 1 bytes entry mid (Ok shape)) where
    left : {exit : List ℕ} → exit ≡ replicate (length mid) 0 → exit ≡ after_call entry
    left {exit} z = zeros_left 1 bytes entry p.refusal mid exit (checked_length p.scratch) z

    -- the rule passed: the values and the strength decide
    after_rule : {v : Verdict} → FirstFailure (value_checks (elements_of bytes) f ++ weak_check 1 bytes ∷ []) v → FirstFailure (verdict_checks bytes f entry) v
    after_rule r = rw append_assoc (passed_before (checked_checks 1 bytes entry) _ p.refusal r)

    -- a value is refused
    pub value_refused : {exit : List ℕ} {r : Refusal} {place : ℕ} → FirstFailure (value_checks shape.elements f) (refused r 1 place) → exit ≡ replicate (length mid) 0
        → VerdictPromise bytes f entry exit (Refused r 1 place)
    value_refused {r = r} {place = place} g z = record {
      refusal = after_rule (refused_before _ _ (subst (λ (n : ℕ). FirstFailure (value_checks n f) (refused r 1 place)) p.scratch.shape_is.elements g));
      answered = tt;
      scratch = left z;
    }

    module _ (b : Judgeable shape.elements f) where
      none_stray : ValueOutOfRange (elements_of bytes) f.before ⊎ ValueOutOfRange (elements_of bytes) f.since → ⊥
      none_stray =
          ⊎_elim (λ s. b.before_good (subst (λ (n : ℕ). ValueOutOfRange n f.before) (sym p.scratch.shape_is.elements) s))
          (λ s. omega (arith, s.no_element, b.since_inside, p.scratch.shape_is.elements))

      -- both values passed: the strength decides
      after_values : {v : Verdict} → FirstFailure (weak_check 1 bytes ∷ []) v → FirstFailure (verdict_checks bytes f entry) v
      after_values w =
          after_rule
          (first_passes (record { nowhere = λ place t. none_stray t.stray })
          (first_passes (record { nowhere = λ place t. b.since_some t.none }) w))

      -- what the marks of the file say
      file_says : {exit : List ℕ} {answer : LassoVerdict} → Judges (morphism_at bytes shape.elements shape.letters) (start_element f) f.since mid exit answer
          → JudgedBy (morphism_of bytes) (marking_of bytes) (start_element f) f.since answer
      file_says {answer = answer} j =
          subst (λ (m : Morphism). JudgedBy m (marking_of bytes) (start_element f) f.since answer) (shape_morphism p.scratch.shape_is)
          (j.says (marking_of bytes) (checked_graded 1 bytes entry p) (marks_stand 1 bytes entry p))

      says : {exit : List ℕ} (answer : LassoVerdict) → exit ≡ after_call entry → JudgedBy (morphism_of bytes) (marking_of bytes) (start_element f) f.since answer
          → VerdictPromise bytes f entry exit answer
      says (Decided grade turns) z k = record {
        refusal = after_values (first_passes (record { nowhere = λ place t. t.weak k.0 }) none_left);
        answered = (start_graded f k.1.0, k.1.1);
        scratch = z;
      }
      says (Refused r i place) z k = record {
        refusal =
            after_values
            (subst (FirstFailure (weak_check 1 bytes ∷ [])) (sym k.1) (first_fails (weak_check 1 bytes) (record { weak = k.0; is_place = refl })));
        answered = tt;
        scratch = z;
      }

      -- the values are judged
      pub judged_verdict : {start : ℕ} {exit : List ℕ} {answer : LassoVerdict} → start ≡ start_element f
          → Judges (morphism_at bytes shape.elements shape.letters) start f.since mid exit answer → VerdictPromise bytes f entry exit answer
      judged_verdict {exit = exit} {answer = answer} e given =
          let j = subst (λ (s : ℕ). Judges (morphism_at bytes shape.elements shape.letters) s f.since mid exit answer) e given in
          says answer (left j.zeros) (file_says j)
