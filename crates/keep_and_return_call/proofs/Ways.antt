-- What each way through a keep and a return promises. Assumes nothing.

use Rattle.answer.specs.declared.Fault.{Fault}
use Rattle.answer.proofs.Parts.{fault_by}
use Rattle.std.specs.Prelude.{Result, Ok, Err}
use Rattle.answer.specs.declared.Refused.{Refused}
use Rattle.answer.proofs.Parts.{refused_by}
use Prim.Native.Nat.{ℕ, ◌+◌, ◌*◌, ◌≤◌, ◌<◌}
use mathlib.Core.Path.{◌≡◌, refl, subst}
use mathlib.Core.Logic.{inl, inr, ⊎_elim}
use mathlib.Core.List.{List}
use native.Mathlib.Omega.{arith}
use lib.ListN.{length, get_or, set, replicate}
use Rattle.answer.specs.declared.Refusal.{Refusal}
use Rattle.answer.specs.declared.Refusal.TheVariants.{BufferTooShort}
use Rattle.answer.specs.Checks.{passed, refused, FirstFailure}
use Rattle.answer.proofs.Order.{passes_head, passes_tail, refused_before, passed_before}
use Rattle.formats.specs.RuleFile.{elements_of}
use Rattle.formats.proofs.Buffers.{buffer_short, buffer_long}
use Rattle.formats.proofs.GoodRule.{called_good}
use Rattle.rule_layout.specs.declared.Shape.{Shape}
use Rattle.rule_check.specs.Answers.{CheckPromise}
use Rattle.rule_check.proofs.Left.{short_left, long_left}
use Rattle.rule_check.proofs.Calls.{zeros_left, checked_rule, checked_refused, checked_length}
use Rattle.promises.specs.declared.Monitor.{Monitor}
use Rattle.promises.specs.declared.Moved.TheVariants.{To, Refused as Moved-refused}
use Rattle.promises.specs.Monitor.{ValueOutOfRange}
use Rattle.promises.specs.Points.{names_count, points_size, point_at, kept_points, keep_checks, return_checks, KeepPromise, ReturnPromise}
use Rattle.promises.proofs.Points.{keep_named, return_named}
use Rattle.monitor_state.proofs.Numbers.{not_stray}
use Rattle.monitor_point_checks.specs.PointChecks.{keep_faults, return_faults, PointFault}
use Rattle.keep_and_return_call.specs.Begun.{first_checks, BegunAnswer, BegunPromise}

-- what a keep that stores knows: the name's bytes are there, and the values fit in them
pub record Keepable (f : Monitor) (name : ℕ) (points : List ℕ) : Type 0 where
  pub named : name < names_count
  pub room : points_size ≤ length points
  pub before_byte_lem : f.before < 256
  pub since_byte_lem : f.since < 256

module _ (bytes points entry : List ℕ) where
  -- the points are too short
  pub begun_short : length points < points_size → BegunPromise bytes points entry entry (Err (refused_by BufferTooShort 1 0))
  begun_short h = record { says = buffer_short h; scratch = short_left points_size points entry h }

  module _ (mid : List ℕ) (answer : Result Shape Refused) (long : points_size ≤ length points) (known : CheckPromise 1 bytes entry mid answer) where
    -- the rule is refused
    pub begun_refused : {r : Refusal} {i place : ℕ} → answer ≡ Err (refused_by r i place) → BegunPromise bytes points entry mid (Err (refused_by r i place))
    begun_refused e =
        let p = checked_refused 1 bytes entry mid answer known e in
        record { says = buffer_long long p.refusal; scratch = long_left points_size points entry long p.scratch }

    -- it has passed, and scratch is zeros
    pub begun_elements : {shape : Shape} {exit : List ℕ} → answer ≡ Ok shape → exit ≡ replicate (length mid) 0
        → BegunPromise bytes points entry exit (Ok shape.elements)
    begun_elements {exit = exit} e z =
        let rule = checked_rule 1 bytes entry mid answer known e in
        record {
          says = (buffer_long long rule.refusal, rule.scratch.shape_is.elements);
          scratch = long_left points_size points entry long (zeros_left 1 bytes entry rule.refusal mid exit (checked_length rule.scratch) z);
        }

-- the beginning passed
module _ (bytes points entry mid : List ℕ) (answer : Result ℕ Refused) (first : BegunPromise bytes points entry mid answer) {n : ℕ} (e : answer ≡ Ok n) where
  has_begun : FirstFailure (first_checks bytes points entry) passed × (n ≡ elements_of bytes)
  has_begun = subst (BegunAnswer bytes points entry) e first.says

  pub points_room : points_size ≤ length points
  points_room =
      let not : length points < points_size → ⊥ = λ h. (passes_head has_begun.0).nowhere 0 (record { short = h; is_place = refl }) in
      omega arith

module _ (bytes : List ℕ) (f : Monitor) (name : ℕ) (points entry mid : List ℕ) (answer : Result ℕ Refused) (first : BegunPromise bytes points entry mid answer) where
  -- it refused
  module _ {r : Refusal} {i place : ℕ} (e : answer ≡ Err (refused_by r i place)) where
    begin_refused : FirstFailure (first_checks bytes points entry) (refused r i place)
    begin_refused = subst (BegunAnswer bytes points entry) e first.says

    pub keep_refused : KeepPromise bytes f name points points entry mid (Moved-refused f r i place)
    keep_refused = record { refusal = refused_before _ _ begin_refused; monitor = refl; points = refl; scratch = first.scratch }

    pub return_refused : ReturnPromise bytes f name points entry mid (Moved-refused f r i place)
    return_refused = record { refusal = refused_before _ _ begin_refused; monitor = refl; scratch = first.scratch }

  -- it passed
  module _ {n : ℕ} (e : answer ≡ Ok n) where
    begun : FirstFailure (first_checks bytes points entry) passed × (n ≡ elements_of bytes)
    begun = has_begun bytes points entry mid answer first e

    module _ (fault : Result (Unit {0}) Fault) (said : PointFault (keep_faults n f name points) fault) where
      keep_said : PointFault (keep_faults (elements_of bytes) f name points) fault
      keep_said = subst (λ (n : ℕ). PointFault (keep_faults n f name points) fault) begun.1 said

      -- the name or a value is refused
      pub keep_fault : {r : Refusal} {place : ℕ} → fault ≡ Err (fault_by r place) → KeepPromise bytes f name points points entry mid (Moved-refused f r 1 place)
      keep_fault k = record {
        refusal = passed_before _ _ begun.0 (subst (PointFault (keep_faults (elements_of bytes) f name points)) k keep_said);
        monitor = refl;
        points = refl;
        scratch = first.scratch;
      }

      module _ (k : fault ≡ (Ok tt)) where
        values_passed : FirstFailure (keep_faults (elements_of bytes) f name points) passed
        values_passed = subst (PointFault (keep_faults (elements_of bytes) f name points)) k keep_said

        keep_passed : FirstFailure (keep_checks bytes f name points entry) passed
        keep_passed = passed_before _ _ begun.0 values_passed

        -- a value that is good is a byte
        keep_byte : {s : ℕ} → (ValueOutOfRange (elements_of bytes) s → ⊥) → s < 256
        keep_byte {s} h =
            let few = (called_good 1 bytes entry (passes_tail begun.0)).table.small in
            ⊎_elim (λ (l : s < elements_of bytes). omega (arith, few, l)) (λ (l : s ≡ 64). omega (arith, l)) (not_stray (elements_of bytes) s h)

        pub keepable_point : Keepable f name points
        keepable_point = record {
          named = keep_named bytes f name points entry keep_passed;
          room = points_room bytes points entry mid answer first e;
          before_byte_lem = keep_byte (λ s. (passes_head (passes_tail values_passed)).nowhere 0 (record { stray = inl (inl s); is_place = refl }));
          since_byte_lem = keep_byte (λ s. (passes_head (passes_tail values_passed)).nowhere 0 (record { stray = inl (inr s); is_place = refl }));
        }

        -- the monitor is stored
        pub keep_stored : KeepPromise bytes f name points (set (set (set points (3 * name) 1) (3 * name + 1) f.before) (3 * name + 2) f.since) entry mid (To f)
        unfolding kept_points
        keep_stored = record { refusal = keep_passed; monitor = refl; points = refl; scratch = first.scratch }

    module _ (fault : Result (Unit {0}) Fault) (said : PointFault (return_faults n f name points) fault) where
      return_said : PointFault (return_faults (elements_of bytes) f name points) fault
      return_said = subst (λ (n : ℕ). PointFault (return_faults n f name points) fault) begun.1 said

      pub return_fault : {r : Refusal} {place : ℕ} → fault ≡ Err (fault_by r place) → ReturnPromise bytes f name points entry mid (Moved-refused f r 1 place)
      return_fault k = record {
        refusal = passed_before _ _ begun.0 (subst (PointFault (return_faults (elements_of bytes) f name points)) k return_said);
        monitor = refl;
        scratch = first.scratch;
      }

      module _ (k : fault ≡ (Ok tt)) where
        return_passed : FirstFailure (return_checks bytes f name points entry) passed
        return_passed = passed_before _ _ begun.0 (subst (PointFault (return_faults (elements_of bytes) f name points)) k return_said)

        pub return_name : name < names_count
        return_name = return_named bytes f name points entry return_passed

        -- the point is read
        pub return_read : ReturnPromise bytes f name points entry mid (To (record { before = get_or points (3 * name + 1) 0; since = get_or points (3 * name + 2) 0 }))
        unfolding point_at
        return_read = record { refusal = return_passed; monitor = refl; scratch = first.scratch }
