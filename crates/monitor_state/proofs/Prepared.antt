-- What each way through the preparation of a call shows: the rule's checks, then the monitor's values. Assumes nothing.
use Rattle.std.specs.Prelude.{Result}
use Rattle.answer.specs.declared.Refused.{Refused}
use Rattle.std.specs.Prelude.{Ok, Err}
use Rattle.answer.proofs.Parts.{refused_by}
use Prim.Native.Nat.{ℕ}
use mathlib.Core.Path.{◌≡◌, refl, sym, subst}
use mathlib.Core.Bool.{true}
use mathlib.Core.Logic.{inl, inr}
use mathlib.Core.List.{List}
use lib.ListN.{length, replicate}
use Rattle.answer.specs.declared.Refusal.{Refusal}
use Rattle.answer.specs.declared.Refusal.TheVariants.{EntryOutOfRange}
use Rattle.answer.specs.Checks.{passed, FirstFailure}
use Rattle.answer.proofs.Order.{first_passes, first_fails, none_left, refused_before, passed_before, passed_first, passed_last, passes_head}
use Rattle.formats.proofs.Tables.{Table}
use Rattle.formats.specs.RuleFile.{elements_of}
use Rattle.rule_layout.specs.declared.Shape.{Shape}
use Rattle.rule_check.specs.Answers.{CheckPromise}
use Rattle.formats.specs.Calls.{checked_checks, after_call}
use Rattle.rule_check.proofs.Calls.{zeros_left, checked_length, shape_table}
use Rattle.formats.proofs.GoodRule.{called_good}
use Rattle.promises.specs.declared.Monitor.{Monitor}
use Rattle.promises.specs.Monitor.{monitor_value_check}
use Rattle.monitor_state.specs.Ready.{GoodMonitor, StrayAnswer, ReadyPromise}
use Rattle.monitor_state.proofs.Numbers.{not_stray, good_monitor}

module _ (bytes : List ℕ) (f : Monitor) (entry : List ℕ) where
  -- the rule is refused
  pub rule_refused : {exit : List ℕ} {r : Refusal} {i place : ℕ} → CheckPromise 1 bytes entry exit (Err (refused_by r i place)) → ReadyPromise bytes f entry exit (Err (refused_by r i place))
  rule_refused p = record { refusal = refused_before _ _ p.refusal; shape = tt; scratch = p.scratch }

  module _ {shape : Shape} (mid exit : List ℕ) (p : CheckPromise 1 bytes entry mid (Ok shape)) (z : exit ≡ replicate (length mid) 0) where
    left : exit ≡ after_call entry
    left = zeros_left 1 bytes entry p.refusal mid exit (checked_length p.scratch) z

    -- a value of the monitor is stray
    pub monitor_stray : StrayAnswer shape.elements f true → ReadyPromise bytes f entry exit (Err (refused_by EntryOutOfRange 1 0))
    monitor_stray s = record {
      refusal =
          passed_before _ _ p.refusal
          (first_fails (monitor_value_check 1 (elements_of bytes) f)
          (record { stray = subst (λ (x : ℕ). StrayAnswer x f true) p.scratch.shape_is.elements s; is_place = refl }));
      shape = tt;
      scratch = left;
    }

    -- both are good
    pub monitor_good : GoodMonitor shape.elements f → ReadyPromise bytes f entry exit (Ok shape)
    monitor_good g = record {
      refusal =
          passed_before _ _ p.refusal
          (first_passes (record { nowhere = λ place t. good_monitor g (subst (λ (x : ℕ). StrayAnswer x f true) (sym p.scratch.shape_is.elements) t.stray) }) none_left);
      shape = p.scratch.shape_is;
      scratch = left;
    }

-- what a ready rule is known to be
module _ (bytes : List ℕ) (f : Monitor) (entry exit : List ℕ) {shape : Shape} (p : ReadyPromise bytes f entry exit (Ok shape)) where
  pub rule_passed : FirstFailure (checked_checks 1 bytes entry) passed
  rule_passed = passed_first (checked_checks 1 bytes entry) _ p.refusal

  pub ready_table : Table bytes shape.elements shape.letters
  ready_table = shape_table p.shape (called_good 1 bytes entry rule_passed).table

  unstray : StrayAnswer shape.elements f true → ⊥
  unstray s =
      (passes_head (passed_last (checked_checks 1 bytes entry) _ p.refusal)).nowhere 0
      (record { stray = subst (λ (x : ℕ). StrayAnswer x f true) p.shape.elements s; is_place = refl })

  pub ready_monitor : GoodMonitor shape.elements f
  ready_monitor = record {
    before_good = not_stray shape.elements f.before (λ i. unstray (inl i));
    since_good = not_stray shape.elements f.since (λ i. unstray (inr i));
  }

module _ (bytes : List ℕ) (f : Monitor) (entry exit : List ℕ) (answer : Result Shape Refused) (known : ReadyPromise bytes f entry exit answer) where
  pub ready_said : {shape : Shape} → answer ≡ Ok shape → ReadyPromise bytes f entry exit (Ok shape)
  ready_said e = subst (ReadyPromise bytes f entry exit) e known

  pub not_ready : {r : Refusal} {i place : ℕ} → answer ≡ Err (refused_by r i place) → ReadyPromise bytes f entry exit (Err (refused_by r i place))
  not_ready e = subst (ReadyPromise bytes f entry exit) e known
