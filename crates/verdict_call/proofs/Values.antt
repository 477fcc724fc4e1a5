-- What the look at a monitor's two values shows, on each way. Assumes nothing.
use Rattle.std.specs.Prelude.{Result, Ok, Err}
use Rattle.answer.specs.declared.Fault.{Fault}
use Rattle.answer.proofs.Parts.{fault_by}
use Prim.Native.Nat.{ℕ, ◌<◌}
use mathlib.Core.Path.{◌≡◌, refl, subst}
use mathlib.Core.Bool.{true}
use mathlib.Core.Logic.{by_cases}
use native.Mathlib.Decide.{ℕ_discrete}
use borrow.Author.Tests.{eq-eqb, ne_eqb}
use Rattle.theory.specs.Rules.{Morphism, Marking, element}
use Rattle.theory.specs.Grades.{LassosGraded}
use Rattle.theory.proofs.EmptyStarts.{cycle_graded}
use Rattle.answer.specs.declared.Refusal.{Refusal}
use Rattle.answer.specs.declared.Refusal.TheVariants.{EntryOutOfRange, WordLength}
use Rattle.answer.specs.Checks.{refused, FirstFailure}
use Rattle.answer.proofs.Order.{first_passes, first_fails}
use Rattle.promises.specs.declared.Monitor.{Monitor}
use Rattle.promises.specs.Monitor.{no_value, value_of, monitor_value_check}
use Rattle.monitor_state.specs.Ready.{GoodMonitor, StrayAnswer}
use Rattle.monitor_state.proofs.Numbers.{good_not_stray, good_element, good_monitor}
use Rattle.promises.proofs.MonitorValues.{value_none, value_element}
use Rattle.promises.specs.Verdict.{none_check}
use Rattle.verdict_call.specs.Judging.{value_checks, start_element, Judgeable, ValuesAnswer}

-- the element that the start is judged by
pub start_none : (f : Monitor) → f.before ≡ no_value → start_element f ≡ f.since
unfolding start_element
start_none f e = simp (eq-eqb f.before no_value e)

pub start_some : (f : Monitor) → (f.before ≡ no_value → ⊥) → start_element f ≡ f.before
unfolding start_element
start_some f b = simp (ne_eqb f.before no_value b)

-- what is judged of it is so of the monitor's lassos: those whose start is empty are where a turn of the cycle stands for the start
pub start_graded : {m : Morphism} {marks : Marking} {g : ℕ} (f : Monitor) → LassosGraded m marks (element (start_element f)) f.since g
    → LassosGraded m marks (value_of f.before) f.since g
start_graded f k =
    by_cases (ℕ_discrete f.before no_value)
    (λ e. rw (value_none e) (cycle_graded (rw (start_none f e) at k)))
    (λ b. rw (value_element b) (rw (start_some f b) at k))

module _ (n : ℕ) (f : Monitor) where
  -- a value is stray
  pub values_stray : StrayAnswer n f true → FirstFailure (value_checks n f) (refused EntryOutOfRange 1 0)
  values_stray s = first_fails (monitor_value_check 1 n f) (record { stray = s; is_place = refl })

  module _ (good : GoodMonitor n f) where
    -- both are good, and since is none
    pub values_none : f.since ≡ no_value → FirstFailure (value_checks n f) (refused WordLength 1 0)
    values_none e =
        first_passes (record { nowhere = λ place t. good_monitor good t.stray })
        (first_fails (none_check f) (record { none = e; is_place = refl }))

    -- both are good, and since is an element
    pub values_judgeable : (f.since ≡ no_value → ⊥) → Judgeable n f
    values_judgeable s = record {
      before_good = good_not_stray n f.before good.before_good;
      start_inside =
          by_cases (ℕ_discrete f.before no_value) (λ e. rw (start_none f e) (good_element good.since_good s)) (λ b. rw (start_some f b) (good_element good.before_good b));
      since_inside = good_element good.since_good s;
      since_some = s;
    }

-- the element that was told is below the size
pub start_below : {n s : ℕ} {f : Monitor} → Judgeable n f → s ≡ start_element f → s < n
start_below j e = rw e j.start_inside

-- the answer, known by its case
module _ (n : ℕ) (f : Monitor) (answer : Result (Unit {0}) Fault) (known : ValuesAnswer n f answer) where
  pub said_judgeable : answer ≡ (Ok tt) → Judgeable n f
  said_judgeable e = subst (ValuesAnswer n f) e known

  pub said_fault : {r : Refusal} {place : ℕ} → answer ≡ Err (fault_by r place) → FirstFailure (value_checks n f) (refused r 1 place)
  said_fault e = subst (ValuesAnswer n f) e known
