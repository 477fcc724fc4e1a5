-- What an event and a mark make of a monitor by a checked table, and a step by its kind. Assumes nothing.
use Prim.Native.Nat.{ℕ, ◌≤◌, ◌<◌}
use mathlib.Core.Path.{◌≡◌, refl, sym, ap, ◌∙◌, subst}
use mathlib.Core.Logic.{inl, inr, by_cases}
use mathlib.Core.List.{List}
use native.Mathlib.Omega.{arith}
use native.Mathlib.Decide.{ℕ_discrete}
use Rattle.theory.specs.Rules.{Value, join}
use Rattle.formats.proofs.Tables.{Table}
use Rattle.formats.specs.Table.{morphism_at, image_at}
use Rattle.rule_table.proofs.Facts.{product_below}
use Rattle.promises.specs.declared.Monitor.{Monitor}
use Rattle.promises.specs.declared.Step.{Step}
use Rattle.promises.specs.declared.Step.TheVariants.{Event, Mark, Stay}
use Rattle.promises.specs.Monitor.{no_value, value_of, number_for}
use Rattle.promises.specs.Moves.{after_event, after_mark}
use Rattle.promises.specs.Advance.{after_step, ForeignStep}
use Rattle.promises.proofs.MonitorValues.{value_element}
use Rattle.monitor_state.specs.Ready.{GoodNumber, join_at, GoodMonitor}
use Rattle.monitor_state.proofs.Numbers.{join_left, join_right, join_both, good_element}

-- by a checked table: what an event makes of a monitor
module _ {bytes : List ℕ} {n k : ℕ} (table : Table bytes n k) {letter : ℕ} (known : letter < k) where
  -- an element is never 64
  image_element : image_at bytes n letter ≡ no_value → ⊥
  image_element e = omega (arith, table.images letter known, table.small)

  pub image_below : {h : ℕ} → h ≡ image_at bytes n letter → h < n
  image_below e = subst (λ (x : ℕ). x < n) (sym e) (table.images letter known)

  pub image_good : {h : ℕ} → h ≡ image_at bytes n letter → GoodNumber n h
  image_good e = inl (image_below e)

  since_is : (f : Monitor) → join_at bytes n k f.since (image_at bytes n letter) ≡ (after_event (morphism_at bytes n k) f letter).since
  unfolding join_at after_event
  since_is f = ap (λ (x : Value). number_for (join (morphism_at bytes n k) (value_of f.since) x)) (value_element image_element)

  pub after_event_is : {h next : ℕ} (f : Monitor) → h ≡ image_at bytes n letter → next ≡ join_at bytes n k f.since h
      → record { before = f.before; since = next } ≡ after_event (morphism_at bytes n k) f letter
  unfolding after_event
  after_event_is f e j =
      ap (λ (x : ℕ). let g : Monitor = record { before = f.before; since = x } in g) (j ∙ ap (join_at bytes n k f.since) e ∙ since_is f)

-- and what a mark does
pub after_mark_is : (bytes : List ℕ) (n k : ℕ) {next : ℕ} (f : Monitor) → next ≡ join_at bytes n k f.before f.since
    → record { before = next; since = no_value } ≡ after_mark (morphism_at bytes n k) f
unfolding after_mark join_at
after_mark_is bytes n k f j = ap (λ (x : ℕ). let g : Monitor = record { before = x; since = no_value } in g) j

-- an event by its letter
pub event_letter : (k : ℕ) {step : Step} {letter : ℕ} → step ≡ Event letter → (ForeignStep k step → ⊥) → letter < k
event_letter k {letter = letter} e f =
    let g : k ≤ letter → ⊥ = subst (λ (s : Step). ForeignStep k s → ⊥) e f in
    omega (arith, g)

-- the monitor after a step, and that its values are good
abbrev StepTaken : List ℕ → ℕ → ℕ → Monitor → Step → Monitor → Type 0
StepTaken bytes n k f step r = (r ≡ after_step (morphism_at bytes n k) f step) × GoodMonitor n r

-- by a checked table
module _ {bytes : List ℕ} {n k : ℕ} (table : Table bytes n k) where
  -- a product of values is a value
  pub join_good : {a b next : ℕ} → GoodNumber n a → GoodNumber n b → next ≡ join_at bytes n k a b → GoodNumber n next
  join_good {a} {b} {next} ga gb e =
      by_cases (ℕ_discrete a no_value) (λ none. rw (e ∙ sym (join_left bytes n k a b none)) gb)
      (λ left. by_cases (ℕ_discrete b no_value) (λ none. rw (e ∙ sym (join_right bytes n k a b none)) ga)
      (λ right. inl (product_below table (good_element ga left) (good_element gb right) (e ∙ sym (join_both bytes n k a b left right)))))

  module _ {f : Monitor} (g : GoodMonitor n f) {step : Step} where
    pub event_taken : {letter h next : ℕ} → step ≡ Event letter → letter < k → h ≡ image_at bytes n letter → next ≡ join_at bytes n k f.since h
        → StepTaken bytes n k f step (record { before = f.before; since = next })
    event_taken e l i j = (
      after_event_is table l f i j ∙ ap (after_step (morphism_at bytes n k) f) (sym e),
      record { before_good = g.before_good; since_good = join_good g.since_good (image_good table l i) j },
    )

    pub mark_taken : {next : ℕ} → step ≡ Mark → next ≡ join_at bytes n k f.before f.since → StepTaken bytes n k f step (record { before = next; since = no_value })
    mark_taken e j = (
      after_mark_is bytes n k f j ∙ ap (after_step (morphism_at bytes n k) f) (sym e),
      record { before_good = join_good g.before_good g.since_good j; since_good = inr refl },
    )

    pub stay_taken : step ≡ Stay → StepTaken bytes n k f step f
    stay_taken e = (ap (after_step (morphism_at bytes n k) f) (sym e), g)
