-- A monitor has the values of the two words of its history, however long it is. Assumes nothing.
use Prim.Native.Nat.{ℕ, ◌≤◌, ◌<◌}
use mathlib.Core.Path.{◌≡◌, refl, sym, ap, ◌∙◌, subst}
use mathlib.Core.List.{List, [], ◌∷◌, ◌++◌, append-nil}
use native.Mathlib.Omega.{arith}
use Rattle.answer.specs.Checks.{passed, FirstFailure}
use Rattle.answer.proofs.Order.{passed_first, passed_last, passes_head}
use Rattle.theory.specs.Words.{Over, over_nil, over_cons}
use Rattle.theory.specs.Rules.{Morphism, Value, element, join, value}
use Rattle.theory.proofs.Words.{over_append}
use Rattle.theory.proofs.Values.{Inside, inside_none, inside_element, join_none, join_inside, value_inside, value_append}
use Rattle.formats.specs.RuleFile.{letters_of, morphism_of}
use Rattle.formats.specs.Calls.{checked_checks}
use Rattle.formats.proofs.GoodRule.{GoodRule, called_good}
use Rattle.promises.specs.declared.Monitor.{Monitor}
use Rattle.promises.specs.Moves.{after_event, after_mark, event_checks}
use Rattle.promises.specs.declared.Step.{Step}
use Rattle.promises.specs.declared.Step.TheVariants.{Event, Mark, Stay}
use Rattle.promises.specs.EventWords.{after_word}
use Rattle.promises.specs.Advance.{after_step, ForeignStep, strong_monitor_checks, advance_checks, advance_word_checks}
use Rattle.promises.specs.Feed.{feed_checks}
use Rattle.promises.specs.Monitor.{no_value, value_of, number_for, fresh_monitor, monitor_checks}
use Rattle.promises.specs.Histories.{Action, event, mark, since_word, before_word, with_step, with_word, MonitorRun, begun, moved_by_event, moved_by_mark, moved_in_place, moved_by_advance, moved_by_word, event_refused, mark_refused, refused_in_place, advance_refused, word_refused, moved_by_feed, feed_refused, Follows}
use Rattle.promises.proofs.EventWords.{known_step, log_over}
use Rattle.promises.proofs.MonitorValues.{value_none, value_element, number_of_value}

-- a value of a rule with at most 64 elements is that of its number
pub value_of_number : {m : Morphism} {x : Value} → m.size ≤ 64 → Inside m x → value_of (number_for x) ≡ x
unfolding number_for
value_of_number small inside_none = value_none refl
value_of_number small (inside_element {s} h) = value_element (λ e. omega arith)

-- a word of one letter
value_letter : (m : Morphism) (letter : ℕ) → value m (letter ∷ []) ≡ element (m.image letter)
unfolding value join
value_letter m letter = refl

-- a mark changes nothing where nothing came since the last one
pub mark_of_nothing : (m : Morphism) (f : Monitor) → f.since ≡ no_value → after_mark m f ≡ f
unfolding after_mark
mark_of_nothing m f e =
    let left : number_for (join m (value_of f.before) (value_of f.since)) ≡ f.before =
    ap (λ (x : Value). number_for (join m (value_of f.before) x)) (value_none e) ∙ ap number_for (join_none m (value_of f.before)) ∙ number_of_value f.before in
    λ i. record { before = left i; since = sym e i }

-- nor does it change the words
pub words_of_nothing : (history : List Action) → since_word history ≡ [] → before_word (mark ∷ history) ≡ before_word history
unfolding before_word
words_of_nothing history e = ap (λ (w : List ℕ). before_word history ++ w) e ∙ append-nil (before_word history)

-- the monitor that a refused call hands back is the same
pub same_follows : {bytes : List ℕ} {f g : Monitor} {history : List Action} → g ≡ f → Follows bytes f history → Follows bytes g history
same_follows {bytes} {history = history} e p = subst (λ (x : Monitor). Follows bytes x history) (sym e) p

-- an event that passed: the monitor's checks did, and the letter is one of the rule's
module _ (bytes : List ℕ) (f : Monitor) (letter : ℕ) (entry : List ℕ) (all : FirstFailure (event_checks bytes f letter entry) passed) where
  event_monitor : FirstFailure (monitor_checks bytes f entry) passed
  event_monitor = passed_first (monitor_checks bytes f entry) _ all

  event_letter : letter < letters_of bytes
  event_letter =
      let not : letters_of bytes ≤ letter → ⊥ = λ h. (passes_head (passed_last (monitor_checks bytes f entry) _ all)).nowhere 0 (record { foreign = h; is_place = refl }) in
      omega arith

-- what a good rule makes of the words
module _ (bytes : List ℕ) (good : GoodRule bytes) {f : Monitor} {history : List Action} (p : Follows bytes f history) where
  -- the product of two words' values, kept as a number and read again, is the value of the words in a row
  joined : {x y : Value} {v w : List ℕ} → x ≡ value (morphism_of bytes) v → y ≡ value (morphism_of bytes) w → Over (letters_of bytes) v → Over (letters_of bytes) w
      → value_of (number_for (join (morphism_of bytes) x y)) ≡ value (morphism_of bytes) (v ++ w)
  joined {x} {y} {v} {w} ex ey ov ow =
      ap (λ (z : Value). value_of (number_for (join (morphism_of bytes) z y))) ex
      ∙ ap (λ (z : Value). value_of (number_for (join (morphism_of bytes) (value (morphism_of bytes) v) z))) ey
      ∙ value_of_number good.table.small (join_inside good.lawful (value_inside good.lawful ov) (value_inside good.lawful ow))
      ∙ sym (value_append good.lawful ov ow)

  pub after_event_lem : (letter : ℕ) → letter < letters_of bytes → Follows bytes (after_event (morphism_of bytes) f letter) (event letter ∷ history)
  unfolding after_event since_word before_word
  after_event_lem letter h = record {
    before_over = p.before_over;
    since_over = over_append p.since_over (over_cons h over_nil);
    before_value = p.before_value;
    since_value = joined p.since_value (sym (value_letter (morphism_of bytes) letter)) p.since_over (over_cons h over_nil);
  }

  pub after_mark_lem : Follows bytes (after_mark (morphism_of bytes) f) (mark ∷ history)
  unfolding after_mark since_word before_word value
  after_mark_lem = record {
    before_over = over_append p.before_over p.since_over;
    since_over = over_nil;
    before_value = joined p.before_value p.since_value p.before_over p.since_over;
    since_value = value_none refl;
  }

  pub after_step_lem : (step : Step) → (ForeignStep (letters_of bytes) step → ⊥) → Follows bytes (after_step (morphism_of bytes) f step) (with_step step history)
  after_step_lem (Event letter) known = after_event_lem letter (let h : letters_of bytes ≤ letter → ⊥ = known in omega arith)
  after_step_lem Mark known = after_mark_lem
  after_step_lem Stay known = p

-- an event for each letter of a word
pub after_word_lem : (bytes : List ℕ) → GoodRule bytes → {f : Monitor} {history : List Action} {w : List ℕ} → Over (letters_of bytes) w → Follows bytes f history
    → Follows bytes (after_word (morphism_of bytes) f w) (with_word w history)
unfolding after_word with_word
after_word_lem bytes good over_nil p = p
after_word_lem bytes good {f = f} {history = history} (over_cons {a = a} {w = w} known over) p =
    after_word_lem bytes good {f = after_event (morphism_of bytes) f a} {history = event a ∷ history} {w = w} over (after_event_lem bytes good p a known)

module _ (bytes : List ℕ) where
  -- what a call that moved the monitor knows of the rule
  monitor_good : (f : Monitor) (entry : List ℕ) → FirstFailure (monitor_checks bytes f entry) passed → GoodRule bytes
  monitor_good f entry all = called_good 1 bytes entry (passed_first (checked_checks 1 bytes entry) _ all)

  strong_monitor_good : (input : ℕ) (f : Monitor) (entry : List ℕ) → FirstFailure (strong_monitor_checks input bytes f entry) passed → GoodRule bytes
  strong_monitor_good input f entry all = called_good input bytes entry (passed_first (checked_checks input bytes entry) _ all)

  pub fresh_follows : Follows bytes fresh_monitor []
  unfolding since_word before_word value
  fresh_follows = record { before_over = over_nil; since_over = over_nil; before_value = value_none refl; since_value = value_none refl }

  -- an event that passed, on a monitor by value or on one that is lent
  event_follows : {g : Monitor} {history : List Action} (f : Monitor) (letter : ℕ) (entry : List ℕ) → FirstFailure (event_checks bytes f letter entry) passed
      → g ≡ after_event (morphism_of bytes) f letter → Follows bytes f history → Follows bytes g (event letter ∷ history)
  event_follows f letter entry all e p =
      same_follows e (after_event_lem bytes (monitor_good f entry (event_monitor bytes f letter entry all)) p letter (event_letter bytes f letter entry all))

  -- a step that passed
  step_follows : {g : Monitor} {history : List Action} (input : ℕ) (f : Monitor) (step : Step) (entry : List ℕ) → FirstFailure (advance_checks input bytes f step entry) passed
      → g ≡ after_step (morphism_of bytes) f step → Follows bytes f history → Follows bytes g (with_step step history)
  step_follows input f step entry all e p =
      same_follows e (after_step_lem bytes (strong_monitor_good input f entry (passed_first (strong_monitor_checks input bytes f entry) _ all)) p step
      (known_step input (letters_of bytes) step (passed_last (strong_monitor_checks input bytes f entry) _ all)))

  -- a word of events that did
  word_follows : {g : Monitor} {history : List Action} (input : ℕ) (f : Monitor) (w entry : List ℕ) → FirstFailure (advance_word_checks input bytes f w entry) passed
      → g ≡ after_word (morphism_of bytes) f w → Follows bytes f history → Follows bytes g (with_word w history)
  word_follows input f w entry all e p =
      same_follows e (after_word_lem bytes (strong_monitor_good input f entry (passed_first (strong_monitor_checks input bytes f entry) _ all))
      (log_over input (letters_of bytes) w (passed_last (strong_monitor_checks input bytes f entry) _ all)) p)

  -- and one that was fed
  feed_follows : {g : Monitor} {history : List Action} (f : Monitor) (w entry : List ℕ) → FirstFailure (feed_checks bytes f w entry) passed
      → g ≡ after_word (morphism_of bytes) f w → Follows bytes f history → Follows bytes g (with_word w history)
  feed_follows f w entry all e p =
      same_follows e (after_word_lem bytes (monitor_good f entry (passed_first (monitor_checks bytes f entry) _ all))
      (log_over 1 (letters_of bytes) w (passed_last (monitor_checks bytes f entry) _ all)) p)

  -- a monitor that calls have led to has the values of its history's words
  pub run_follows : {f : Monitor} {history : List Action} → MonitorRun bytes f history → Follows bytes f history
  run_follows (begun e) = same_follows e fresh_follows
  run_follows (moved_by_event {f} {letter = letter} {entry = entry} r p) = event_follows f letter entry p.refusal p.monitor (run_follows r)
  run_follows (moved_by_mark {f} {entry = entry} r p) = same_follows p.monitor (after_mark_lem bytes (monitor_good f entry p.refusal) (run_follows r))
  run_follows (moved_in_place {f} {letter = letter} {entry = entry} r p) = event_follows f letter entry p.refusal p.monitor (run_follows r)
  run_follows (moved_by_advance {f} {input = input} {step = step} {entry = entry} r p) = step_follows input f step entry p.refusal p.answered.moved (run_follows r)
  run_follows (moved_by_word {f} {input = input} {w = w} {entry = entry} r p) = word_follows input f w entry p.refusal p.answered.moved (run_follows r)
  run_follows (moved_by_feed {f} {w = w} {entry = entry} r p) = feed_follows f w entry p.refusal p.monitor (run_follows r)
  run_follows (event_refused r p) = same_follows p.monitor (run_follows r)
  run_follows (mark_refused r p) = same_follows p.monitor (run_follows r)
  run_follows (refused_in_place r p) = same_follows p.monitor (run_follows r)
  run_follows (advance_refused r p) = same_follows p.answered (run_follows r)
  run_follows (word_refused r p) = same_follows p.answered (run_follows r)
  run_follows (feed_refused r p) = same_follows p.monitor (run_follows r)
