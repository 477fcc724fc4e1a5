-- Whatever events, marks, keeps and returns were called, refused ones included: the monitor is the one that a fresh monitor becomes by the
-- history alone, so is the point under each name by the history that it stores, and the verdict is the same. Every sequence of
-- calls has such a history. Assumes nothing.
use Prim.Native.Nat.{ℕ, ◌≤◌, ◌<◌}
use mathlib.Core.Path.{◌≡◌, refl, sym, ap, ◌∙◌, subst}
use mathlib.Core.Bool.{cond}
use mathlib.Core.List.{List, [], ◌∷◌}
use mathlib.Core.Logic.{◌≢◌}
use native.Mathlib.Omega.{arith}
use native.Mathlib.Decide.{ℕ_discrete}
use borrow.Author.Tests.{eq-eqb, ne_eqb}
use lib.Dec.{eqb}
use lib.ListN.{length}
use Rattle.answer.specs.Checks.{Verdict, Check, FirstFailure}
use Rattle.answer.proofs.Order.{FirstCase, decides_now, hands_on, first_case}
use Rattle.theory.specs.Rules.{Morphism}
use Rattle.formats.specs.RuleFile.{morphism_of}
use Rattle.formats.specs.RuleChecks.{scratch_size, buffer_check}
use Rattle.formats.specs.Calls.{after_call}
use Rattle.formats.proofs.Buffers.{buffer_long}
use Rattle.promises.specs.declared.Monitor.{Monitor}
use Rattle.promises.specs.declared.Moved.{Moved}
use Rattle.promises.specs.declared.Moved.TheVariants.{To, Refused}
use Rattle.promises.specs.declared.InPlaceAnswer.{InPlaceAnswer}
use Rattle.promises.specs.declared.InPlaceAnswer.TheVariants.{Done, Refused as Not-done}
use Rattle.promises.specs.declared.LassoVerdict.{LassoVerdict}
use Rattle.promises.specs.Monitor.{fresh_monitor}
use Rattle.promises.specs.Moves.{after_event, after_mark, EventPromise, MarkPromise}
use Rattle.promises.specs.InPlace.{EventInPlace}
use Rattle.promises.specs.declared.Step.{Step}
use Rattle.promises.specs.declared.Step.TheVariants.{Event, Mark, Stay}
use Rattle.promises.specs.declared.Advanced.{Advanced}
use Rattle.promises.specs.declared.Advanced.TheVariants.{To as Advanced-to, Refused as Not-advanced}
use Rattle.promises.specs.EventWords.{after_word}
use Rattle.promises.specs.Advance.{after_step, AdvancePromise, AdvanceWordPromise}
use Rattle.promises.specs.Feed.{FeedPromise}
use Rattle.promises.specs.Verdict.{VerdictPromise}
use Rattle.promises.specs.Histories.{Action, event, MonitorRun, begun as run-begun, moved_by_event as run-event, moved_by_mark as run-mark, moved_in_place as run-in-place, moved_by_advance as run-advance, moved_by_word as run-word, moved_by_feed as run-feed, event_refused as run-event-refused, mark_refused as run-mark-refused, refused_in_place as run-refused-in-place, advance_refused as run-advance-refused, word_refused as run-word-refused, feed_refused as run-feed-refused, with_step, with_word}
use Rattle.promises.specs.Points.{names_count, points_size, NeverKept, point_at, kept_points, KeepPromise, ReturnPromise}
use Rattle.promises.specs.PointsTheorem.{Logged, handed_back, advanced_monitor}
use Rattle.promises.specs.Logs.{Stored, never, stored, stored_at, Log, begun, moved_by_event, moved_by_mark, moved_in_place, moved_by_advance, moved_by_word, moved_by_feed, kept, returned, event_refused, mark_refused, refused_in_place, advance_refused, word_refused, feed_refused, keep_refused, return_refused, after_history}
use Rattle.promises.proofs.OneVerdict.{one_answer}
use Rattle.promises.proofs.Points.{other_flag, other_point, kept_kept, kept_point, keep_room, keep_named, return_named, return_kept}

-- the monitor after a history with a step more, and with a word of events more
history_step : (m : Morphism) {f : Monitor} (history : List Action) (step : Step) → f ≡ after_history m history → after_step m f step ≡ after_history m (with_step step history)
unfolding after_history
history_step m history (Event letter) e = ap (λ (x : Monitor). after_event m x letter) e
history_step m history Mark e = ap (after_mark m) e
history_step m history Stay e = e

history_word : (m : Morphism) {f : Monitor} (history : List Action) (w : List ℕ) → f ≡ after_history m history → after_word m f w ≡ after_history m (with_word w history)
unfolding after_word with_word
history_word m history [] e = e
history_word m {f = f} history (letter ∷ w) e =
    history_word m {f = after_step m f (Event letter)} (event letter ∷ history) w (history_step m history (Event letter) e)

-- a monitor that calls have led to is the one after its history
pub run_monitor : (bytes : List ℕ) {f : Monitor} {history : List Action} → MonitorRun bytes f history → f ≡ after_history (morphism_of bytes) history
unfolding after_history
run_monitor bytes (run-begun e) = e
run_monitor bytes (run-event {letter = letter} r p) = p.monitor ∙ ap (λ (x : Monitor). after_event (morphism_of bytes) x letter) (run_monitor bytes r)
run_monitor bytes (run-mark r p) = p.monitor ∙ ap (after_mark (morphism_of bytes)) (run_monitor bytes r)
run_monitor bytes (run-in-place {letter = letter} r p) = p.monitor ∙ ap (λ (x : Monitor). after_event (morphism_of bytes) x letter) (run_monitor bytes r)
run_monitor bytes (run-advance {history = history} {step = step} r p) = p.answered.moved ∙ history_step (morphism_of bytes) history step (run_monitor bytes r)
run_monitor bytes (run-word {history = history} {w = w} r p) = p.answered.moved ∙ history_word (morphism_of bytes) history w (run_monitor bytes r)
run_monitor bytes (run-feed {history = history} {w = w} r p) = p.monitor ∙ history_word (morphism_of bytes) history w (run_monitor bytes r)
run_monitor bytes (run-event-refused r p) = p.monitor ∙ run_monitor bytes r
run_monitor bytes (run-mark-refused r p) = p.monitor ∙ run_monitor bytes r
run_monitor bytes (run-refused-in-place r p) = p.monitor ∙ run_monitor bytes r
run_monitor bytes (run-advance-refused r p) = p.answered ∙ run_monitor bytes r
run_monitor bytes (run-word-refused r p) = p.answered ∙ run_monitor bytes r
run_monitor bytes (run-feed-refused r p) = p.monitor ∙ run_monitor bytes r

-- behind a buffer that is long enough the other checks have decided
after_buffer : {needed : ℕ} {buffer : List ℕ} {checks : List Check} {v : Verdict} → needed ≤ length buffer → FirstFailure (buffer_check needed buffer ∷ checks) v
    → FirstFailure checks v
after_buffer {needed} {buffer} {checks} {v} long f = go (first_case f)
  where
    go : FirstCase (buffer_check needed buffer) checks v → FirstFailure checks v
    go (decides_now r) = absurd (omega (arith, long, r.fails.short))
    go (hands_on p g) = g

-- a verdict is the same with any scratch that is long enough
other_scratch : {bytes : List ℕ} {f : Monitor} {entry entry' exit : List ℕ} {answer : LassoVerdict} → scratch_size ≤ length entry → scratch_size ≤ length entry'
    → VerdictPromise bytes f entry exit answer → VerdictPromise bytes f entry' (after_call entry') answer
other_scratch long long' p = record { refusal = buffer_long long' (after_buffer long p.refusal); answered = p.answered; scratch = refl }

-- what the bytes of a name hold, by what it stores: nothing, or the monitor of the stored history
abbrev pub Holds : List ℕ → List ℕ → ℕ → Stored → Type 0
Holds bytes points name never = NeverKept points name
Holds bytes points name (stored history) = (NeverKept points name → ⊥) × MonitorRun bytes (point_at points name) history

-- the monitor is that of the history, and each point that of the stored one
pub record Faithful (bytes : List ℕ) (f : Monitor) (points : List ℕ) (history : List Action) (names : ℕ → Stored) : Type 0 where
  pub run : MonitorRun bytes f history
  pub held : (name : ℕ) → name < names_count → Holds bytes points name (names name)

module _ (bytes : List ℕ) where
  same_run : {f g : Monitor} {history : List Action} → g ≡ f → MonitorRun bytes f history → MonitorRun bytes g history
  same_run {history = history} e r = subst (λ (x : Monitor). MonitorRun bytes x history) (sym e) r

  -- a keep under another name
  other_holds : (points : List ℕ) (name : ℕ) (f : Monitor) (other : ℕ) → other ≢ name → (s : Stored) → Holds bytes points other s
      → Holds bytes (kept_points points name f) other s
  other_holds points name f other h never k = other_flag points name f other h ∙ k
  other_holds points name f other h (stored history) k =
      (λ e. k.0 (sym (other_flag points name f other h) ∙ e), same_run (other_point points name f other h) k.1)

  -- after a keep every name holds what it stores
  keep_holds : (points : List ℕ) (name : ℕ) (f : Monitor) (history : List Action) (names : ℕ → Stored) → points_size ≤ length points → name < names_count
      → MonitorRun bytes f history → ((other : ℕ) → other < names_count → Holds bytes points other (names other))
      → (other : ℕ) → other < names_count → Holds bytes (kept_points points name f) other (stored_at names name history other)
  unfolding stored_at
  keep_holds points name f history names room named run held other l = go (ℕ_discrete other name)
    where
      go : Dec (other ≡ name) → Holds bytes (kept_points points name f) other (cond (eqb other name) (stored history) (names other))
      go (yes e) =
          rw (eq-eqb other name e)
          (subst (λ (x : ℕ). Holds bytes (kept_points points name f) x (stored history)) (sym e)
          (kept_kept points name f room named, same_run (kept_point points name f room named) run))
      go (no h) = rw (ne_eqb other name h) (other_holds points name f other h (names other) (held other l))

  pub log_faithful : {f : Monitor} {points : List ℕ} {history : List Action} {names : ℕ → Stored} → Log bytes f points history names
      → Faithful bytes f points history names
  log_faithful (begun e none) = record { run = run-begun e; held = none }
  log_faithful (moved_by_event l p) = let k = log_faithful l in record { run = run-event k.run p; held = k.held }
  log_faithful (moved_by_mark l p) = let k = log_faithful l in record { run = run-mark k.run p; held = k.held }
  log_faithful (moved_in_place l p) = let k = log_faithful l in record { run = run-in-place k.run p; held = k.held }
  log_faithful (moved_by_advance l p) = let k = log_faithful l in record { run = run-advance k.run p; held = k.held }
  log_faithful (moved_by_word l p) = let k = log_faithful l in record { run = run-word k.run p; held = k.held }
  log_faithful (moved_by_feed l p) = let k = log_faithful l in record { run = run-feed k.run p; held = k.held }
  log_faithful (kept {f} {points = points} {history = history} {names = names} {name = name} {entry = entry} l p) =
      let k = log_faithful l in
      let room = keep_room bytes f name points entry p.refusal in
      let named = keep_named bytes f name points entry p.refusal in
      record {
        run = same_run p.monitor k.run;
        held = subst (λ (x : List ℕ). (other : ℕ) → other < names_count → Holds bytes x other (stored_at names name history other)) (sym p.points)
            (keep_holds points name f history names room named k.run k.held);
      }
  log_faithful (returned {f} {points = points} {past = past} {name = name} {entry = entry} l e p) =
      let k = log_faithful l in
      let h : Holds bytes points name (stored past) = subst (Holds bytes points name) e (k.held name (return_named bytes f name points entry p.refusal)) in
      record { run = same_run p.monitor h.1; held = k.held }
  log_faithful (event_refused l p) = let k = log_faithful l in record { run = same_run p.monitor k.run; held = k.held }
  log_faithful (mark_refused l p) = let k = log_faithful l in record { run = same_run p.monitor k.run; held = k.held }
  log_faithful (refused_in_place l p) = let k = log_faithful l in record { run = same_run p.monitor k.run; held = k.held }
  log_faithful (advance_refused l p) = let k = log_faithful l in record { run = same_run p.answered k.run; held = k.held }
  log_faithful (word_refused l p) = let k = log_faithful l in record { run = same_run p.answered k.run; held = k.held }
  log_faithful (feed_refused l p) = let k = log_faithful l in record { run = same_run p.monitor k.run; held = k.held }
  log_faithful (keep_refused {names = names} l p) =
      let k = log_faithful l in
      record {
        run = same_run p.monitor k.run;
        held = subst (λ (x : List ℕ). (other : ℕ) → other < names_count → Holds bytes x other (names other)) (sym p.points) k.held;
      }
  log_faithful (return_refused l p) = let k = log_faithful l in record { run = same_run p.monitor k.run; held = k.held }

  module _ {f : Monitor} {points : List ℕ} {history : List Action} {names : ℕ → Stored} (log : Log bytes f points history names) where
    -- events and marks alone lead to it, those of the history
    pub log_run : MonitorRun bytes f history
    log_run = (log_faithful log).run

    -- the monitor is the one that a fresh monitor becomes by the history alone
    pub log_monitor : f ≡ after_history (morphism_of bytes) history
    log_monitor = run_monitor bytes log_run

    -- so is each point by the history that its name stores
    pub log_point : (name : ℕ) → name < names_count → {past : List Action} → names name ≡ stored past → point_at points name ≡ after_history (morphism_of bytes) past
    log_point name l e = run_monitor bytes (subst (Holds bytes points name) e ((log_faithful log).held name l)).1

    -- a monitor that saw the history alone has the same verdict, whatever scratch, long enough, each is asked with
    pub log_verdict : {g : Monitor} {entry entry' exit exit' : List ℕ} {answer answer' : LassoVerdict} → scratch_size ≤ length entry → scratch_size ≤ length entry'
        → MonitorRun bytes g history → VerdictPromise bytes f entry exit answer → VerdictPromise bytes g entry' exit' answer' → answer ≡ answer'
    log_verdict {g} {entry} {entry'} {exit} {exit'} {answer} {answer'} long long' run p q =
        let same : g ≡ f = run_monitor bytes run ∙ sym log_monitor in
        one_answer answer answer' p (other_scratch long' long (subst (λ (x : Monitor). VerdictPromise bytes x entry' exit' answer') same q))

    -- a return that passed goes to a name that stores a history
    pub return_stored : {name : ℕ} {entry exit : List ℕ} {g : Monitor} → ReturnPromise bytes f name points entry exit (To g)
        → (past : List Action) × (names name ≡ stored past)
    return_stored {name} {entry} p = go (names name) refl
      where
        holds : (s : Stored) → names name ≡ s → Holds bytes points name s
        holds s e = subst (Holds bytes points name) e ((log_faithful log).held name (return_named bytes f name points entry p.refusal))

        go : (s : Stored) → names name ≡ s → (past : List Action) × (names name ≡ stored past)
        go never e = absurd (return_kept bytes f name points entry p.refusal (holds never e))
        go (stored past) e = (past, e)

-- every sequence of calls has a history: it has one at first, and whatever a call answers, it has one after the call
module _ {bytes : List ℕ} where
  pub fresh_logged : {points : List ℕ} → ((name : ℕ) → name < names_count → NeverKept points name) → Logged bytes fresh_monitor points
  fresh_logged none = record { history = []; names = λ name. never; log = begun refl none }

  module _ {f : Monitor} {points : List ℕ} (l : Logged bytes f points) {entry exit : List ℕ} where
    pub event_logged : {letter : ℕ} (answer : Moved) → EventPromise bytes f letter entry exit answer → Logged bytes (handed_back answer) points
    event_logged (To g) p = record { history = _; names = _; log = moved_by_event l.log p }
    event_logged (Refused g refusal input place) p = record { history = _; names = _; log = event_refused l.log p }

    pub mark_logged : (answer : Moved) → MarkPromise bytes f entry exit answer → Logged bytes (handed_back answer) points
    mark_logged (To g) p = record { history = _; names = _; log = moved_by_mark l.log p }
    mark_logged (Refused g refusal input place) p = record { history = _; names = _; log = mark_refused l.log p }

    pub in_place_logged : {letter : ℕ} {g : Monitor} (answer : InPlaceAnswer) → EventInPlace bytes f letter entry exit g answer → Logged bytes g points
    in_place_logged Done p = record { history = _; names = _; log = moved_in_place l.log p }
    in_place_logged (Not-done refusal input place) p = record { history = _; names = _; log = refused_in_place l.log p }

    pub advance_logged : {input : ℕ} {step : Step} (answer : Advanced) → AdvancePromise input bytes f step entry exit answer → Logged bytes (advanced_monitor answer) points
    advance_logged (Advanced-to g grade turns) p = record { history = _; names = _; log = moved_by_advance l.log p }
    advance_logged (Not-advanced g refusal i place) p = record { history = _; names = _; log = advance_refused l.log p }

    pub advance_word_logged : {input : ℕ} {w : List ℕ} (answer : Advanced) → AdvanceWordPromise input bytes f w entry exit answer → Logged bytes (advanced_monitor answer) points
    advance_word_logged (Advanced-to g grade turns) p = record { history = _; names = _; log = moved_by_word l.log p }
    advance_word_logged (Not-advanced g refusal i place) p = record { history = _; names = _; log = word_refused l.log p }

    pub feed_logged : {w : List ℕ} (answer : Moved) → FeedPromise bytes f w entry exit answer → Logged bytes (handed_back answer) points
    feed_logged (To g) p = record { history = _; names = _; log = moved_by_feed l.log p }
    feed_logged (Refused g refusal input place) p = record { history = _; names = _; log = feed_refused l.log p }

    pub keep_logged : {name : ℕ} {points-exit : List ℕ} (answer : Moved) → KeepPromise bytes f name points points-exit entry exit answer
        → Logged bytes (handed_back answer) points-exit
    keep_logged (To g) p = record { history = _; names = _; log = kept l.log p }
    keep_logged (Refused g refusal input place) p = record { history = _; names = _; log = keep_refused l.log p }

    pub return_logged : {name : ℕ} (answer : Moved) → ReturnPromise bytes f name points entry exit answer → Logged bytes (handed_back answer) points
    return_logged (To g) p = let s = return_stored bytes l.log p in record { history = s.0; names = _; log = returned l.log s.1 p }
    return_logged (Refused g refusal input place) p = record { history = _; names = _; log = return_refused l.log p }
