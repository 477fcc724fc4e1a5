-- What a call on a lent monitor comes to, from what the call by value promises. Assumes nothing.
use Prim.Native.Nat.{ℕ}
use mathlib.Core.Path.{◌≡◌, sym, subst}
use mathlib.Core.List.{List}
use Rattle.promises.specs.declared.Monitor.{Monitor}
use Rattle.promises.specs.declared.Moved.{Moved}
use Rattle.promises.specs.declared.Moved.TheVariants.{To, Refused}
use Rattle.promises.specs.declared.InPlaceAnswer.{InPlaceAnswer}
use Rattle.promises.specs.Moves.{after_event, EventPromise}
use Rattle.event_in_place_call.specs.InPlace.{since_of, told_of}
use Rattle.promises.specs.InPlace.{EventInPlace}

-- the lent monitor with another since
abbrev pub with_since : Monitor → ℕ → Monitor
with_since f since = record { before = f.before; since = since }

module _ (bytes : List ℕ) (f : Monitor) (letter : ℕ) (entry exit : List ℕ) where
  -- the since of the monitor handed back is all that an event changes
  stored : (moved : Moved) → EventPromise bytes f letter entry exit moved → EventInPlace bytes f letter entry exit (with_since f (since_of moved)) (told_of moved)
  unfolding after_event
  stored (To g) p = record { refusal = p.refusal; monitor = λ i. with_since f (p.monitor i).since; scratch = p.scratch }
  stored (Refused g r j place) p = record { refusal = p.refusal; monitor = λ i. with_since f (p.monitor i).since; scratch = p.scratch }

  pub event_stored : {moved : Moved} {since : ℕ} {told : InPlaceAnswer} → EventPromise bytes f letter entry exit moved → since ≡ since_of moved → told ≡ told_of moved
      → EventInPlace bytes f letter entry exit (with_since f since) told
  event_stored {moved} {since} {told} p es et =
      subst (λ (x : ℕ). EventInPlace bytes f letter entry exit (with_since f x) told) (sym es)
      (subst (λ (x : InPlaceAnswer). EventInPlace bytes f letter entry exit (with_since f (since_of moved)) x) (sym et) (stored moved p))
