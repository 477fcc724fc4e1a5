-- Two answers of a call on a monitor, for the same rule, monitor, letter and scratch, are one, and leave scratch alike. Assumes nothing.
use Prim.Native.Nat.{ℕ}
use mathlib.Core.Path.{◌≡◌, sym, ap, ◌∙◌}
use mathlib.Core.List.{List}
use Rattle.answer.proofs.Order.{AllSingle, single_nil, single_at, single_cons, single_append, one_verdict}
use Rattle.answer.proofs.Verdicts.{same_refusal, not_passed}
use Rattle.formats.specs.RuleFile.{morphism_of}
use Rattle.formats.proofs.OneVerdict.{checked_single}
use Rattle.promises.specs.declared.Monitor.{Monitor}
use Rattle.promises.specs.declared.Moved.{Moved}
use Rattle.promises.specs.declared.Moved.TheVariants.{To, Refused}
use Rattle.promises.specs.Moves.{LoneUnknownLetterAt, after_event, after_mark, event_checks, moved_verdict, HandsBack, EventPromise, MarkPromise}
use Rattle.promises.specs.Monitor.{monitor_checks, MonitorValueOutOfRangeAt}

-- each check of a call on a monitor fails at one place at most
pub monitor_single : (bytes : List ℕ) (f : Monitor) (entry : List ℕ) → AllSingle (monitor_checks bytes f entry)
monitor_single bytes f entry = single_append (checked_single 1 bytes entry) (single_cons (single_at (λ place (a : MonitorValueOutOfRangeAt _ _ place). a.is_place)) single_nil)

pub event_single : (bytes : List ℕ) (f : Monitor) (letter : ℕ) (entry : List ℕ) → AllSingle (event_checks bytes f letter entry)
event_single bytes f letter entry = single_append (monitor_single bytes f entry) (single_cons (single_at (λ place (a : LoneUnknownLetterAt _ _ place). a.is_place)) single_nil)

-- answers with one verdict that hand back one monitor
pub same_moved : (f next : Monitor) (a b : Moved) → HandsBack f next a → HandsBack f next b → moved_verdict a ≡ moved_verdict b → a ≡ b
same_moved f next (To g) (To h) p q e = ap To (p ∙ sym q)
same_moved f next (To g) (Refused h r i place) p q e = absurd (not_passed (sym e))
same_moved f next (Refused g r i place) (To h) p q e = absurd (not_passed e)
same_moved f next (Refused g r i place) (Refused h r' i' place') p q e =
    same_refusal (Refused g) r r' i i' place place' e ∙ ap (λ (x : Monitor). Refused x r' i' place') (p ∙ sym q)

module _ {bytes : List ℕ} {f : Monitor} {entry exit exit' : List ℕ} where
  pub one_mark : {answer answer' : Moved} → MarkPromise bytes f entry exit answer → MarkPromise bytes f entry exit' answer' → answer ≡ answer'
  one_mark {answer} {answer'} p q =
      same_moved f (after_mark (morphism_of bytes) f) answer answer' p.monitor q.monitor (one_verdict (monitor_single bytes f entry) p.refusal q.refusal)

  pub one_mark_scratch : {answer answer' : Moved} → MarkPromise bytes f entry exit answer → MarkPromise bytes f entry exit' answer' → exit ≡ exit'
  one_mark_scratch p q = p.scratch ∙ sym q.scratch

  module _ {letter : ℕ} where
    pub one_event : {answer answer' : Moved} → EventPromise bytes f letter entry exit answer → EventPromise bytes f letter entry exit' answer' → answer ≡ answer'
    one_event {answer} {answer'} p q =
        same_moved f (after_event (morphism_of bytes) f letter) answer answer' p.monitor q.monitor
        (one_verdict (event_single bytes f letter entry) p.refusal q.refusal)

    pub one_event_scratch : {answer answer' : Moved} → EventPromise bytes f letter entry exit answer → EventPromise bytes f letter entry exit' answer' → exit ≡ exit'
    one_event_scratch p q = p.scratch ∙ sym q.scratch
