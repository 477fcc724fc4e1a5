-- Two answers of a keep, or of a return, for the same rule, monitor, name, points and scratch are one, and leave points and scratch alike. A
-- return can be made again. Assumes nothing.
use Prim.Native.Nat.{ℕ}
use mathlib.Core.Path.{◌≡◌, refl, sym, ap, ◌∙◌, subst}
use mathlib.Core.Logic.{◌⊎◌, inr, ⊎_elim}
use mathlib.Core.List.{List, [], ◌∷◌}
use Rattle.answer.specs.Checks.{passed, FirstFailure}
use Rattle.answer.proofs.Order.{AllSingle, single_nil, single_at, single_cons, single_append, one_verdict, first_passes, none_left, passed_before, passed_first, passed_last, passes_head, passes_tail}
use Rattle.answer.proofs.Verdicts.{not_passed}
use Rattle.formats.specs.RuleFile.{elements_of}
use Rattle.formats.specs.RuleChecks.{buffer_check}
use Rattle.formats.specs.Calls.{checked_checks}
use Rattle.formats.proofs.Buffers.{buffer_single}
use Rattle.formats.proofs.OneVerdict.{checked_single}
use Rattle.promises.specs.declared.Monitor.{Monitor}
use Rattle.promises.specs.declared.Moved.{Moved}
use Rattle.promises.specs.declared.Moved.TheVariants.{To, Refused}
use Rattle.promises.specs.Monitor.{ValueOutOfRange}
use Rattle.promises.specs.Moves.{moved_verdict}
use Rattle.promises.specs.Points.{points_size, point_at, kept_points, PointOutOfRange, name_check, never_kept_check, point_values_check, NameOutOfRangeAt, NameNeverKeptAt, MonitorOrPointOutOfRangeAt, keep_checks, return_checks, LeavesPoints, KeepPromise, ReturnPromise}
use Rattle.promises.proofs.OneMove.{same_moved}
use Rattle.promises.proofs.Points.{return_named, return_kept}

-- each check of a keep fails at one place at most
pub keep_single : (bytes : List ℕ) (f : Monitor) (name : ℕ) (points entry : List ℕ) → AllSingle (keep_checks bytes f name points entry)
keep_single bytes f name points entry =
    buffer_single
    (single_append (checked_single 1 bytes entry)
    (single_cons (single_at (λ place (a : NameOutOfRangeAt _ place). a.is_place))
    (single_cons (single_at (λ place (a : MonitorOrPointOutOfRangeAt _ _ _ place). a.is_place)) single_nil)))

-- and each of a return
pub return_single : (bytes : List ℕ) (f : Monitor) (name : ℕ) (points entry : List ℕ) → AllSingle (return_checks bytes f name points entry)
return_single bytes f name points entry =
    buffer_single
    (single_append (checked_single 1 bytes entry)
    (single_cons (single_at (λ place (a : NameOutOfRangeAt _ place). a.is_place))
    (single_cons (single_at (λ place (a : NameNeverKeptAt _ _ place). a.is_place))
    (single_cons (single_at (λ place (a : MonitorOrPointOutOfRangeAt _ _ _ place). a.is_place)) single_nil))))

-- answers with one verdict leave the same points
same_points : (entry next : List ℕ) (a b : Moved) {exit exit' : List ℕ} → LeavesPoints entry next exit a → LeavesPoints entry next exit' b → moved_verdict a ≡ moved_verdict b
    → exit ≡ exit'
same_points entry next (To g) (To h) p q e = p ∙ sym q
same_points entry next (To g) (Refused h r i place) p q e = absurd (not_passed (sym e))
same_points entry next (Refused g r i place) (To h) p q e = absurd (not_passed e)
same_points entry next (Refused g r i place) (Refused h r' i' place') p q e = p ∙ sym q

module _ {bytes : List ℕ} {f : Monitor} {name : ℕ} {points entry exit exit' : List ℕ} where
  module _ {points-exit points-exit' : List ℕ} {answer answer' : Moved}
      (p : KeepPromise bytes f name points points-exit entry exit answer) (q : KeepPromise bytes f name points points-exit' entry exit' answer') where
    same_verdict : moved_verdict answer ≡ moved_verdict answer'
    same_verdict = one_verdict (keep_single bytes f name points entry) p.refusal q.refusal

    pub one_keep : answer ≡ answer'
    one_keep = same_moved f f answer answer' p.monitor q.monitor same_verdict

    pub one_keep_points : points-exit ≡ points-exit'
    one_keep_points = same_points points (kept_points points name f) answer answer' p.points q.points same_verdict

    pub one_keep_scratch : exit ≡ exit'
    one_keep_scratch = p.scratch ∙ sym q.scratch

  module _ {answer answer' : Moved} (p : ReturnPromise bytes f name points entry exit answer) (q : ReturnPromise bytes f name points entry exit' answer') where
    pub one_return : answer ≡ answer'
    one_return =
        same_moved f (point_at points name) answer answer' p.monitor q.monitor
        (one_verdict (return_single bytes f name points entry) p.refusal q.refusal)

    pub one_return_scratch : exit ≡ exit'
    one_return_scratch = p.scratch ∙ sym q.scratch

-- "A return takes no point away, its own included": after a return that passed, a return to the same name passes and hands back the same
module _ {bytes : List ℕ} {f g : Monitor} {name : ℕ} {points entry exit : List ℕ} (p : ReturnPromise bytes f name points entry exit (To g)) where
  later : FirstFailure (name_check name ∷ never_kept_check points name ∷ point_values_check (elements_of bytes) f points ∷ []) passed
  later = passed_last (buffer_check points_size points ∷ checked_checks 1 bytes entry) _ p.refusal

  good : PointOutOfRange (elements_of bytes) points → ⊥
  good q = (passes_head (passes_tail (passes_tail later))).nowhere 0 (record { stray = inr q; is_place = refl })

  -- the monitor that was handed back is the point, whose values are good
  own : ValueOutOfRange (elements_of bytes) g.before ⊎ ValueOutOfRange (elements_of bytes) g.since → ⊥
  own s =
      good (record {
        name = name;
        named = return_named bytes f name points entry p.refusal;
        kept = return_kept bytes f name points entry p.refusal;
        stray = subst (λ (x : Monitor). ValueOutOfRange (elements_of bytes) x.before ⊎ ValueOutOfRange (elements_of bytes) x.since) p.monitor s;
      })

  passes_again : FirstFailure (return_checks bytes g name points entry) passed
  passes_again =
      passed_before (buffer_check points_size points ∷ checked_checks 1 bytes entry) _ (passed_first (buffer_check points_size points ∷ checked_checks 1 bytes entry) _ p.refusal)
      (first_passes (passes_head later)
      (first_passes (passes_head (passes_tail later)) (first_passes (record { nowhere = λ place t. ⊎_elim own good t.stray }) none_left)))

  pub return_again : {exit' : List ℕ} (answer : Moved) → ReturnPromise bytes g name points entry exit' answer → answer ≡ To g
  return_again (To h) q = ap To (q.monitor ∙ sym p.monitor)
  return_again (Refused h r i place) q = absurd (not_passed (sym (one_verdict (return_single bytes g name points entry) passes_again q.refusal)))
