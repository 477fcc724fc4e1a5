-- What each way through a summary promises, from what the calls that it is made of promise. Assumes nothing.
use Prim.Native.Nat.{ℕ, ◌≤◌, ◌<◌}
use mathlib.Core.Path.{◌≡◌, refl, sym, ap, ◌∙◌, subst}
use mathlib.Core.Bool.{Bool, true, false}
use mathlib.Core.List.{List, [], ◌∷◌}
use native.Mathlib.Omega.{arith}
use borrow.Author.Tests.{le-ltb}
use lib.ListN.{length, get_or, replicate, length-replicate}
use Rattle.answer.specs.declared.Refusal.{Refusal}
use Rattle.answer.specs.declared.Refusal.TheVariants.{BufferTooShort}
use Rattle.answer.specs.Checks.{passed, FirstFailure}
use Rattle.answer.proofs.Order.{first_passes, none_left, passed_before, passed_last, passes_head, passes_tail}
use Rattle.theory.specs.Grades.{StrongMarking}
use Rattle.formats.proofs.GoodRule.{strong_of, scratch_long, called_good}
use Rattle.formats.specs.RuleFile.{morphism_of, marking_of}
use Rattle.formats.specs.RuleChecks.{rule_size, scratch_size}
use Rattle.formats.proofs.Buffers.{buffer_short, buffer_long, buffer_single}
use Rattle.promises.specs.declared.Inspected.{Inspected}
use Rattle.promises.specs.declared.Inspected.TheVariants.{Rule as Inspected-rule, Refused as Inspected-refused}
use Rattle.promises.specs.Inspect.{RuleCounts, InspectPromise}
use Rattle.formats.specs.Calls.{checked_checks, after_call, scratch_left}
use Rattle.rule_check.proofs.Promise.{zeros_after}
use Rattle.formats.proofs.OneVerdict.{checked_single}
use Rattle.rule_check.proofs.Left.{short_left, long_left}
use Rattle.formats.specs.WrittenFile.{elements_bytes, file_of}
use Rattle.promises.specs.declared.Listed.{Listed}
use Rattle.promises.specs.declared.Listed.TheVariants.{Counts as Listed-counts, Refused as Listed-refused}
use Rattle.promises.specs.Classes.{classes_size, ListPromise}
use Rattle.promises.specs.Weak.{weak_check}
use Rattle.promises.specs.declared.Written.{Written}
use Rattle.promises.specs.declared.Written.TheVariants.{Rule as Reduced-rule, Refused as Reduced-refused}
use Rattle.promises.specs.Reduce.{map_size, reduce_checks, reduce_left, ReducePromise}
use Rattle.promises.proofs.OneReduction.{reduce_single}
use Rattle.promises.specs.declared.Summary.{Summary}
use Rattle.promises.specs.declared.Summary.TheVariants.{Counts, Refused}
use Rattle.promises.specs.Summary.{summary_checks, SummaryPromise}
use Rattle.summarize_call.specs.Steps.{CheckedNeeds, SizeFound, Measured}
use Rattle.summarize_call.proofs.Passing.{not_refused}

-- below the check: the rule passes, and the buffers have their sizes
module _ {bytes work entry : List ℕ} (p : CheckedNeeds bytes work entry) where
  long : scratch_size ≤ length entry
  long = scratch_long 1 bytes entry p.passes

  -- buffers of the same lengths do as well
  pub place_again : {work' now : List ℕ} → length work' ≡ length work → length now ≡ length entry → CheckedNeeds bytes work' now
  place_again {now = now} ew es = record {
    room = omega (arith, p.room, ew);
    passes = buffer_long (omega (arith, long, es)) (passes_tail p.passes);
  }

  -- the classes are not refused, and leave zeros in scratch
  pub classes_not_refused : (answer : Listed) {after exit : List ℕ} {r : Refusal} {input place : ℕ} → ListPromise bytes work after entry exit answer
      → answer ≡ Listed-refused r input place → ⊥
  classes_not_refused answer {after} {exit} q e =
      not_refused (buffer_single (checked_single 1 bytes entry))
      (buffer_long (omega (arith, p.room)) p.passes) (subst (ListPromise bytes work after entry exit) e q).refusal

  pub classes_left : {answer : Listed} {after exit : List ℕ} → ListPromise bytes work after entry exit answer → exit ≡ replicate (length entry) 0
  classes_left q =
      let room : classes_size ≤ length work = omega (arith, p.room) in
      let kept : scratch_left classes_size work entry ≡ after_call entry = simp (le-ltb (length work) classes_size room) in
      q.scratch ∙ kept ∙ sym (zeros_after entry long)

  -- of the reduction
  module _ (answer : Written) {after map map' exit : List ℕ} (map_room : map_size ≤ length map) (q : ReducePromise bytes work after map map' entry exit answer) where
    reduction_left : exit ≡ replicate (length entry) 0
    reduction_left =
        let kept : reduce_left work map entry ≡ after_call entry = simp (le-ltb (length work) rule_size p.room, le-ltb (length map) map_size map_room) in
        q.scratch ∙ kept ∙ sym (zeros_after entry long)

    -- a reduction was written: the rule is strong, and the first byte is the number of elements
    pub size_strong : {end : ℕ} → answer ≡ Reduced-rule end → SizeFound bytes entry exit true (get_or after 0 0)
    unfolding file_of elements_bytes
    size_strong e =
        let known = subst (ReducePromise bytes work after map map' entry exit) e q in
        let not_weak = passes_head (passed_last (checked_checks 1 bytes entry) (weak_check 1 bytes ∷ []) (passes_tail (passes_tail known.refusal))) in
        let r = known.answered in
        record {
          reduces = record {
            strong = strong_of (called_good 1 bytes entry p.passes) (λ weak. not_weak.nowhere 0 (record { weak = weak; is_place = refl }));
            lawful = r.lawful;
            rule = r.reduced;
            reduction = r.reduction;
            size = ap (λ (l : List ℕ). get_or l 0 0) r.written.front.holds;
          };
          scratch = reduction_left;
        }

    -- a strong rule passes every check of a reduction
    all_pass : StrongMarking (morphism_of bytes) (marking_of bytes) → FirstFailure (reduce_checks bytes work map entry) passed
    all_pass strong =
        buffer_long p.room (buffer_long map_room
        (passed_before (checked_checks 1 bytes entry) (weak_check 1 bytes ∷ []) p.passes (first_passes (record { nowhere = λ place w. w.weak strong }) none_left)))

    -- none was written: every other check passes, so the rule is weak
    pub size_weak : {r : Refusal} {input place : ℕ} → answer ≡ Reduced-refused r input place → SizeFound bytes entry exit false 0
    size_weak e =
        let known = subst (ReducePromise bytes work after map map' entry exit) e q in
        record { reduces = (λ strong. not_refused (reduce_single bytes work map entry) (all_pass strong) known.refusal, refl); scratch = reduction_left }

  -- the rule was counted, its classes listed, its reduction measured, and work cleared
  pub measured_summary : (answer : Listed) {elements letters marks linked classes joins reduced : ℕ} {strong : Bool} {listed mid after exit : List ℕ} {n : ℕ} → RuleCounts bytes elements letters marks
      → ListPromise bytes work listed entry mid answer → answer ≡ Listed-counts linked classes joins → SizeFound bytes mid exit strong reduced
      → n ≡ length work → after ≡ replicate n 0 → Measured bytes work after entry exit (Counts elements letters marks linked classes strong reduced)
  measured_summary answer {joins = joins} {listed = listed} {mid = mid} k q e f l z =
      let known = subst (ListPromise bytes work listed entry mid) e q in
      let left = classes_left q in
      record {
        passes = refl;
        answered = record { counts = k; joins = joins; class_counts = known.answered.1; reduces = f.reduces };
        work = z ∙ ap (λ (n : ℕ). replicate n 0) l;
        scratch = f.scratch ∙ ap (λ (n : ℕ). replicate n 0) (ap length left ∙ length-replicate (length entry) 0);
      }

-- a short buffer is refused, and both are left as they came
pub work_short : (bytes work scratch : List ℕ) → length work < rule_size → SummaryPromise bytes work work scratch scratch (Refused BufferTooShort 1 0)
work_short bytes work scratch h = record {
  refusal = buffer_short h;
  answered = tt;
  work = refl;
  scratch = short_left rule_size work scratch h;
}

-- an inspection that finds a rule says its counts
pub inspected_counts : {bytes entry mid : List ℕ} (answer : Inspected) {elements letters marks : ℕ} → InspectPromise bytes entry mid answer
    → answer ≡ Inspected-rule elements letters marks → RuleCounts bytes elements letters marks
inspected_counts {bytes} {entry} {mid} answer q e = (subst (InspectPromise bytes entry mid) e q).values

-- the inspection comes after the check of work
module _ (bytes work entry : List ℕ) (room : rule_size ≤ length work) (answer : Inspected) {mid : List ℕ} (q : InspectPromise bytes entry mid answer) where
  -- a refusal is handed on
  pub summary_refused : {r : Refusal} {input place : ℕ} → answer ≡ Inspected-refused r input place → SummaryPromise bytes work work entry mid (Refused r input place)
  summary_refused e =
      let known = subst (InspectPromise bytes entry mid) e q in
      record { refusal = buffer_long room known.refusal; answered = tt; work = refl; scratch = long_left rule_size work entry room known.scratch }

  -- a rule that passes is measured
  module _ {elements letters marks : ℕ} (e : answer ≡ Inspected-rule elements letters marks) where
    known : InspectPromise bytes entry mid (Inspected-rule elements letters marks)
    known = subst (InspectPromise bytes entry mid) e q

    zeros : mid ≡ replicate (length entry) 0
    zeros = known.scratch ∙ sym (zeros_after entry (scratch_long 1 bytes entry known.refusal))

    same_length : length mid ≡ length entry
    same_length = ap length zeros ∙ length-replicate (length entry) 0

    pub measure_place : CheckedNeeds bytes work mid
    measure_place = record {
      room = room;
      passes = buffer_long (omega (arith, scratch_long 1 bytes entry known.refusal, same_length)) (passes_tail known.refusal);
    }

    pub summary_measured : (summary : Summary) {after exit : List ℕ} → Measured bytes work after mid exit summary → SummaryPromise bytes work after entry exit summary
    summary_measured summary m = record {
      refusal = subst (FirstFailure (summary_checks bytes work entry)) (sym m.passes) (buffer_long room known.refusal);
      answered = m.answered;
      work = m.work;
      scratch =
          long_left rule_size work entry room (m.scratch ∙ ap (λ (n : ℕ). replicate n 0) same_length ∙ zeros_after entry (scratch_long 1 bytes entry known.refusal));
    }
