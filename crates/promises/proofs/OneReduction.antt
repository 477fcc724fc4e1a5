-- Two answers of the call for the same rule and buffers are one, and leave out, map and scratch alike: of the reductions of a rule only
-- one is numbered by first words, and one map goes to it. Assumes nothing.
use Prim.Native.Nat.{ℕ, ◌<◌}
use mathlib.Core.Path.{◌≡◌, refl, sym, ap, subst, ◌∙◌}
use mathlib.Core.Logic.{by_cases}
use mathlib.Core.List.{List, [], ◌∷◌}
use native.Mathlib.Decide.{ℕ_discrete}
use native.Mathlib.Omega.{arith}
use lib.ListN.{get_or}
use lib.Seq.{ext_get_or}
use Rattle.answer.specs.Checks.{passed, FirstFailure}
use Rattle.answer.proofs.Order.{AllSingle, one_verdict, passed_first, passes_tail}
use Rattle.answer.proofs.Verdicts.{same_refusal, not_passed}
use Rattle.theory.specs.Maps.{MapsOnto}
use Rattle.theory.proofs.Maps.{one_map}
use Rattle.formats.specs.RuleFile.{elements_of, morphism_of}
use Rattle.formats.specs.RuleChecks.{rule_checks}
use Rattle.formats.specs.Calls.{checked_checks}
use Rattle.formats.specs.WrittenFile.{file_of}
use Rattle.formats.specs.ReadBack.{ReadsBack}
use Rattle.formats.proofs.Agree.{agree_maps}
use Rattle.formats.proofs.Buffers.{buffer_single}
use Rattle.formats.proofs.Front.{one_length, one_buffer}
use Rattle.formats.proofs.ReadBack.{reads_agree}
use Rattle.formats.proofs.Reached.{word_not_missing}
use Rattle.promises.specs.declared.Written.{Written}
use Rattle.promises.specs.declared.Written.TheVariants.{Rule as Is-rule, Refused}
use Rattle.promises.specs.Weak.{weak_check}
use Rattle.promises.specs.Answers.{written_verdict}
use Rattle.promises.specs.Reduce.{reduce_checks, ReducedTo, ReducedAnswer, ReducePromise}
use Rattle.promises.proofs.OneStrength.{checked_strong_single}
use Rattle.promises.proofs.SameReductions.{same_rule, reductions_file}

pub reduce_single : (bytes out map scratch : List ℕ) → AllSingle (reduce_checks bytes out map scratch)
reduce_single bytes out map scratch = buffer_single (buffer_single (checked_strong_single bytes scratch))

-- the file is one of the reduction, and the map goes to what it means
pub maps_to_file : {bytes before after map_before map_after : List ℕ} {r : ℕ} (a : ReducedTo bytes before after map_before map_after r) {file : List ℕ}
    → ReadsBack a.reduced.morphism a.reduced.marks file → MapsOnto (morphism_of bytes) (morphism_of file) (λ s. get_or a.map s 0)
maps_to_file a reads = agree_maps (reads_agree reads) a.reduction.same.same_letters a.maps

module _ {bytes before after after' map map_after map-after' : List ℕ} {r r' : ℕ} (a : ReducedTo bytes before after map map_after r)
    (b : ReducedTo bytes before after' map map-after' r') where
  same_file : file_of b.reduced.morphism b.reduced.marks ≡ file_of a.reduced.morphism a.reduced.marks
  same_file = reductions_file (same_rule bytes) a.reduction b.reduction a.numbered b.numbered

  module _ (checks : FirstFailure (rule_checks 1 bytes) passed) where
    same_entry : (s : ℕ) → s < elements_of bytes → get_or a.map s 0 ≡ get_or b.map s 0
    same_entry s h =
        let to = maps_to_file a a.written.reads_back in
        let to' = maps_to_file b (subst (ReadsBack b.reduced.morphism b.reduced.marks) same_file b.written.reads_back) in
        by_cases (ℕ_discrete (get_or a.map s 0) (get_or b.map s 0)) (λ e. e)
        (λ differ. absurd (word_not_missing 1 bytes checks s h (λ w. differ (one_map a.lawful to.carries to'.carries w))))

    same_map : b.map ≡ a.map
    same_map =
        sym (ext_get_or 0 a.map b.map (sym a.map_written.counts ∙ b.map_written.counts) (λ s h. same_entry s (omega (arith, h, a.map_written.counts))))

-- what two answers have in common
pub record SameOutputs (answer answer' : Written) (after after' map_after map-after' : List ℕ) : Type 0 where
  pub answers : answer ≡ answer'
  pub outs : after ≡ after'
  pub maps : map_after ≡ map-after'

module _ (bytes before map : List ℕ) {after after' map_after map-after' : List ℕ} where
  same_answer : (a b : Written) → (written_verdict a ≡ passed → FirstFailure (rule_checks 1 bytes) passed) → ReducedAnswer bytes before after map map_after a
      → ReducedAnswer bytes before after' map map-after' b → written_verdict a ≡ written_verdict b → SameOutputs a b after after' map_after map-after'
  same_answer (Is-rule r) (Is-rule r') checks p q e = record {
    answers = ap Is-rule (one_length p.written.front q.written.front (same_file p q));
    outs = one_buffer p.written.front q.written.front (same_file p q);
    maps = one_buffer p.map_written q.map_written (same_map p q (checks refl));
  }
  same_answer (Is-rule r) (Refused k i place) checks p q e = absurd (not_passed (sym e))
  same_answer (Refused k i place) (Is-rule r) checks p q e = absurd (not_passed e)
  same_answer (Refused k i place) (Refused k' i' place') checks p q e = record {
    answers = same_refusal Refused k k' i i' place place' e;
    outs = p.out_kept ∙ sym q.out_kept;
    maps = p.map_kept ∙ sym q.map_kept;
  }

-- the rule's own checks pass where the call's do
pub reduce_rule_passes : (bytes out map entry : List ℕ) → FirstFailure (reduce_checks bytes out map entry) passed → FirstFailure (rule_checks 1 bytes) passed
reduce_rule_passes bytes out map entry p = passes_tail (passed_first (checked_checks 1 bytes entry) (weak_check 1 bytes ∷ []) (passes_tail (passes_tail p)))

module _ {bytes before after after' map map_after map-after' entry exit exit' : List ℕ} where
  pub one_answer : (answer answer' : Written) → ReducePromise bytes before after map map_after entry exit answer
      → ReducePromise bytes before after' map map-after' entry exit' answer' → SameOutputs answer answer' after after' map_after map-after'
  one_answer answer answer' p q =
      same_answer bytes before map answer answer'
      (λ e. reduce_rule_passes bytes before map entry (subst (FirstFailure (reduce_checks bytes before map entry)) e p.refusal))
      p.answered q.answered (one_verdict (reduce_single bytes before map entry) p.refusal q.refusal)

  pub one_scratch : {answer answer' : Written} → ReducePromise bytes before after map map_after entry exit answer
      → ReducePromise bytes before after' map map-after' entry exit' answer' → exit ≡ exit'
  one_scratch p q = p.scratch ∙ sym q.scratch
