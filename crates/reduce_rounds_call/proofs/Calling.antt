-- What the call for the rounds promises, from what the check of the rule, the verdict on its strength and the rounds promise. Assumes nothing.
use Rattle.std.specs.Prelude.{Ok, Err}
use Rattle.answer.proofs.Parts.{refused_by}
use Prim.Native.Nat.{ℕ, ◌+◌, ◌-◌, ◌≤◌, ◌<◌}
use mathlib.Core.Path.{◌≡◌, refl, sym, subst}
use mathlib.Core.Bool.{Bool, true, false}
use mathlib.Core.List.{List, [], ◌∷◌}
use native.Mathlib.Omega.{arith}
use lib.ListN.{length, replicate, take, drop}
use Rattle.finite.proofs.Tells.{tells_same}
use Rattle.scratch.specs.Map.{blocks_base}
use Rattle.scratch.proofs.Unchanged.{unchanged_room}
use Rattle.answer.specs.declared.Refusal.{Refusal}
use Rattle.answer.specs.declared.Refusal.TheVariants.{NotStrong, BufferTooShort, LimitOutOfRange}
use Rattle.answer.proofs.Order.{first_passes, first_fails, none_left, passed_before, refused_before}
use Rattle.answer.specs.Checks.{Verdict, FirstFailure}
use Rattle.theory.specs.Rules.{Morphism}
use Rattle.theory.specs.Rounds.{IsBlocks}
use Rattle.theory.specs.Grades.{StrongMarking}
use Rattle.formats.specs.Table.{morphism_at}
use Rattle.minimality.proofs.Rounds.{together_carry, stable_carry}
use Rattle.minimality.proofs.GradeOutcomes.{grading, grading_lassos}
use Rattle.formats.specs.RuleChecks.{scratch_size}
use Rattle.formats.specs.RuleFile.{elements_of, morphism_of, marking_of}
use Rattle.formats.proofs.Buffers.{buffer_short, buffer_long}
use Rattle.rule_layout.specs.declared.Shape.{Shape}
use Rattle.rule_check.specs.Answers.{CheckPromise}
use Rattle.formats.specs.Calls.{checked_checks}
use Rattle.rule_check.proofs.Left.{short_left, long_left}
use Rattle.formats.proofs.GoodRule.{graded_marks, GoodRule, called_good}
use Rattle.rule_check.proofs.Calls.{shape_morphism, zeros_left, checked_length}
use Rattle.mark_strong.specs.Deciding.{StrongIf, Decided}
use Rattle.mark_strong.proofs.Calling.{decided_file, decided_strong, closure_stands, decided_room, decided_left}
use Rattle.promises.specs.declared.Partition.TheVariants.{Blocks, Refused}
use Rattle.promises.specs.Weak.{weak_check}
use Rattle.promises.specs.Rounds.{blocks_size, most_rounds, limit_check, PartitionedTo, RoundsPromise}
use Rattle.promises.proofs.OneRounds.{limit_first}
use Rattle.reduce_first_round.specs.Map.{outcome_of, BlocksAt}
use Rattle.reduce_first_round.proofs.OutcomeBytes.{outcome_grading}
use Rattle.reduce_first_round.proofs.BlockBytes.{blocks_carry}
use Rattle.reduce_rounds.specs.declared.Refined.{Refined}
use Rattle.reduce_rounds.specs.Rounds.{RoundsRefined}
use Rattle.rule_bytes.specs.Writing.{Written}
use Rattle.rule_bytes.proofs.CopiedParts.{part_entry, part_length, copied_part}
use Rattle.reduce_rounds_call.specs.Steps.{BlocksGiven}

-- the bytes of blocks as a list
blocks_list : {n : ℕ} {R : ℕ → ℕ → Type 0} {l : List ℕ} → blocks_base + n ≤ length l → BlocksAt n R l blocks_base → IsBlocks n R (take n (drop blocks_base l))
blocks_list {n} {l = l} room b = record {
  count = part_length l blocks_base n room;
  at_most = λ s h. rw (part_entry l blocks_base n s h) (b.at_most s h);
  related = λ s h. rw (part_entry l blocks_base n s h) (b.related s h);
  least = λ s t h k. b.least s t h (rw (part_entry l blocks_base n s h) at k);
}

-- the copy of the blocks is at the front
pub blocks_given : {m : Morphism} {limit : ℕ} {entry exit before after : List ℕ} {r : Refined} {end : ℕ} → m.size ≤ 64 → scratch_size ≤ length entry
    → RoundsRefined m limit entry exit r → Written before 0 (take m.size (take (length exit - blocks_base) (drop blocks_base exit))) after end
    → BlocksGiven m limit entry exit before after r
blocks_given {m} {exit = exit} small room r w =
    record { refined = r; given = copied_part exit blocks_base m.size (omega (arith, unchanged_room r.kept room)) w }

-- a short buffer is refused, and both are left as they came
pub blocks_short : (bytes : List ℕ) (limit : ℕ) (blocks scratch : List ℕ) → length blocks < blocks_size
    → RoundsPromise bytes limit blocks blocks scratch scratch (Refused BufferTooShort 1 0)
blocks_short bytes limit blocks scratch h = record {
  refusal = buffer_short h;
  answered = refl;
  scratch = short_left blocks_size blocks scratch h;
}

module _ (bytes : List ℕ) (limit : ℕ) (blocks entry : List ℕ) (long : blocks_size ≤ length blocks) where
  -- the check's refusal is handed on
  pub rounds_refused : {mid : List ℕ} {r : Refusal} {input place : ℕ} → CheckPromise 1 bytes entry mid (Err (refused_by r input place))
      → RoundsPromise bytes limit blocks blocks entry mid (Refused r input place)
  rounds_refused p = record {
    refusal = buffer_long long (refused_before (checked_checks 1 bytes entry) (limit_check limit ∷ weak_check 1 bytes ∷ []) p.refusal);
    answered = refl;
    scratch = long_left blocks_size blocks entry long p.scratch;
  }

  -- of a checked rule
  module _ {shape : Shape} {mid : List ℕ} (p : CheckPromise 1 bytes entry mid (Ok shape)) where
    -- a limit above 64 is refused
    pub rounds_limit : (end : List ℕ) → end ≡ replicate (length mid) 0 → most_rounds < limit → RoundsPromise bytes limit blocks blocks entry end (Refused LimitOutOfRange 1 0)
    rounds_limit end z h = record {
      refusal = limit_first bytes limit blocks entry long p.refusal h;
      answered = refl;
      scratch = long_left blocks_size blocks entry long (zeros_left 1 bytes entry p.refusal mid end (checked_length p.scratch) z);
    }

    module _ {decided : List ℕ} {answer : Bool} (d : Decided (morphism_at bytes shape.elements shape.letters) mid decided answer) (few : limit ≤ most_rounds) where
      good : GoodRule bytes
      good = called_good 1 bytes entry p.refusal

      same : morphism_at bytes shape.elements shape.letters ≡ morphism_of bytes
      same = shape_morphism p.scratch.shape_is

      limit_passes : {v : Verdict} → FirstFailure (weak_check 1 bytes ∷ []) v → FirstFailure (limit_check limit ∷ weak_check 1 bytes ∷ []) v
      limit_passes = first_passes (record { nowhere = λ place f. omega (arith, f.above) })

      -- a rule that is not strong is refused
      pub rounds_weak : (end : List ℕ) → end ≡ replicate (length decided) 0 → answer ≡ false → RoundsPromise bytes limit blocks blocks entry end (Refused NotStrong 1 0)
      rounds_weak end z e = record {
        refusal = buffer_long long (passed_before (checked_checks 1 bytes entry) (limit_check limit ∷ weak_check 1 bytes ∷ []) p.refusal
            (limit_passes (first_fails (weak_check 1 bytes) (record { weak = subst (StrongIf (morphism_of bytes) (marking_of bytes)) e (decided_file 1 bytes entry p d); is_place = refl }))));
        answered = refl;
        scratch = long_left blocks_size blocks entry long (decided_left 1 bytes entry p d decided end refl z);
      }

      -- of a strong rule the blocks were given
      module _ {exit after : List ℕ} {refined : Refined} (w : BlocksGiven (morphism_at bytes shape.elements shape.letters) limit decided exit blocks after refined)
          (e : answer ≡ true) where
        strong : StrongMarking (morphism_of bytes) (marking_of bytes)
        strong = decided_strong 1 bytes entry p d e

        given : BlocksGiven (morphism_of bytes) limit decided exit blocks after refined
        given = subst (λ (m : Morphism). BlocksGiven m limit decided exit blocks after refined) same w

        agree : (s z : ℕ) → s < elements_of bytes → z < elements_of bytes → outcome_of (morphism_of bytes) decided s z ≡ grading (morphism_of bytes) (marking_of bytes) s z
        agree = outcome_grading good.lawful good.table.small (marking_of bytes) decided (closure_stands 1 bytes entry p d)

        agree_back : (s z : ℕ) → s < elements_of bytes → z < elements_of bytes → grading (morphism_of bytes) (marking_of bytes) s z ≡ outcome_of (morphism_of bytes) decided s z
        agree_back s z hs hz = sym (agree s z hs hz)

        partitioned : PartitionedTo bytes limit blocks after refined.rounds refined.finished
        partitioned =
            let r = given.refined in
            record {
              lawful = good.lawful;
              grades = grading (morphism_of bytes) (marking_of bytes);
              graded = record { graded = λ s z hs hz. grading_lassos good.lawful good.reached (graded_marks good) strong hs hz };
              blocks = take (elements_of bytes) (drop blocks_base exit);
              least = blocks_list (omega (arith, unchanged_room r.kept (decided_room 1 bytes entry p d), good.table.small))
                  (blocks_carry (λ t s ht hs. (together_carry good.lawful agree refined.rounds t s ht hs, together_carry good.lawful agree_back refined.rounds t s ht hs)) r.blocks);
              written = given.given;
              within = r.within;
              first = λ i h st. r.first i h (stable_carry good.lawful agree_back i st);
              stable = tells_same (stable_carry good.lawful agree refined.rounds, stable_carry good.lawful agree_back refined.rounds) r.stable;
              at_limit = r.unfinished;
            }

        pub rounds_strong : (end : List ℕ) → end ≡ replicate (length exit) 0 → RoundsPromise bytes limit blocks after entry end (Blocks refined.rounds refined.finished)
        rounds_strong end z = record {
          refusal = buffer_long long (passed_before (checked_checks 1 bytes entry) (limit_check limit ∷ weak_check 1 bytes ∷ []) p.refusal
              (limit_passes (first_passes (record { nowhere = λ place f. f.weak strong }) none_left)));
          answered = partitioned;
          scratch = long_left blocks_size blocks entry long (decided_left 1 bytes entry p d exit end given.refined.kept.same_length z);
        }
