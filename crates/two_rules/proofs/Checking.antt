-- What each way through the checks of two files promises. Assumes nothing.
use Rattle.std.specs.Prelude.{Result, Ok, Err}
use Rattle.answer.specs.declared.Refused.{Refused}
use Prim.Native.Nat.{ℕ, ◌+◌, ◌*◌, ◌-◌, ◌≤◌}
use mathlib.Core.Path.{◌≡◌, sym, ◌∙◌, subst}
use mathlib.Core.List.{List}
use native.Mathlib.Omega.{arith}
use lib.ListN.{length, take, drop, replicate}
use borrow.Rule.Slice.PartMut.{put_mid, same_len_mid}
use Rattle.answer.proofs.Order.{refused_before, passed_before}
use Rattle.formats.specs.RuleChecks.{scratch_size}
use Rattle.scratch.specs.Map.{mark_table_size, search_end, marks_from}
use Rattle.scratch.proofs.Markings.{front_mark, marking_kept}
use Rattle.scratch.proofs.Parts.{part_length, in_part, part_unchanged}
use Rattle.rule_layout.specs.declared.Shape.{Shape}
use Rattle.rule_check.specs.Answers.{RuleVerdict, CheckPromise}
use Rattle.formats.proofs.GoodRule.{good_rule, called_good}
use Rattle.rule_check.proofs.Calls.{zeros_left, checked_length}
use Rattle.two_rules.specs.Checking.{SecondVerdict, BothPromise}

-- the part behind the bytes that a search uses
module _ (scratch : List ℕ) (room : scratch_size ≤ length scratch) where
  inside : search_end ≤ length scratch
  inside = omega (arith, room)

  -- it has room for a table of marks
  second_room : mark_table_size ≤ length (take (length scratch - search_end) (drop search_end scratch))
  second_room = omega (arith, room, part_length scratch search_end inside)

  -- a rule checked in the part is checked in scratch, from the byte on where the part begins
  pub second_verdict : (bytes new : List ℕ) (answer : Result Shape Refused) → RuleVerdict 2 bytes (take (length scratch - search_end) (drop search_end scratch)) new answer
      → SecondVerdict bytes scratch (put_mid search_end (length scratch - search_end) scratch new) answer
  unfolding marks_from
  second_verdict bytes new (Ok shape) v =
      let long : mark_table_size ≤ length new = omega (arith, second_room, v.marks.kept.same_length) in
      let small = (good_rule 2 bytes v.refusal).table.small in
      record {
        refusal = v.refusal;
        marks = record {
          shape_is = v.marks.shape_is;
          marks = record {
            same = λ s e hs he. sym (in_part scratch search_end inside new (drop (length scratch - search_end) (drop search_end scratch)) (s * 64 + e) (omega arith) ∙ v.marks.mark s e hs he);
          };
          kept = part_unchanged scratch search_end inside mark_table_size new v.marks.kept;
        };
      }
  second_verdict bytes new (Err refusal) v = record {
    refusal = v.refusal;
    marks = same_len_mid search_end (length scratch - search_end) scratch new v.marks;
  }

module _ (first second entry : List ℕ) where
  -- the first file is refused
  pub first_refused : {exit : List ℕ} {r : Refused} → CheckPromise 1 first entry exit (Err r) → BothPromise first second entry exit (Err r)
  first_refused p = record { refusal = refused_before _ _ p.refusal; scratch = p.scratch }

  module _ {one : Shape} {mid : List ℕ} (p : CheckPromise 1 first entry mid (Ok one)) (answer : Result Shape Refused) (laid : List ℕ) (v : SecondVerdict second mid laid answer) where
    -- the second is
    pub second_refused : {end : List ℕ} {r : Refused} → answer ≡ Err r → end ≡ replicate (length laid) 0
        → BothPromise first second entry end (Err r)
    second_refused {end} {r} e z =
        let w : SecondVerdict second mid laid (Err r) = subst (SecondVerdict second mid laid) e v in
        record {
          refusal = passed_before _ _ p.refusal w.refusal;
          scratch = zeros_left 1 first entry p.refusal laid end (w.marks ∙ checked_length p.scratch) z;
        }

    -- both pass
    pub both_checked : {two : Shape} → answer ≡ Ok two → BothPromise first second entry laid (Ok (one, two))
    both_checked {two} e =
        let w : SecondVerdict second mid laid (Ok two) = subst (SecondVerdict second mid laid) e v in
        let small = (called_good 1 first entry p.refusal).table.small in
        record {
          refusal = passed_before _ _ p.refusal w.refusal;
          scratch = record {
            first_shape = p.scratch.shape_is;
            second_shape = w.marks.shape_is;
            first_marks = marking_kept 0 small (λ i g h. w.marks.kept.before i (omega arith))
                (record { same = λ s c hs hc. sym (p.scratch.mark s c hs hc) ∙ front_mark mid s c });
            second_marks = w.marks.marks;
            same_length = w.marks.kept.same_length ∙ checked_length p.scratch;
          };
        }
