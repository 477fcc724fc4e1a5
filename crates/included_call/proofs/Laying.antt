-- What laying out the second marking shows. Assumes nothing.
use Rattle.std.specs.Prelude.{Result, Ok, Err}
use Rattle.answer.specs.declared.Fault.{Fault}
use Prim.Native.Nat.{ℕ, ◌+◌, ◌*◌, ◌-◌, ◌≤◌}
use mathlib.Core.Path.{◌∙◌}
use mathlib.Core.List.{List}
use native.Mathlib.Omega.{arith}
use lib.ListN.{length, take, drop}
use borrow.Rule.Slice.PartMut.{put_mid, same_len_mid}
use Rattle.formats.specs.RuleFile.{marks_in}
use Rattle.formats.specs.RuleChecks.{scratch_size}
use Rattle.rule_marks.specs.Faults.{MarksLaid}
use Rattle.rule_second_marks.specs.SecondMarks.{MarksSpace, SecondAnswer}
use Rattle.sections.specs.Answers.{PartZeroed}
use Rattle.scratch.specs.Bytes.{UnchangedOutside}
use Rattle.scratch.specs.Map.{mark_table_size, second_base, tables_end}
use Rattle.included_call.specs.Laying.{SecondLaid, LaidAnswer}
use Rattle.scratch.proofs.Parts.{part_length, part_byte, in_part, part_unchanged}

module _ {entry scratch : List ℕ} (room : scratch_size ≤ length entry) (z : PartZeroed second_base tables_end entry scratch) where
  long_still : scratch_size ≤ length scratch
  long_still = omega (arith, z.outside.same_length)

  inside : second_base ≤ length scratch
  inside = omega (arith, long_still)

  -- the part behind the first marks begins with a blank table
  pub second_space : MarksSpace (take (length scratch - second_base) (drop second_base scratch))
  second_space = record {
    room = omega (arith, part_length scratch second_base inside, long_still);
    blank = λ i h. part_byte scratch second_base inside i (omega (arith, long_still)) ∙ z.zeros (second_base + i) (omega arith) (omega arith);
  }

  module _ (second : List ℕ) {n : ℕ} (small : n ≤ 64) (new : List ℕ) where
    -- the marks in the part are those of the second table
    second_laid : MarksLaid (marks_in second 0) n (take (length scratch - second_base) (drop second_base scratch)) new → SecondLaid second n scratch (put_mid second_base (length scratch - second_base) scratch new)
    second_laid l = record {
      same_length = kept.same_length;
      before = kept.before;
      after = kept.after;
      mark = λ s e hs he. in_part scratch second_base inside new (drop (length scratch - second_base) (drop second_base scratch)) (s * 64 + e)
          (omega (arith, l.same_length, part_length scratch second_base inside, long_still)) ∙ l.mark s e hs he;
    }
      where
        kept : UnchangedOutside second_base tables_end scratch (put_mid second_base (length scratch - second_base) scratch new)
        kept = part_unchanged scratch second_base inside mark_table_size new (record {
          same_length = l.same_length;
          before = λ i h. absurd (let n : ⊥ = omega arith in n);
          after = λ i h. l.other i (λ s e hs he q. omega arith);
        })

    pub laid_answer : (answer : Result (Unit {0}) Fault) → SecondAnswer second n (take (length scratch - second_base) (drop second_base scratch)) new answer
        → LaidAnswer second n entry (put_mid second_base (length scratch - second_base) scratch new) answer
    laid_answer (Ok done) l =
        let d = second_laid l in
        record {
          same_length = d.same_length ∙ z.outside.same_length;
          before = λ i h. d.before i h ∙ z.outside.before i h;
          after = λ i h. d.after i h ∙ z.outside.after i h;
          mark = d.mark;
        }
    laid_answer (Err fault) l = same_len_mid second_base (length scratch - second_base) scratch new l ∙ z.outside.same_length
