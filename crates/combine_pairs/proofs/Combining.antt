-- Two strong rules whose closures stand in scratch: the list of their pairs, and the rule that was written of it, whole. Assumes nothing.
use Rattle.std.proofs.Common.{Option, Some, None}
use Prim.Native.Nat.{ℕ, ◌≤◌, ◌<◌}
use mathlib.Core.Path.{◌≡◌, refl, sym, ap₂, ◌∙◌, subst}
use mathlib.Core.List.{List}
use native.Mathlib.Omega.{arith}
use Rattle.answer.specs.declared.Refusal.TheVariants.{TooManyPairs}
use Rattle.theory.specs.Rules.{Morphism, Lawful, Marking}
use Rattle.theory.specs.Combined.{PairsOf, MorePairs}
use Rattle.theory.proofs.Combined.{left_inside, right_inside, pairs_reached}
use Rattle.theory.proofs.ClosureGrades.{closure_grade}
use Rattle.theory.proofs.Gradings.{GradedMarks}
use Rattle.minimality.proofs.Saturation.{MarksOutcomes}
use Rattle.minimality.proofs.Combined.{pairwise, GradesCombined, combined_grades, combined_good}
use Rattle.formats.specs.Table.{morphism_at}
use Rattle.formats.specs.RuleFile.{morphism_of, marking_of}
use Rattle.formats.specs.WrittenFile.{FitsFormat}
use Rattle.formats.proofs.ReadBack.{written_rule}
use Rattle.scratch.specs.Map.{second_base, search_end, pair_numbers_base, pair_lefts_base, laid_marks_base, marks_from, MarkingAt}
use Rattle.scratch.proofs.Markings.{marking_kept}
use Rattle.sections.specs.Answers.{PartZeroed}
use Rattle.rule_layout.specs.declared.Shape.{Shape}
use Rattle.two_rules.proofs.StrongFiles.{first_is, first_read, first_law, first_grades, second_grades, letters_agree, second_is_too, second_read_too}
use Rattle.pair_list.specs.Pairs.{left_at, right_at, TwoTables, Empty, PairList, ListAnswer, PairsAnswer}
use Rattle.pair_list.proofs.Listed.{no_more_pairs}
use Rattle.pair_list.proofs.Tables.{table_pairs, table_lawful, table_by_first_words}
use Rattle.pair_marks.specs.Marks.{pair_grade}
use Rattle.pair_rule.specs.Writing.{laid_pairs, PairsRuleNeeds, PairsWritten}
use Rattle.promises.specs.declared.Operation.{Operation}
use Rattle.promises.specs.declared.Written.TheVariants.{Rule as Is-rule, Refused}
use Rattle.promises.specs.Combine.{combined_grade, CombinedTo}
use Rattle.promises.proofs.CombineOrder.{pairs_last, none_fails}
use Rattle.promises.proofs.CombinedGrades.{combined_small}
use Rattle.combine_pairs.specs.Steps.{StrongReady, PairsPromise}

module _ {first second : List ℕ} {one two : Shape} {entry out : List ℕ} (s : StrongReady first second one two entry out) where
  pub two_tables : TwoTables first one.elements second two.elements one.letters
  two_tables = record {
    first_is_table = first_read s.files;
    second_is_table = second_read_too s.files s.same_letters;
    first_law = first_law s.files;
    second_law = subst Lawful (sym (second_is_too s.files s.same_letters)) s.files.second_good.lawful;
  }

  pub some_letters : 1 ≤ one.letters
  some_letters = omega (arith, s.files.first_good.letters_some, s.files.first_shape.letters)

  module _ {zeroed : List ℕ} (z : PartZeroed pair_numbers_base pair_lefts_base entry zeroed) where
    -- no pair has a number
    pub list_empty : Empty zeroed
    list_empty = record { room = omega (arith, s.files.room, z.outside.same_length); blank = z.zeros }

    -- the list, or more than 64 pairs
    module _ {listed : List ℕ} (answer : Option ℕ)
        (l : PairsAnswer first one.elements second two.elements one.letters zeroed listed answer) where
      pub too_many : {operation : Operation} → answer ≡ None → PairsPromise first second operation out out entry listed (Refused TooManyPairs 1 0)
      too_many e =
          let more : MorePairs (morphism_at first one.elements one.letters) (morphism_at second two.elements one.letters) 64 =
          subst (ListAnswer first one.elements second two.elements one.letters listed) e l.says in
          let of-files : MorePairs (morphism_of first) (morphism_of second) 64 =
          subst (λ (m : Morphism). MorePairs (morphism_of first) m 64) (second_is_too s.files s.same_letters)
          (subst (λ (m : Morphism). MorePairs m (morphism_at second two.elements one.letters) 64) (first_is s.files) more) in
          record {
            refusal = pairs_last first second (letters_agree s.files s.same_letters) s.files.strong.first_strong s.files.strong.second_strong of-files;
            answered = refl;
            same_length = l.kept.same_length ∙ z.outside.same_length;
          }

      module _ {count : ℕ} (e : answer ≡ Some count) where
        list : PairList first one.elements second two.elements one.letters listed count
        list = subst (ListAnswer first one.elements second two.elements one.letters listed) e l.says

        pub write_place : PairsRuleNeeds first one.elements second two.elements one.letters count listed out
        write_place = record {
          lay = record { list = list; room = omega (arith, s.files.room, z.outside.same_length, l.kept.same_length) };
          letters_some = some_letters;
          out_room = s.out_room;
        }

        -- the closures stand behind the list and before it
        first_stands : MarkingAt (morphism_of first).size (closure_grade (morphism_of first) (marking_of first)) listed search_end
        first_stands =
            marking_kept search_end s.files.first_good.table.small (λ i g h. l.kept.after i (omega arith) ∙ z.outside.after i (omega arith)) s.files.strong.first_closure

        second_stands : MarkingAt (morphism_of second).size (closure_grade (morphism_of second) (marking_of second)) listed second_base
        second_stands =
            marking_kept second_base s.files.second_good.table.small (λ i g h. l.kept.before i (omega arith) ∙ z.outside.before i (omega arith)) s.files.strong.second_closure

        -- the rule of the pairs was written
        module _ {operation : Operation} {exit after : List ℕ} {end : ℕ}
            (w : PairsWritten first one.elements second two.elements one.letters count operation listed exit out after end) where
          abbrev m : Morphism
          m = laid_pairs exit count one.letters

          abbrev marks : Marking
          marks = marks_from exit laid_marks_base

          law : Lawful m
          law = table_lawful two_tables list w.laid.table

          pairs : PairsOf (morphism_of first) (morphism_of second) m (left_at listed) (right_at listed)
          pairs =
              subst (λ (n : Morphism). PairsOf (morphism_of first) n m (left_at listed) (right_at listed)) (second_is_too s.files s.same_letters)
              (subst (λ (n : Morphism). PairsOf n (morphism_at second two.elements one.letters) m (left_at listed) (right_at listed)) (first_is s.files)
              (table_pairs two_tables list w.laid.table))

          -- the grades that are combined are two looks in the closures
          grade_looks : (i j : ℕ) → i < m.size → j < m.size
              → pair_grade operation listed i j
              ≡ pairwise (combined_grade operation) (closure_grade (morphism_of first) (marking_of first)) (closure_grade (morphism_of second) (marking_of second)) (left_at listed)
              (right_at listed) i j
          unfolding pair_grade pairwise
          grade_looks i j hi hj =
              ap₂ (combined_grade operation)
              (sym (first_stands.same _ _ (left_inside pairs s.files.first_good.lawful i hi) (left_inside pairs s.files.first_good.lawful j hj)))
              (sym (second_stands.same _ _ (right_inside pairs s.files.second_good.lawful i hi) (right_inside pairs s.files.second_good.lawful j hj)))

          looks : MarksOutcomes m
              (pairwise (combined_grade operation) (closure_grade (morphism_of first) (marking_of first)) (closure_grade (morphism_of second) (marking_of second)) (left_at listed)
              (right_at listed)) marks
          looks = record {
            of_linked = λ i j k. w.laid.marked.of_linked i j k ∙ grade_looks i j k.inside k.idempotent.inside;
            of_others = w.laid.marked.of_others;
          }

          combined : GradesCombined (combined_grade operation) (morphism_of first) (marking_of first) (morphism_of second) (marking_of second) m marks
          combined = combined_grades pairs law (first_grades s.files) (second_grades s.files) (combined_grade operation) looks

          good : GradedMarks m marks
          good = combined_good pairs law (first_grades s.files) (second_grades s.files) (combined_grade operation) looks (combined_small operation)

          fits : FitsFormat m
          fits = record { some = list.some; small = list.few; letters_some = some_letters; letters_small = two_tables.first_is_table.letters_small }

          combined_to : CombinedTo first second operation out after end
          combined_to = record {
            rule = record { morphism = m; lawful = law; marks = marks };
            left = left_at listed;
            right = right_at listed;
            pairs = pairs;
            numbered = table_by_first_words two_tables list w.laid.table;
            grades = combined.grades;
            strong = combined.strong;
            marks = combined.marks_grades;
            written = written_rule m marks fits (record { grades = good.small }) law good.linked (pairs_reached pairs law) w.written;
          }

          not_more : MorePairs (morphism_of first) (morphism_of second) 64 → ⊥
          not_more more =
              no_more_pairs two_tables list
              (subst (λ (n : Morphism). MorePairs n (morphism_at second two.elements one.letters) 64) (sym (first_is s.files))
              (subst (λ (n : Morphism). MorePairs (morphism_of first) n 64) (sym (second_is_too s.files s.same_letters)) more))

          pub pairs_combined : PairsPromise first second operation out after entry exit (Is-rule end)
          pairs_combined = record {
            refusal = none_fails first second (letters_agree s.files s.same_letters) s.files.strong.first_strong s.files.strong.second_strong not_more;
            answered = combined_to;
            same_length = w.laid.same_length ∙ l.kept.same_length ∙ z.outside.same_length;
          }
