-- Two strong rules whose closures stand in scratch: the table of their pairs decides their grades, and the rule of the classes that was written is that of
-- `until`. Assumes nothing.
use Rattle.std.proofs.Common.{Option, Some, None}
use Prim.Native.Nat.{ℕ, ◌+◌, ◌*◌, max, ◌≤◌, ◌<◌}
use native.Mathlib.Omega.{arith}
use mathlib.Core.Path.{◌≡◌, refl, sym, ap, ap₂, subst, ◌∙◌}
use mathlib.Core.List.{List}
use lib.ListN.{length}
use Rattle.answer.specs.declared.Refusal.TheVariants.{TooManyPairs}
use Rattle.answer.specs.Checks.{passed, FirstFailure}
use Rattle.theory.specs.Rules.{Morphism, Lawful, Rule}
use Rattle.theory.specs.Combined.{PairsOf, MorePairs}
use Rattle.theory.proofs.ClosureGrades.{closure_grade}
use Rattle.minimality.proofs.GradeOutcomes.{grading, grading_small}
use Rattle.temporal.specs.Clamps.{MoreUntilClasses}
use Rattle.temporal.proofs.Decided.{strong_grades, left_decides, right_decides}
use Rattle.temporal.proofs.UntilClasses.{more_classes}
use Rattle.temporal.proofs.UntilRule.{UntilRule, pairs_until}
use Rattle.formats.specs.Table.{morphism_at}
use Rattle.formats.specs.RuleFile.{morphism_of, marking_of}
use Rattle.formats.proofs.ReadBack.{written_rule}
use Rattle.scratch.specs.Map.{second_base, search_end, pair_numbers_base, pair_lefts_base, MarkingAt}
use Rattle.scratch.proofs.Markings.{marking_kept}
use Rattle.sections.specs.Answers.{PartZeroed}
use Rattle.rule_layout.specs.declared.Shape.{Shape}
use Rattle.two_rules.proofs.StrongFiles.{first_is, first_read, first_law, first_grades, second_grades, letters_agree, second_is_too, second_read_too}
use Rattle.reduce_first_round.proofs.OutcomeBytes.{look_grading}
use Rattle.word_steps.proofs.Searching.{search_start}
use Rattle.pair_list.specs.Pairs.{left_at, right_at, TwoTables, Empty, PairList, ListAnswer, PairsAnswer}
use Rattle.pair_list.proofs.Listed.{no_more_pairs}
use Rattle.pair_list.proofs.Tables.{table_pairs, table_lawful}
use Rattle.pair_rule.specs.Writing.{laid_pairs}
use Rattle.promises.specs.Combine.{pair_checks}
use Rattle.promises.proofs.CombineOrder.{pairs_last}
use Rattle.promises.proofs.CombineOrder as pair-order
use Rattle.promises.specs.declared.Written.{Written}
use Rattle.promises.specs.declared.Written.TheVariants.{Refused}
use Rattle.temporal_promises.specs.Formed.{WrittenAs}
use Rattle.temporal_promises.specs.Until.{FilesGrades, UntilMade}
use Rattle.temporal_promises.proofs.UntilOrder.{pairs_refused, classes_last, none_fails}
use Rattle.until_grades.specs.Grades.{look, both_grades}
use Rattle.until_list.specs.Listing.{UntilTables, Listing}
use Rattle.until_pairs.specs.Tables.{TableNeeds, TableLaid}
use Rattle.until_rule.specs.Writing.{UntilNeeds, UntilRuleWritten, UntilWritten}
use Rattle.until_strong.specs.Steps.{formed_of, UntilReady, UntilOwn}

module _ {first second : List ℕ} {one two : Shape} {entry classes out : List ℕ} (s : UntilReady first second one two entry classes out) where
  pub two_tables : TwoTables first one.elements second two.elements one.letters
  two_tables = record {
    first_is_table = first_read s.files;
    second_is_table = second_read_too s.files s.same_letters;
    first_law = first_law s.files;
    second_law = subst Lawful (sym (second_is_too s.files s.same_letters)) s.files.second_good.lawful;
  }

  pub some_letters : 1 ≤ one.letters
  some_letters = omega (arith, s.files.first_good.letters_some, s.files.first_shape.letters)

  module _ {zeroed : List ℕ} (z : PartZeroed pair_numbers_base pair_lefts_base entry zeroed) where
    -- no pair has a number
    pub list_empty : Empty zeroed
    list_empty = record { room = omega (arith, s.files.room, z.outside.same_length); blank = z.zeros }

    -- the list, or more than 64 pairs
    module _ {listed : List ℕ} (answer : Option ℕ) (l : PairsAnswer first one.elements second two.elements one.letters zeroed listed answer) where
      list_length : length listed ≡ length entry
      list_length = l.kept.same_length ∙ z.outside.same_length

      pub too_many : answer ≡ None → UntilOwn first second out out classes classes entry listed (Refused TooManyPairs 1 0)
      too_many e =
          let more : MorePairs (morphism_at first one.elements one.letters) (morphism_at second two.elements one.letters) 64 =
          subst (ListAnswer first one.elements second two.elements one.letters listed) e l.says in
          let of-files : MorePairs (morphism_of first) (morphism_of second) 64 =
          subst (λ (m : Morphism). MorePairs (morphism_of first) m 64) (second_is_too s.files s.same_letters)
          (subst (λ (m : Morphism). MorePairs m (morphism_at second two.elements one.letters) 64) (first_is s.files) more) in
          record {
            refusal = pairs_refused first second TooManyPairs 1 0
                (pairs_last first second (letters_agree s.files s.same_letters) s.files.strong.first_strong s.files.strong.second_strong of-files);
            answered = refl;
            classes_length = refl;
            same_length = list_length;
          }

      module _ {np : ℕ} (e : answer ≡ Some np) where
        list : PairList first one.elements second two.elements one.letters listed np
        list = subst (ListAnswer first one.elements second two.elements one.letters listed) e l.says

        room : 65536 ≤ length listed
        room = omega (arith, s.files.room, list_length)

        -- the closures stand behind the list and before it
        first_stands : MarkingAt (morphism_of first).size (closure_grade (morphism_of first) (marking_of first)) listed search_end
        first_stands =
            marking_kept search_end s.files.first_good.table.small (λ i g h. l.kept.after i (omega arith) ∙ z.outside.after i (omega arith)) s.files.strong.first_closure

        second_stands : MarkingAt (morphism_of second).size (closure_grade (morphism_of second) (marking_of second)) listed second_base
        second_stands =
            marking_kept second_base s.files.second_good.table.small (λ i g h. l.kept.before i (omega arith) ∙ z.outside.before i (omega arith)) s.files.strong.second_closure

        -- a look is a grade
        first_look : (i j : ℕ) → i < one.elements → j < one.elements → look (morphism_at first one.elements one.letters) listed search_end i j ≡ grading (morphism_of first) (marking_of first) i j
        unfolding look
        first_look i j hi hj =
            ap (λ (m : Morphism). look m listed search_end i j) (first_is s.files)
            ∙ look_grading s.files.first_good.lawful s.files.first_good.table.small (marking_of first) listed search_end first_stands i j
            (omega (arith, s.files.first_shape.elements)) (omega (arith, s.files.first_shape.elements))

        second_look : (i j : ℕ) → i < two.elements → j < two.elements → look (morphism_at second two.elements one.letters) listed second_base i j ≡ grading (morphism_of second) (marking_of second) i j
        unfolding look
        second_look i j hi hj =
            ap (λ (m : Morphism). look m listed second_base i j) (second_is_too s.files s.same_letters)
            ∙ look_grading s.files.second_good.lawful s.files.second_good.table.small (marking_of second) listed second_base second_stands i j
            (omega (arith, s.files.second_shape.elements)) (omega (arith, s.files.second_shape.elements))

        pub table_place : TableNeeds first one.elements second two.elements one.letters np listed
        table_place = record {
          tables = two_tables;
          lay = record { list = list; room = room };
          first_small = λ i j hi hj. rw (first_look i j hi hj) (grading_small (morphism_of first) (marking_of first) i j);
          second_small = λ i j hi hj. rw (second_look i j hi hj) (grading_small (morphism_of second) (marking_of second) i j);
        }

        -- the grades at the contexts
        abbrev φ : ℕ → ℕ → ℕ
        φ t y = grading (morphism_of first) (marking_of first) (left_at listed t) (left_at listed y)

        abbrev ψ : ℕ → ℕ → ℕ
        ψ t y = grading (morphism_of second) (marking_of second) (right_at listed t) (right_at listed y)

        module _ {laid : List ℕ} (t : TableLaid first one.elements second two.elements one.letters np listed laid) where
          abbrev m : Morphism
          m = laid_pairs laid np one.letters

          law : Lawful m
          law = table_lawful two_tables list t.table

          pairs : PairsOf (morphism_of first) (morphism_of second) m (left_at listed) (right_at listed)
          pairs =
              subst (λ (n : Morphism). PairsOf (morphism_of first) n m (left_at listed) (right_at listed)) (second_is_too s.files s.same_letters)
              (subst (λ (n : Morphism). PairsOf n (morphism_at second two.elements one.letters) m (left_at listed) (right_at listed)) (first_is s.files)
              (table_pairs two_tables list t.table))

          tables : UntilTables m φ ψ laid
          unfolding both_grades
          tables = record {
            lawful = law;
            few_pairs = list.few;
            products = λ i j hi hj. refl;
            images = λ x h. refl;
            grades = λ i j hi hj.
                t.grades i j hi hj
                ∙ ap₂ (λ (a b : ℕ). b + 4 * max b a) (first_look (left_at listed i) (left_at listed j) (list.left_inside i hi) (list.left_inside j hj))
                (second_look (right_at listed i) (right_at listed j) (list.right_inside i hi) (list.right_inside j hj));
            first_small = λ i j hi hj. grading_small (morphism_of first) (marking_of first) (left_at listed i) (left_at listed j);
            second_small = λ i j hi hj. grading_small (morphism_of second) (marking_of second) (right_at listed i) (right_at listed j);
          }

          listing : Listing m φ ψ laid classes 0 0 0
          listing = record {
            tables = tables;
            search = search_start laid two_tables.first_is_table.letters_small;
            held = λ j h. absurd (omega arith);
            room = omega (arith, room, t.same_length);
            classes_room = s.classes_room;
          }

          pub until_place : UntilNeeds np one.letters laid classes out
          until_place = record {
            ready = record { product = m.product; image = m.image; first = φ; second = ψ; listing = listing };
            letters_some = some_letters;
            out_room = s.out_room;
          }

          -- the table of the pairs decides both rules' grades
          pair_table : FilesGrades first second
          pair_table = record {
            table = m;
            lawful = law;
            left = left_at listed;
            right = right_at listed;
            pairs = pairs;
            first_grade = φ;
            second_grade = ψ;
            first_decides = left_decides pairs law (first_grades s.files).lawful (first_grades s.files).grades (strong_grades (first_grades s.files));
            second_decides = right_decides pairs law (second_grades s.files).lawful (second_grades s.files).grades (strong_grades (second_grades s.files));
          }

          passes : FirstFailure (pair_checks first second) passed
          passes =
              pair-order.none_fails first second (letters_agree s.files s.same_letters) s.files.strong.first_strong s.files.strong.second_strong
              (λ more. no_more_pairs two_tables list
              (subst (λ (n : Morphism). MorePairs n (morphism_at second two.elements one.letters) 64) (sym (first_is s.files))
              (subst (λ (n : Morphism). MorePairs (morphism_of first) n 64) (sym (second_is_too s.files s.same_letters)) more)))

          -- the rule of the classes
          module _ {after : List ℕ} {end : ℕ} (w : UntilRuleWritten m φ ψ out after end) where
            rule : Rule
            rule = record { morphism = w.table; lawful = w.lawful; marks = w.marks }

            made : UntilRule (morphism_of first) (marking_of first) (morphism_of second) (marking_of second) rule
            unfolding rule
            made = pairs_until rule (first_grades s.files) (second_grades s.files) pairs law (strong_grades (first_grades s.files)) (strong_grades (second_grades s.files)) w.classes w.marked

            letters_are : w.table.letters ≡ one.letters
            letters_are = w.classes.same_letters

            written_as : WrittenAs (UntilMade first second) out after end
            unfolding rule pair_table
            written_as = record {
              rule = rule;
              makes = record {
                over = pair_table;
                pair = w.pair;
                low = w.low;
                high = w.high;
                classes = w.classes;
                numbered = w.numbered;
                grades = made.until;
                strong = made.strong.strong;
                marks = made.marks_grades;
              };
              written = written_rule w.table w.marks
                  (record { some = w.some; small = w.few; letters_some = rw letters_are some_letters; letters_small = rw letters_are two_tables.first_is_table.letters_small })
                  (record { grades = made.strong.grades.small }) w.lawful made.strong.grades.linked made.strong.reached w.written;
            }

            few_classes : ¬ MoreUntilClasses m φ ψ 64
            few_classes more = let h = (more_classes w.lawful w.classes 64).0 more in omega (arith, w.few)

          module _ {exit classes' after : List ℕ} where
            own_answer : (file : Option ℕ) → UntilWritten np one.letters laid exit classes classes' out after file → UntilOwn first second out after classes classes' entry exit (formed_of file)
            unfolding pair_table
            own_answer (Some end) w =
                let r = w.says m.product m.image φ ψ listing in
                record {
                  refusal = none_fails first second passes pair_table (few_classes r);
                  answered = written_as r;
                  classes_length = w.classes_length;
                  same_length = w.same_length ∙ t.same_length ∙ list_length;
                }
            own_answer None w =
                let r = w.says m.product m.image φ ψ listing in
                record {
                  refusal = classes_last first second passes pair_table r.more;
                  answered = r.kept;
                  classes_length = w.classes_length;
                  same_length = w.same_length ∙ t.same_length ∙ list_length;
                }

            pub until_said : (file : Option ℕ) {said : Written} → UntilWritten np one.letters laid exit classes classes' out after file → said ≡ formed_of file
                → UntilOwn first second out after classes classes' entry exit said
            until_said file w q = subst (UntilOwn first second out after classes classes' entry exit) (sym q) (own_answer file w)
