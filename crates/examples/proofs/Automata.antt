-- The automaton's file: it passes every check, its three matrices are found by computing, every rule of it has three elements, and
-- every reduction of such a rule has two. Assumes nothing.
use Prim.Native.Nat.{ℕ, zero, suc, ◌≤◌, ◌<◌}
use native.Mathlib.Omega.{arith}
use mathlib.Core.Path.{◌≡◌, refl, subst, ◌∙◌}
use mathlib.Core.Bool.{Bool, true, not, ◌&&◌}
use mathlib.Core.Logic.{◌↔◌}
use mathlib.Core.List.{List, ◌++◌}
use lib.Dec.{T, leb, eqb, leb→le}
use lib.ListN.{length, drop}
use mir.Facts.{yes_eqb}
use Rattle.finite.proofs.Tests.{T_and, T_and_left, T_and_right, not_T}
use Rattle.finite.proofs.Search.{all_below, all_elim}
use Rattle.finite.proofs.Worklist.{Entry}
use Rattle.finite.proofs.FirstWords.{Sooner, sooner_parent, sooner_letter}
use Rattle.finite.proofs.Explore.{sooner_le}
use Rattle.finite.proofs.Discovery.{Discovery}
use Rattle.answer.specs.Checks.{passed, FirstFailure}
use Rattle.answer.proofs.Order.{first_passes, none_left, passed_before}
use Rattle.theory.specs.Words.{Lasso}
use Rattle.theory.specs.Rules.{Rule, Lawful, Marking, level, join}
use Rattle.theory.specs.Grades.{RuleStrong}
use Rattle.theory.specs.Smallest.{SameGrades}
use Rattle.theory.proofs.Gradings.{GradedMarks, at_least_small}
use Rattle.theory.proofs.Computing.{computing}
use Rattle.formats.specs.Sections.{Section}
use Rattle.formats.proofs.Sections.{good_passes}
use Rattle.formats.specs.RuleFile.{morphism_of}
use Rattle.formats.proofs.Buffers.{buffer_long}
use Rattle.formats.specs.RuleChecks.{rule_size, scratch_size}
use Rattle.formats.proofs.GoodRule.{good_rule, graded_marks, GoodRule}
use Rattle.formats.specs.AutomatonFile.{states_of, kind_at, is_initial, is_final, automaton_letters_at, automaton_letters_of, transitions_at, transitions_of, transition_at, from_of, letter_of, to_of, is_transition, has_transition, automaton_end, triple_bound, states_section, automaton_letters_section, transitions_section}
use Rattle.formats.specs.Calls.{scratch_left}
use Rattle.formats.specs.AutomatonChecks.{automaton_checks, read_checks}
use Rattle.automaton_file.proofs.RepeatedOrder.{Fresh, fresh_all}
use Rattle.buchi.specs.Automata.{Automaton}
use Rattle.buchi.specs.Rule.{MatricesOf, MarkedBy, AcceptsRuns, MoreMatrices}
use Rattle.buchi.proofs.Computing.{testing}
use Rattle.buchi.proofs.AutomatonRule.{run_marks, run_marked, run_threes, graded_good, graded_accepts_runs, graded_strong, graded_marks as graded-marks-of}
use Rattle.buchi.proofs.TableTest.{matrices_elim}
use Rattle.buchi.proofs.Numberings.{more_matrices}
use Rattle.buchi.proofs.ExampleRule.{M10_table, M10_matrix, M10_lawful, M10_reached}
use Rattle.rule_reach.specs.Reach.{word_step}
use Rattle.formats.specs.FirstWords.{ByFirstWords}
use Rattle.rule_first_words.proofs.Ordered.{entry, found_by_first_words}
use Rattle.formats.specs.WrittenFile.{file_of}
use Rattle.formats.proofs.ReadBack.{written_rule}
use Rattle.promises.specs.Reduce.{rule_of}
use Rattle.promises.specs.declared.Written.{Written}
use Rattle.promises.specs.declared.Written.TheVariants.{Rule as Is-translated, Refused}
use Rattle.promises.specs.Answers.{written_verdict, WrittenAnswer}
use Rattle.promises.specs.Automaton.{automaton_of, AutomatonRuleOf, translate_checks, RulePromise}
use Rattle.promises.proofs.OneTranslation.{rule_one_verdict}
use Rattle.examples.specs.Files.{automaton}
use Rattle.examples.specs.Examples.{FileStrong, RuleReducesTo, ExampleReducesTo, Translation, TranslatedTo, AutomatonReducesTo}
use Rattle.examples.proofs.Passing.{section_test, section_elim, checks_to}
use Rattle.examples.proofs.OneElement.{sooner_none}
use Rattle.formats.proofs.ReadRules.{reads_at_least, reads_strong}
use Rattle.examples.proofs.Reductions.{reducing, reduces_as, reduces_by_model}

-- ---- a test that computes whether an automaton file passes the checks 1 to 4 and 8

module _ (bytes : List ℕ) where
  abbrev letters_rest : List ℕ
  letters_rest = drop (automaton_letters_at bytes) bytes

  abbrev transitions_rest : List ℕ
  transitions_rest = drop (transitions_at bytes) bytes

  abbrev triples : Section
  triples = transitions_section (states_of bytes) (automaton_letters_of bytes)

  -- the i-th and the j-th transition are the same triple
  unfoldable same_triples : ℕ → ℕ → Bool
  same_triples j i =
      eqb (from_of bytes i) (from_of bytes j) && (eqb (letter_of bytes i) (letter_of bytes j) && eqb (to_of bytes i) (to_of bytes j))

  unfoldable fresh_test : ℕ → Bool
  fresh_test j = all_below j (λ i. not (same_triples j i))

  fresh_elim : (j : ℕ) → T (fresh_test j) → Fresh bytes j
  unfolding fresh_test same_triples
  fresh_elim j t = record {
    fresh = λ i h s. not_T (same_triples j i) (all_elim j (λ i. not (same_triples j i)) t i h)
        (T_and (eqb (from_of bytes i) (from_of bytes j)) _ (yes_eqb s.same_from)
        (T_and (eqb (letter_of bytes i) (letter_of bytes j)) _ (yes_eqb s.same_letter) (yes_eqb s.same_to)));
  }

  unfoldable automaton_test : Bool
  automaton_test =
      section_test states_section bytes
      && (section_test automaton_letters_section letters_rest
      && (section_test triples transitions_rest && (leb (length bytes) (automaton_end bytes) && all_below (transitions_of bytes) fresh_test)))

  automaton_passes : T automaton_test → FirstFailure (automaton_checks 1 bytes) passed
  unfolding automaton_test automaton_checks
  automaton_passes t =
      let t₁ = T_and_right (section_test states_section bytes) _ t in
      let t₂ = T_and_right (section_test automaton_letters_section letters_rest) _ t₁ in
      let t₃ = T_and_right (section_test triples transitions_rest) _ t₂ in
      let ends = leb→le (length bytes) (automaton_end bytes) (T_and_left (leb (length bytes) (automaton_end bytes)) _ t₃) in
      let fresh = T_and_right (leb (length bytes) (automaton_end bytes)) _ t₃ in
      passed_before _ _
      (passed_before _ _ (good_passes states_section 1 0 bytes (section_elim _ _ (T_and_left (section_test states_section bytes) _ t)))
      (passed_before _ _ (good_passes automaton_letters_section 1 (automaton_letters_at bytes) letters_rest (section_elim _ _ (T_and_left (section_test automaton_letters_section letters_rest) _ t₁)))
      (good_passes triples 1 (transitions_at bytes) transitions_rest (section_elim _ _ (T_and_left (section_test triples transitions_rest) _ t₂)))))
      (first_passes (record { nowhere = λ place l. omega (arith, ends, l.longer) })
      (fresh_all 1 (transitions_of bytes) (record { each = λ j h. fresh_elim j (all_elim (transitions_of bytes) fresh_test fresh j h) })))

-- opens what the bytes of an automaton file mean, and its tests
unfoldable opening : Bool
unfolding reducing testing kind_at is_initial is_final automaton_letters_at automaton_letters_of transitions_at transitions_of transition_at from_of letter_of to_of is_transition has_transition automaton_end triple_bound same_triples fresh_test automaton_test
opening = true

reads : FirstFailure (automaton_checks 1 automaton) passed
unfolding opening
reads = automaton_passes automaton tt

-- ---- a rule of the automaton: its table has the matrices of all non-empty words, as the tests find

abbrev a : Automaton
a = automaton_of automaton

three : MatricesOf a M10_table M10_matrix
unfolding opening
three = matrices_elim a M10_table M10_matrix M10_lawful M10_reached refl tt

abbrev marks : Marking
marks = run_marks a M10_table M10_matrix

marking : MarkedBy a M10_table M10_matrix (level 1 marks)
marking = run_marked a M10_table M10_matrix

threes : (s e : ℕ) → s < 3 → e < 3 → 1 ≤ marks s e → marks s e ≡ 3
threes = run_threes a M10_table M10_matrix

abbrev rule : Rule
rule = record { morphism = M10_table; lawful = M10_lawful; marks = marks }

accepts : (g : ℕ) → 1 ≤ g → g ≤ 3 → AcceptsRuns a M10_table (level g marks)
accepts = graded_accepts_runs marks M10_lawful three marking threes

strong : RuleStrong rule
strong = graded_strong marks M10_lawful three marking threes

marks_good : GradedMarks M10_table marks
marks_good = graded_good marks M10_lawful three marking threes

rule_reduces : RuleReducesTo rule 2
unfolding opening
rule_reduces = reduces_by_model rule M10_reached marks_good strong refl

-- ---- every rule that the promise allows has as many elements as there are matrices, and its file reduces as this rule does

matrices : (i : ℕ) → MoreMatrices a i ↔ (i < 3)
matrices = more_matrices M10_lawful three

module _ {before after : List ℕ} {r : ℕ} (made : AutomatonRuleOf automaton before after r) where
  made_elements : made.morphism.size ≡ 3
  made_elements =
      let more = more_matrices made.lawful made.elements in
      let low : 2 < made.morphism.size = (more 2).0 ((matrices 2).1 (omega arith)) in
      let high : 3 < made.morphism.size → ⊥ = λ h. let f : 3 < 3 = (matrices 3).0 ((more 3).1 h) in omega arith in
      omega arith

  abbrev written_file : List ℕ
  written_file = file_of made.morphism made.marks

  abbrev good : GoodRule written_file
  good = good_rule 1 written_file (made.written.passes 1)

  -- its file means a rule that grades the lassos with an accepting run 3 and no other, as the computed rule does
  file_same : (law : Lawful (morphism_of written_file)) → SameGrades (rule_of written_file law) rule
  unfolding opening
  file_same law = record {
    same_letters = made.written.reads_back.letters ∙ made.elements.same_letters;
    both_or_neither = λ g some u v l.
        let l' = subst (λ n. Lasso n u v) made.written.reads_back.letters l in
        let l'' = subst (λ n. Lasso n u v) made.elements.same_letters l' in
        let f = reads_at_least made.lawful made.written.reads_back g u v in (
          λ t.
              (let small = at_least_small good.lawful (graded_marks good) t in
              ((accepts g some small).accepts u v l'').1 (((made.accepts g some small).accepts u v l').0 (f.1 t))),
          λ t.
              (let small = at_least_small M10_lawful marks_good t in
              f.0 (((made.accepts g some small).accepts u v l').1 (((accepts g some small).accepts u v l'').0 t))),
        );
  }

  file_strong : FileStrong written_file
  file_strong = reads_strong made.lawful made.written.reads_back made.strong

  file_reduces : ExampleReducesTo written_file 2
  file_reduces = record {
    lawful = good.lawful;
    reduces = λ law. reduces_as (rule_of written_file law) good.reached (graded_marks good) file_strong (file_same law) rule_reduces.reduction
        (rule_reduces.elements rule_reduces.reduced rule_reduces.reduction);
  }

-- ---- its numbering

-- found sooner than by the last letter from an entry: the entries before, and the same entry with another letter
sooner_self : {q y : ℕ} → Sooner q y q y → ⊥
sooner_self (sooner_parent h) = omega arith
sooner_self (sooner_letter e h) = omega arith

-- the letters' matrices first, then that of 0 1
before_second : (q y : ℕ) → Sooner q y 0 1 → y < 2 → Entry entry 2 (word_step M10_table y (entry q))
unfolding entry word_step join computing opening
before_second zero zero s l = record { at = 1; below = omega arith; same = refl }
before_second zero (suc zero) s l = absurd (sooner_self s)
before_second zero (suc (suc y)) s l = absurd (omega arith)
before_second (suc q) y s l = absurd (omega (arith, sooner_le s))

before_third : (q y : ℕ) → Sooner q y 1 1 → y < 2 → Entry entry 3 (word_step M10_table y (entry q))
unfolding entry word_step join computing opening
before_third zero zero s l = record { at = 1; below = omega arith; same = refl }
before_third zero (suc zero) s l = record { at = 2; below = omega arith; same = refl }
before_third (suc zero) zero s l = record { at = 1; below = omega arith; same = refl }
before_third (suc zero) (suc zero) s l = absurd (sooner_self s)
before_third zero (suc (suc y)) s l = absurd (omega arith)
before_third (suc zero) (suc (suc y)) s l = absurd (omega arith)
before_third (suc (suc q)) y s l = absurd (omega (arith, sooner_le s))

discovery : (j : ℕ) → 0 < j → j < 4 → Discovery (word_step M10_table) 2 entry j
unfolding entry word_step join computing opening
discovery zero h l = absurd (omega arith)
discovery (suc zero) h l = record {
  parent = 0;
  letter = 0;
  found = record { parent_lt = omega arith; letter_lt = omega arith; step = refl; sooner = λ q y s b. absurd (sooner_none s) };
}
discovery (suc (suc zero)) h l = record {
  parent = 0;
  letter = 1;
  found = record { parent_lt = omega arith; letter_lt = omega arith; step = refl; sooner = before_second };
}
discovery (suc (suc (suc zero))) h l = record {
  parent = 1;
  letter = 1;
  found = record { parent_lt = omega arith; letter_lt = omega arith; step = refl; sooner = before_third };
}
discovery (suc (suc (suc (suc j)))) h l = absurd (omega arith)

by_first_words : ByFirstWords M10_table
unfolding opening computing
by_first_words = found_by_first_words M10_lawful discovery

-- ---- the call's promise

module _ (before entry : List ℕ) (long : rule_size ≤ length before) (room : scratch_size ≤ length entry) where
  passes : FirstFailure (translate_checks automaton before entry) passed
  passes =
      buffer_long long
      (passed_before (read_checks 1 automaton entry) _ (buffer_long room reads)
      (first_passes (record { nowhere = λ place f. let h : 64 < 3 = (matrices 64).0 f.more in omega arith }) none_left))

  some_answer : Translation automaton before entry
  some_answer = record {
    answer = Is-translated (length (file_of M10_table marks));
    after = file_of M10_table marks ++ drop (length (file_of M10_table marks)) before;
    exit = scratch_left rule_size before entry;
    promised = record {
      refusal = passes;
      answered = record {
        morphism = M10_table;
        matrix = M10_matrix;
        marks = marks;
        lawful = M10_lawful;
        elements = three;
        numbered = by_first_words;
        marking = marking;
        threes = threes;
        accepts = accepts;
        strong = strong;
        all_marked = graded-marks-of marks M10_lawful three marking threes;
        written =
            written_rule M10_table marks (record { some = omega arith; small = omega arith; letters_some = omega arith; letters_small = omega arith })
            (record { grades = marks_good.small }) M10_lawful marks_good.linked M10_reached (record { holds = refl; counts = refl });
      };
      scratch = refl;
    };
  }

  module _ (after exit : List ℕ) where
    of_answer : (answer : Written) → WrittenAnswer (AutomatonRuleOf automaton before after) before after answer → written_verdict answer ≡ passed → TranslatedTo 3 2 before after answer
    of_answer (Is-translated end) made e =
        record {
          end = end;
          answer_is = refl;
          file = written_file made;
          stands = made.written.front;
          checked = checks_to (made.written.passes 1);
          elements = made.written.reads_back.elements ∙ made_elements made;
          strong = file_strong made;
          reduces = file_reduces made;
        }
    of_answer (Refused r i place) made e = absurd (let z : ◌≡◌ {A = ℕ} 0 1 = cc in let w : ⊥ = omega arith in w)

    each_answer : (answer : Written) → RulePromise automaton before after entry exit answer → TranslatedTo 3 2 before after answer
    unfolding some_answer
    each_answer answer p = of_answer answer p.answered (rule_one_verdict automaton before entry p some_answer.promised)

-- M10
pub automaton_reduces : AutomatonReducesTo automaton 3 2
automaton_reduces = record {
  matrices = matrices;
  passes = passes;
  some_answer = some_answer;
  each_answer = λ before after entry exit answer long room p. each_answer before entry long room after exit answer p;
}
