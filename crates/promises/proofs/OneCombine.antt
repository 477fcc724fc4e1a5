-- Two answers of the call for the same rules, operation and buffers are one, and leave out and scratch alike: the table of the pairs numbered by
-- first words is fixed, and so are the grades of its lassos, its marks and its file. Assumes nothing.
use Prim.Native.Nat.{ℕ, ◌≤◌}
use mathlib.Core.Path.{◌≡◌, sym, ◌∙◌, subst}
use mathlib.Core.Logic.{by_cases}
use mathlib.Core.List.{List}
use Rattle.answer.proofs.Order.{AllSingle, single_nil, single_at, single_cons, single_append, one_verdict}
use Rattle.theory.specs.Words.{Lasso}
use Rattle.theory.specs.Grades.{AtLeast, Graded}
use Rattle.theory.specs.Smallest.{SameGrades}
use Rattle.theory.proofs.Membership.{accepts_dec}
use Rattle.theory.proofs.Gradings.{graded_levels, grade_not_missing, at_least_bounded, marks_grades_linked}
use Rattle.theory.proofs.Combined.{pairs_renumbered, pairs_size}
use Rattle.formats.specs.RuleFile.{letters_of, marks_at, morphism_of, marking_of}
use Rattle.formats.specs.WrittenFile.{file_of}
use Rattle.formats.proofs.Grades.{grades_bounded}
use Rattle.formats.proofs.Buffers.{buffer_single}
use Rattle.formats.proofs.OneVerdict.{rule_single, checked_single}
use Rattle.formats.proofs.OneFile.{one_file}
use Rattle.promises.proofs.OneOutput.{one_front, one_written}
use Rattle.promises.specs.declared.Operation.{Operation}
use Rattle.promises.specs.declared.Written.{Written}
use Rattle.promises.specs.Weak.{WeakAt}
use Rattle.promises.specs.Combine.{LettersDifferAt, TooManyPairsAt, pair_checks, combine_checks, CombinedTo, CombinePromise}

-- each check of the call fails at one place at most
pub pair_single : (first second : List ℕ) → AllSingle (pair_checks first second)
pair_single first second =
    single_cons (single_at (λ place (a : LettersDifferAt first second place). a.is_place))
    (single_cons (single_at (λ place (a : WeakAt first place). a.is_place))
    (single_cons (single_at (λ place (a : WeakAt second place). a.is_place)) (single_cons (single_at (λ place (a : TooManyPairsAt first second place). a.is_place)) single_nil)))

pub combine_single : (first second out scratch : List ℕ) → AllSingle (combine_checks first second out scratch)
combine_single first second out scratch =
    buffer_single (single_append (checked_single 1 first scratch) (single_append (rule_single 2 second) (pair_single first second)))

-- it cannot be that a lasso has no grade under the rule of a file
graded_by_file : (bytes u v : List ℕ) → ¬ (¬ ((g : ℕ) × Graded (morphism_of bytes) (marking_of bytes) u v g))
graded_by_file bytes u v =
    let most = grades_bounded bytes (marks_at bytes) in
    grade_not_missing most.0 (at_least_bounded (marking_of bytes) most.0 most.1)

-- a least grade under one answer is one under the other: it is that of the grade combined from the two rules' own, and a written rule's least
-- grades are decided
carries_grade : {first second before after before' after' : List ℕ} {operation : Operation} {r r' : ℕ} (a : CombinedTo first second operation before after r)
    (b : CombinedTo first second operation before' after' r') {u v : List ℕ} (g : ℕ) → 1 ≤ g → Lasso (letters_of first) u v
    → AtLeast a.rule.morphism a.rule.marks g u v → AtLeast b.rule.morphism b.rule.marks g u v
carries_grade {first} {second} a b {u} {v} g some l k =
    let l' = subst (λ (n : ℕ). Lasso n u v) (sym b.pairs.first_letters) l in
    by_cases (accepts_dec b.rule.lawful (marks_grades_linked b.marks some) l'.start_over l'.cycle_over l'.cycle_some) (λ y. y)
    (λ f. absurd (graded_by_file first u v (λ x. graded_by_file second u v (λ y.
    f ((graded_levels (b.grades u v l x.0 y.0 x.1 y.1) g some).1 ((graded_levels (a.grades u v l x.0 y.0 x.1 y.1) g some).0 k))))))

-- two rules of the pairs have one file
module _ {first second before after after' : List ℕ} {operation : Operation} {r r' : ℕ} (a : CombinedTo first second operation before after r)
    (b : CombinedTo first second operation before after' r') where
  same_grades : SameGrades a.rule b.rule
  same_grades = record {
    same_letters = a.pairs.first_letters ∙ sym b.pairs.first_letters;
    both_or_neither = λ g some u v l.
        (let l' : Lasso (letters_of first) u v = subst (λ (n : ℕ). Lasso n u v) a.pairs.first_letters l in
        (carries_grade a b g some l', carries_grade b a g some l'));
  }

  same_file : file_of b.rule.morphism b.rule.marks ≡ file_of a.rule.morphism a.rule.marks
  same_file =
      one_file a.rule b.rule (pairs_renumbered a.pairs b.pairs a.rule.lawful b.rule.lawful)
      (pairs_size a.pairs b.pairs a.rule.lawful b.rule.lawful) a.numbered b.numbered a.marks b.marks same_grades

module _ {first second : List ℕ} {operation : Operation} {before after after' entry exit exit' : List ℕ} where
  pub one_answer : (answer answer' : Written) → CombinePromise first second operation before after entry exit answer
      → CombinePromise first second operation before after' entry exit' answer' → (answer ≡ answer') × (after ≡ after')
  one_answer answer answer' p q =
      one_written (CombinedTo first second operation before after) (CombinedTo first second operation before after') before after after'
      (λ r r' a b. one_front a.written.front b.written.front (same_file a b)) answer answer' p.answered q.answered
      (one_verdict (combine_single first second before entry) p.refusal q.refusal)

  pub one_scratch : {answer answer' : Written} → CombinePromise first second operation before after entry exit answer
      → CombinePromise first second operation before after' entry exit' answer' → exit ≡ exit'
  one_scratch p q = p.scratch ∙ sym q.scratch
