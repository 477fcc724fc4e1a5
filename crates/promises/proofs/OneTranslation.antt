-- Two answers of the call for the same automaton and buffers are one, and leave out and scratch alike: of the rules of an automaton
-- only one is numbered by first words. Assumes nothing.
use Prim.Native.Nat.{ℕ, ◌≤◌}
use native.Mathlib.Omega.{arith}
use mathlib.Core.Path.{◌≡◌, sym, ◌∙◌, subst}
use mathlib.Core.Logic.{◌↔◌}
use mathlib.Core.List.{List}
use Rattle.finite.proofs.Pigeonhole.{injection_le}
use Rattle.answer.proofs.Order.{AllSingle, single_nil, single_at, single_cons, single_append, one_verdict}
use Rattle.theory.specs.Words.{Lasso}
use Rattle.theory.specs.Rules.{Rule as Any-rule}
use Rattle.theory.specs.Grades.{AtLeast}
use Rattle.theory.specs.Smallest.{SameGrades, Renumbered}
use Rattle.theory.proofs.Values.{inside_of}
use Rattle.theory.proofs.Gradings.{level_down}
use Rattle.buchi.specs.Automata.{AcceptedBy}
use Rattle.buchi.proofs.Numberings.{matrices_renumbered}
use Rattle.formats.proofs.Buffers.{buffer_single}
use Rattle.formats.proofs.AutomatonVerdict.{read_single}
use Rattle.formats.specs.WrittenFile.{file_of}
use Rattle.promises.proofs.OneOutput.{one_front, one_written}
use Rattle.formats.proofs.OneFile.{one_file}
use Rattle.promises.specs.Answers.{written_verdict}
use Rattle.promises.specs.Automaton.{automaton_of, AutomatonRuleOf, translate_checks, RulePromise, TooManyMatricesAt}
use Rattle.promises.specs.declared.Written.{Written}

module _ (bytes out entry : List ℕ) where
  -- each check fails at one place at most
  all_single : AllSingle (translate_checks bytes out entry)
  all_single =
      buffer_single
      (single_append (read_single 1 bytes entry) (single_cons (single_at (λ place (a : TooManyMatricesAt _ place). a.is_place)) single_nil))

  pub rule_one_verdict : {out-exit out-exit' exit exit' : List ℕ} {answer answer' : Written} → RulePromise bytes out out-exit entry exit answer
      → RulePromise bytes out out-exit' entry exit' answer' → written_verdict answer ≡ written_verdict answer'
  rule_one_verdict p q = one_verdict all_single p.refusal q.refusal

-- scratch is left the same
pub one_scratch : {bytes out out-exit out-exit' entry exit exit' : List ℕ} {answer answer' : Written} → RulePromise bytes out out-exit entry exit answer
    → RulePromise bytes out out-exit' entry exit' answer' → exit ≡ exit'
one_scratch p q = p.scratch ∙ sym q.scratch

abbrev rule_of_lem : {bytes before after : List ℕ} {r : ℕ} → AutomatonRuleOf bytes before after r → Any-rule
rule_of_lem a = record { morphism = a.morphism; lawful = a.lawful; marks = a.marks }

-- no lasso is graded above 3
marked_small : {bytes before after : List ℕ} {r g : ℕ} {u v : List ℕ} (a : AutomatonRuleOf bytes before after r) → 1 ≤ g → AtLeast a.morphism a.marks g u v → g ≤ 3
marked_small {g = g} a some t =
    let h = level_down a.marks g t.element_of_start t.cycle_element t.has_mark in
    let e = a.threes t.element_of_start t.cycle_element (inside_of a.lawful t.start_over t.start_value) (inside_of a.lawful t.cycle_over t.cycle_value) (omega (arith, h)) in
    omega (arith, h, e)

-- two rules of one automaton have one table, elements renumbered, and so, both being numbered by first words, one file
module _ {bytes before after after' : List ℕ} {r r' : ℕ} (a : AutomatonRuleOf bytes before after r) (b : AutomatonRuleOf bytes before after' r') where
  renumbered : Renumbered a.morphism b.morphism
  renumbered = matrices_renumbered a.lawful a.elements b.lawful b.elements

  renumbered_back : Renumbered b.morphism a.morphism
  renumbered_back = matrices_renumbered b.lawful b.elements a.lawful a.elements

  same_size : a.morphism.size ≡ b.morphism.size
  same_size =
      let to = injection_le (record { maps = renumbered.inside; apart = renumbered.one_to_one }) in
      let back = injection_le (record { maps = renumbered_back.inside; apart = renumbered_back.one_to_one }) in
      omega (arith, to, back)

  same_grades : SameGrades (rule_of_lem a) (rule_of_lem b)
  same_grades = record {
    same_letters = renumbered.same_letters;
    both_or_neither = λ g some u v l. (
      λ t. (let small = marked_small a some t in (there g some small u v l).1 (((a.accepts g some small).accepts u v l).0 t)),
      λ t. (let small = marked_small b some t in ((a.accepts g some small).accepts u v l).1 ((there g some small u v l).0 t)),
    );
  }
    where
      there : (g : ℕ) → 1 ≤ g → g ≤ 3 → (u v : List ℕ) → Lasso a.morphism.letters u v → AtLeast b.morphism b.marks g u v ↔ AcceptedBy (automaton_of bytes) u v
      there g some small u v l = (b.accepts g some small).accepts u v (subst (λ n. Lasso n u v) renumbered.same_letters l)

  same_file : file_of b.morphism b.marks ≡ file_of a.morphism a.marks
  same_file = one_file (rule_of_lem a) (rule_of_lem b) renumbered same_size a.numbered b.numbered a.all_marked b.all_marked same_grades

-- two answers are one, and leave out alike
pub one_answer : {bytes before after after' entry exit exit' : List ℕ} (answer answer' : Written) → RulePromise bytes before after entry exit answer
    → RulePromise bytes before after' entry exit' answer' → (answer ≡ answer') × (after ≡ after')
one_answer {bytes} {before} {after} {after'} {entry} answer answer' p q =
    one_written (AutomatonRuleOf bytes before after) (AutomatonRuleOf bytes before after') before after after'
    (λ r r' a b. one_front a.written.front b.written.front (same_file a b)) answer answer' p.answered q.answered (rule_one_verdict bytes before entry p q)
