-- Two answers of `until` for the same rules and buffers are one, and leave out, classes and scratch alike: whatever table of the pairs the classes are told by,
-- their table numbered by first words is fixed, and so are the grades of its lassos, its marks and its file. Assumes nothing.
use Prim.Native.Nat.{ℕ}
use mathlib.Core.Path.{◌≡◌, sym, ◌∙◌}
use mathlib.Core.List.{List}
use Rattle.answer.proofs.Order.{AllSingle, single_nil, single_at, single_cons, single_append}
use Rattle.theory.proofs.SameGrades.{renumbered_size}
use Rattle.temporal.proofs.OneRefusal.{pairs_classes_renumbered}
use Rattle.temporal.proofs.Existence.{until_same}
use Rattle.formats.proofs.Buffers.{buffer_single}
use Rattle.formats.proofs.OneVerdict.{rule_single, checked_single}
use Rattle.formats.proofs.OneFile.{one_file}
use Rattle.promises.proofs.OneCombine.{pair_single}
use Rattle.promises.specs.declared.Written.{Written}
use Rattle.temporal_promises.specs.Until.{TooManyUntilAt, until_own_checks, until_checks, UntilMade, UntilPromise}
use Rattle.temporal_promises.proofs.OneFormed.{OneFile, one_formed}

until_own_single : (first second : List ℕ) → AllSingle (until_own_checks first second)
until_own_single first second =
    single_append (pair_single first second) (single_cons (single_at (λ place (a : TooManyUntilAt first second place). a.is_place)) single_nil)

pub until_single : (first second out classes scratch : List ℕ) → AllSingle (until_checks first second out classes scratch)
until_single first second out classes scratch =
    buffer_single (buffer_single (single_append (checked_single 1 first scratch) (single_append (rule_single 2 second) (until_own_single first second))))

pub until_file : {first second : List ℕ} → OneFile (UntilMade first second)
until_file = record {
  same = λ x y p q.
      let t = p.over in
      let s = q.over in
      let renumbered =
      pairs_classes_renumbered t.pairs s.pairs t.lawful s.lawful t.first_decides t.second_decides s.first_decides s.second_decides x.lawful y.lawful
      p.classes q.classes in
      one_file x y renumbered (renumbered_size renumbered) p.numbered q.numbered p.marks q.marks (until_same p.grades q.grades);
}

module _ {first second before after after' classes classes_exit classes-exit' entry exit exit' : List ℕ} where
  pub one_answer : (a b : Written) → UntilPromise first second before after classes classes_exit entry exit a
      → UntilPromise first second before after' classes classes-exit' entry exit' b → (a ≡ b) × (after ≡ after')
  one_answer a b p q = one_formed until_file before after after' (until_single first second before classes entry) a b p.refusal q.refusal p.answered q.answered

  pub one_classes : {a b : Written} → UntilPromise first second before after classes classes_exit entry exit a
      → UntilPromise first second before after' classes classes-exit' entry exit' b → classes_exit ≡ classes-exit'
  one_classes p q = p.classes ∙ sym q.classes

  pub one_scratch : {a b : Written} → UntilPromise first second before after classes classes_exit entry exit a
      → UntilPromise first second before after' classes classes-exit' entry exit' b → exit ≡ exit'
  one_scratch p q = p.scratch ∙ sym q.scratch
