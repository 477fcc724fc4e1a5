-- Two answers of `next` for the same rule and buffers are one, and leave out and scratch alike: the table of the pairs numbered by first words is fixed, and so
-- are the grades of its lassos, its marks and its file. Assumes nothing.
use Prim.Native.Nat.{ℕ}
use mathlib.Core.Path.{◌≡◌, sym, ◌∙◌}
use mathlib.Core.List.{List}
use Rattle.answer.proofs.Order.{AllSingle, single_nil, single_at, single_cons, single_append}
use Rattle.theory.proofs.SameGrades.{renumbered_size}
use Rattle.temporal.proofs.NextClasses.{tails_renumbered}
use Rattle.temporal.proofs.Existence.{next_same}
use Rattle.formats.proofs.Buffers.{buffer_single}
use Rattle.formats.proofs.OneVerdict.{checked_single}
use Rattle.formats.proofs.OneFile.{one_file}
use Rattle.promises.specs.Weak.{WeakAt}
use Rattle.promises.specs.declared.Written.{Written}
use Rattle.temporal_promises.specs.Next.{TooManyNextAt, next_own_checks, next_checks, NextMade, NextPromise}
use Rattle.temporal_promises.proofs.OneFormed.{OneFile, one_formed}

next_own_single : (bytes : List ℕ) → AllSingle (next_own_checks bytes)
next_own_single bytes =
    single_cons (single_at (λ place (a : WeakAt bytes place). a.is_place)) (single_cons (single_at (λ place (a : TooManyNextAt bytes place). a.is_place)) single_nil)

pub next_single : (bytes out scratch : List ℕ) → AllSingle (next_checks bytes out scratch)
next_single bytes out scratch = buffer_single (single_append (checked_single 1 bytes scratch) (next_own_single bytes))

pub next_file : {bytes : List ℕ} → OneFile (NextMade bytes)
next_file = record {
  same = λ x y p q.
      let renumbered = tails_renumbered x.lawful y.lawful p.classes q.classes in
      one_file x y renumbered (renumbered_size renumbered) p.numbered q.numbered p.marks q.marks (next_same p.grades q.grades);
}

module _ {bytes before after after' entry exit exit' : List ℕ} where
  pub one_answer : (a b : Written) → NextPromise bytes before after entry exit a → NextPromise bytes before after' entry exit' b → (a ≡ b) × (after ≡ after')
  one_answer a b p q = one_formed next_file before after after' (next_single bytes before entry) a b p.refusal q.refusal p.answered q.answered

  pub one_scratch : {a b : Written} → NextPromise bytes before after entry exit a → NextPromise bytes before after' entry exit' b → exit ≡ exit'
  one_scratch p q = p.scratch ∙ sym q.scratch
