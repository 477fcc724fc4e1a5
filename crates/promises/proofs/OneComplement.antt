-- Two answers of the call for the same rule and buffers are one, and leave out and scratch alike: the complement's marks are
-- fixed, and so is its file. Assumes nothing.
use Prim.Native.Nat.{ℕ, ◌-◌, ◌<◌}
use mathlib.Core.Path.{◌≡◌, refl, sym, ap, ◌∙◌}
use mathlib.Core.List.{List}
use mathlib.Core.Logic.{⊎_elim}
use Rattle.finite.proofs.Tests.{T_dec}
use Rattle.answer.proofs.Order.{one_verdict}
use Rattle.theory.proofs.Closure.{linked_test, linked_intro, linked_elim}
use Rattle.theory.proofs.Gradings.{one_lassos_grade}
use Rattle.formats.specs.RuleFile.{morphism_of}
use Rattle.promises.proofs.OneStrength.{strong_rule_single}
use Rattle.formats.specs.WrittenFile.{file_of}
use Rattle.formats.proofs.Agree.{Agree}
use Rattle.formats.proofs.Same.{SameMarks, file_same}
use Rattle.promises.proofs.OneOutput.{one_front, one_written}
use Rattle.promises.specs.declared.Written.{Written}
use Rattle.promises.specs.Complement.{ComplementWritten, ComplementPromise}

-- two complements of one rule have one file
module _ {bytes before after after' : List ℕ} {r r' : ℕ} (a : ComplementWritten bytes before after r) (b : ComplementWritten bytes before after' r') where
  same_table : Agree (morphism_of bytes) (morphism_of bytes)
  same_table = record { same_size = refl; same_letters = refl; same_product = λ x y hx hy. refl; same_image = λ x h. refl }

  same_marks : SameMarks (morphism_of bytes).size a.marks b.marks
  same_marks = record { same = λ s e hs he. go s e hs he }
    where
      go : (s e : ℕ) → s < (morphism_of bytes).size → e < (morphism_of bytes).size → b.marks s e ≡ a.marks s e
      go s e hs he =
          ⊎_elim (λ t.
          let left = a.is_complement.complement.of_linked s e (linked_elim (morphism_of bytes) s e t) in
          let right = b.is_complement.complement.of_linked s e (linked_elim (morphism_of bytes) s e t) in
          right.turned ∙ ap (λ (g : ℕ). 3 - g) (one_lassos_grade right.graded.lassos left.graded.lassos) ∙ sym left.turned)
          (λ f.
          b.is_complement.complement.of_others s e hs he (λ l. f (linked_intro l))
          ∙ sym (a.is_complement.complement.of_others s e hs he (λ l. f (linked_intro l)))) (T_dec (linked_test (morphism_of bytes) s e))

  one_file : file_of (morphism_of bytes) b.marks ≡ file_of (morphism_of bytes) a.marks
  one_file = file_same same_table same_marks

module _ {bytes before after after' entry exit exit' : List ℕ} where
  pub one_answer : (answer answer' : Written) → ComplementPromise bytes before after entry exit answer → ComplementPromise bytes before after' entry exit' answer'
      → (answer ≡ answer') × (after ≡ after')
  one_answer answer answer' p q =
      one_written (ComplementWritten bytes before after) (ComplementWritten bytes before after') before after after'
      (λ r r' a b. one_front a.written.front b.written.front (one_file a b)) answer answer' p.answered q.answered
      (one_verdict (strong_rule_single _ before bytes entry) p.refusal q.refusal)

  pub one_scratch : {answer answer' : Written} → ComplementPromise bytes before after entry exit answer → ComplementPromise bytes before after' entry exit' answer'
      → exit ≡ exit'
  one_scratch p q = p.scratch ∙ sym q.scratch
