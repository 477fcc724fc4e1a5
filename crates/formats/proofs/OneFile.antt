-- Two rules that are numbered by first words, are renumberings of one another, give each lasso the same grade and mark every linked pair
-- with the grade of its lassos are written as one file. Assumes nothing.
use Prim.Native.Nat.{ℕ, ◌<◌}
use native.Mathlib.Omega.{arith}
use mathlib.Core.Path.{◌≡◌, sym, ap₂, ◌∙◌, subst}
use mathlib.Core.Logic.{⊎_elim}
use Rattle.finite.proofs.Tests.{T_dec}
use Rattle.theory.specs.Words.{Lasso}
use Rattle.theory.specs.Rules.{Morphism, Rule}
use Rattle.theory.specs.Smallest.{Renumbered, MarksGrades, SameGrades}
use Rattle.theory.specs.Grades.{LinkedGraded}
use Rattle.theory.proofs.Closure.{linked_test, linked_intro, linked_elim}
use Rattle.theory.proofs.Gradings.{graded_same, one_lassos_grade}
use Rattle.formats.specs.WrittenFile.{file_of}
use Rattle.formats.proofs.Agree.{Agree, agree_linked, agree_value, agree_word, agree_back}
use Rattle.formats.proofs.Same.{SameMarks, file_same}
use Rattle.formats.specs.FirstWords.{ByFirstWords}
use Rattle.formats.proofs.Unique.{renumbered_same}

-- a linked pair whose lassos have a grade is one in the other table
graded_agree : (x y : Rule) → Agree x.morphism y.morphism → SameGrades x y → {s e h : ℕ} → LinkedGraded x.morphism x.marks s e h
    → LinkedGraded y.morphism y.marks s e h
graded_agree x y g same k = record {
  linked = agree_linked g k.linked;
  lassos = record {
    start = agree_word g x.lawful k.lassos.start;
    cycle = agree_word g x.lawful k.lassos.cycle;
    graded = λ u v l eu ev.
        let h = subst (λ n. Lasso n u v) g.same_letters l in
        graded_same (λ i some. same.both_or_neither i some u v h)
        (k.lassos.graded u v h (sym (agree_value g x.lawful h.start_over) ∙ eu) (sym (agree_value g x.lawful h.cycle_over) ∙ ev));
  };
}

module _ (x y : Rule) (f : Renumbered x.morphism y.morphism) (size : x.morphism.size ≡ y.morphism.size)
    (p : ByFirstWords x.morphism) (q : ByFirstWords y.morphism) where
  abbrev a : Morphism
  a = x.morphism

  abbrev b : Morphism
  b = y.morphism

  keeps : (s : ℕ) → s < a.size → f.to s ≡ s
  keeps = renumbered_same x.lawful f p q size

  agree : Agree a b
  agree = record {
    same_size = sym size;
    same_letters = sym f.same_letters;
    same_product = λ s t hs ht.
        ap₂ b.product (sym (keeps s hs)) (sym (keeps t ht)) ∙ sym (f.products s t hs ht) ∙ keeps (a.product s t) (x.lawful.closed s t hs ht);
    same_image = λ i h. sym (f.images i (subst (λ n. i < n) f.same_letters h)) ∙ keeps (a.image i) (x.lawful.images i h);
  }

  module _ (graded : MarksGrades a x.marks) (graded' : MarksGrades b y.marks) (same : SameGrades x y) where
    same_marks : SameMarks a.size x.marks y.marks
    same_marks = record { same = λ s e hs he. go s e hs he }
      where
        go : (s e : ℕ) → s < a.size → e < a.size → y.marks s e ≡ x.marks s e
        go s e hs he =
            ⊎_elim (λ t.
            let l = linked_elim a s e t in
            one_lassos_grade (graded'.of_linked s e (agree_linked agree l)).lassos (graded_agree x y agree same (graded.of_linked s e l)).lassos)
            (λ f.
            graded'.of_others s e (omega arith) (omega arith) (λ l. f (linked_intro (agree_linked (agree_back agree) l)))
            ∙ sym (graded.of_others s e hs he (λ l. f (linked_intro l)))) (T_dec (linked_test a s e))

    pub one_file : file_of b y.marks ≡ file_of a x.marks
    one_file = file_same agree same_marks
