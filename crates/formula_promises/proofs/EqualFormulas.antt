-- Formulas that mean the same are written alike, and others not; and each answer is one. Assumes nothing.
use Prim.Native.Nat.{ℕ}
use mathlib.Core.Path.{◌≡◌, sym, subst, ◌∙◌}
use mathlib.Core.List.{List}
use Rattle.theory.specs.Words.{Lasso}
use Rattle.theory.specs.Rules.{Rule, Lawful}
use Rattle.theory.specs.Smallest.{SameGrades}
use Rattle.theory.proofs.SameGrades.{same_on, same_back}
use Rattle.temporal.specs.Formulas.{Formula}
use Rattle.formats.specs.RuleFile.{morphism_of}
use Rattle.formats.specs.WrittenFile.{file_of}
use Rattle.formats.specs.ReadBack.{ReadsBack}
use Rattle.formats.proofs.Agree.{agree_lawful}
use Rattle.formats.proofs.Front.{one_front}
use Rattle.formats.proofs.ReadBack.{reads_agree}
use Rattle.promises.specs.Reduce.{rule_of}
use Rattle.promises.proofs.Printing.{read_same}
use Rattle.promises.proofs.SameReductions.{reductions_file}
use Rattle.temporal_promises.specs.Formed.{WrittenAs}
use Rattle.temporal_promises.proofs.OneFirstLetter.{meaning_grades, own_reduction}
use Rattle.formula_promises.specs.Checks.{ReductionOf}
use Rattle.formula_promises.specs.FormulaRule.{FormulaOf, FormulaMade}
use Rattle.formula_promises.specs.FormulasTheorem.{SameMeaning, FormulaPrints, FormulasTheorem}
use Rattle.formula_promises.proofs.OneFormula.{same_formula, one_formula}

module _ {letters : ℕ} {formula file : List ℕ} (p : FormulaPrints letters formula file) where
  made : WrittenAs (FormulaMade letters formula) p.before p.after p.end
  made = p.promised.answered

  print_is : file_of made.rule.morphism made.rule.marks ≡ file
  print_is = one_front made.written.front p.printed

  print_reads : ReadsBack made.rule.morphism made.rule.marks file
  print_reads = subst (ReadsBack made.rule.morphism made.rule.marks) print_is made.written.reads_back

  print_lawful : Lawful (morphism_of file)
  print_lawful = agree_lawful (reads_agree print_reads) made.rule.lawful

  print_grades : (law : Lawful (morphism_of file)) → SameGrades made.rule (rule_of file law)
  print_grades law = read_same made.rule print_reads law

  print_reduction : (f : Formula) → FormulaOf formula f → ReductionOf letters f made.rule
  print_reduction f is = subst (λ (g : Formula). ReductionOf letters g made.rule) (same_formula made.makes.formula_is is) made.makes.reduction

-- rules with the same grades, of two meanings
grades_meaning : {letters : ℕ} {f g : Formula} {x y : Rule} → ReductionOf letters f x → ReductionOf letters g y → SameGrades x y → SameMeaning letters f g
grades_meaning p q s = record {
  same = λ h some u v l.
      let a = p.grades h some u v l in
      let b = q.grades h some u v l in
      let l' = subst (λ (n : ℕ). Lasso n u v) (sym p.same_letters) l in
      let c = s.both_or_neither h some u v l' in
      (λ m. b.0 (c.0 (a.1 m)), λ m. a.0 (c.1 (b.1 m)));
}

module _ {letters : ℕ} {formula formula' file file' : List ℕ} (p : FormulaPrints letters formula file) (q : FormulaPrints letters formula' file') (f g : Formula)
    (is : FormulaOf formula f) (is' : FormulaOf formula' g) where
  alike : file ≡ file' → SameMeaning letters f g
  alike e =
      let q' : FormulaPrints letters formula' file = subst (FormulaPrints letters formula') (sym e) q in
      let law = print_lawful p in
      grades_meaning (print_reduction p f is) (print_reduction q' g is') (same_on (print_grades p law) (same_back (print_grades q' law)))

  printed_alike : SameMeaning letters f g → file ≡ file'
  printed_alike s =
      let a = print_reduction p f is in
      let b = print_reduction q g is' in
      sym (print_is p) ∙ sym (reductions_file (meaning_grades s.same a b) (own_reduction a) (own_reduction b) a.numbered b.numbered) ∙ print_is q

pair_same : {A B : Type 0} {a a' : A} {b b' : B} → a ≡ a' → b ≡ b' → ◌≡◌ {A = A × B} (a, b) (a', b')
pair_same e f = λ i. (e i, f i)

pub formulas_theorem : FormulasTheorem
formulas_theorem = record {
  one_answer = λ letters formula out stack spare classes entry. record {
    one = λ x y a b p q.
        let same = one_formula a b p q in
        (same.0, pair_same same.1 (pair_same (p.stack_left ∙ sym q.stack_left) (pair_same (p.spare_left ∙ sym q.spare_left) (pair_same (p.classes_left ∙ sym q.classes_left) (p.scratch_at_exit ∙ sym q.scratch_at_exit)))));
  };
  equal = λ letters formula formula' file file' p q f g is is'. (alike p q f g is is', printed_alike p q f g is is');
}
