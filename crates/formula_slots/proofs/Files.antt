-- The file of a formula's reduction: the rule that its bytes mean is the reduction, and a rule that was written whole has such a file. Assumes nothing.
use Prim.Native.Nat.{ℕ}
use mathlib.Core.Path.{◌≡◌, sym, ◌∙◌, subst}
use mathlib.Core.List.{List}
use Rattle.answer.specs.Checks.{passed, FirstFailure}
use Rattle.theory.specs.Words.{Over, Lasso}
use Rattle.theory.specs.Rules.{Morphism, Lawful, Rule}
use Rattle.theory.specs.Smallest.{SameGrades}
use Rattle.theory.proofs.SameGrades.{smallest_same}
use Rattle.temporal.specs.Formulas.{Formula}
use Rattle.formats.specs.FirstWords.{ByFirstWords}
use Rattle.formats.specs.RuleChecks.{rule_checks}
use Rattle.formats.specs.WrittenFile.{file_of}
use Rattle.formats.specs.ReadBack.{ReadsBack, FileShape, WrittenRule}
use Rattle.formats.proofs.Agree.{Agree, agree_value, below_first}
use Rattle.formats.proofs.GoodRule.{GoodRule, good_rule}
use Rattle.formats.proofs.ReadBack.{reads_agree}
use Rattle.formats.proofs.ReadRules.{reads_strong, reads_marks}
use Rattle.promises.specs.Reduce.{rule_of}
use Rattle.promises.proofs.Printing.{read_same}
use Rattle.formula_promises.specs.Checks.{ReductionOf}
use Rattle.formula_slots.specs.Slots.{ReductionFile}

-- a table that agrees with one numbered by first words is numbered so
agree_first_words : {m m' : Morphism} → Agree m m' → Lawful m → ByFirstWords m → ByFirstWords m'
agree_first_words {m} {m'} agree law b = record {
  word = b.word;
  first = λ s h.
      let own = b.first s (below_first agree h) in
      record {
        over = subst (λ (n : ℕ). Over n (b.word s)) (sym agree.same_letters) own.over;
        its_value = agree_value agree law own.over ∙ own.its_value;
        least = λ v o e.
            let there : Over m.letters v = subst (λ (n : ℕ). Over n v) agree.same_letters o in
            own.least v there (sym (agree_value agree law there) ∙ e);
      };
  increasing = λ s t h k. b.increasing s t h (below_first agree k);
}

-- the rule that the bytes mean
module _ {letters : ℕ} {f : Formula} {file : List ℕ} (r : ReductionFile letters f file) where
  pub file_good : GoodRule file
  file_good = good_rule 1 file (r.passes 1)

  abbrev pub file_rule : Rule
  file_rule = rule_of file file_good.lawful

  file_grades : SameGrades r.rule file_rule
  file_grades = read_same r.rule r.reads_back file_good.lawful

  -- is the reduction too
  pub file_reduction : ReductionOf letters f file_rule
  file_reduction =
      let own = r.rule in
      let p = r.reduction in
      let agree = reads_agree r.reads_back in
      record {
        same_letters = agree.same_letters ∙ p.same_letters;
        grades = λ h some u v l.
            let a = p.grades h some u v l in
            let b = file_grades.both_or_neither h some u v (subst (λ (n : ℕ). Lasso n u v) (sym p.same_letters) l) in
            (λ x. a.0 (b.1 x), λ x. b.0 (a.1 x));
        smallest = smallest_same p.smallest (reads_strong own.lawful r.reads_back p.smallest.strong) file_grades agree.same_size;
        numbered = agree_first_words agree own.lawful p.numbered;
        marks = reads_marks own.lawful r.reads_back p.marks;
      }

-- a reduction that was written whole
pub written_file : {letters : ℕ} {f : Formula} {file before after : List ℕ} {end : ℕ} (rule : Rule) → ReductionOf letters f rule → WrittenRule rule.morphism rule.marks before after end
    → file ≡ file_of rule.morphism rule.marks → ReductionFile letters f file
written_file rule reduction w e = record {
  rule = rule;
  reduction = reduction;
  file_is = e;
  passes = λ input. subst (λ (bytes : List ℕ). FirstFailure (rule_checks input bytes) passed) (sym e) (w.passes input);
  reads_back = subst (ReadsBack rule.morphism rule.marks) (sym e) w.reads_back;
  shape = subst FileShape (sym e) w.shape;
}
