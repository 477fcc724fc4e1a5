-- A rule that was written whole and is a strong one for a formula has the formula's file; and a reduction's file is one of a strong rule for its formula. Assumes
-- nothing.
use Prim.Native.Nat.{ℕ, ◌≤◌}
use mathlib.Core.Path.{◌≡◌, sym, ◌∙◌, subst}
use mathlib.Core.Logic.{◌↔◌}
use mathlib.Core.List.{List}
use Rattle.theory.specs.Words.{Lasso}
use Rattle.theory.specs.Rules.{Rule}
use Rattle.theory.specs.Grades.{AtLeast, RuleStrong}
use Rattle.temporal.specs.Formulas.{Formula, Means}
use Rattle.temporal.proofs.Meanings.{RuleFor}
use Rattle.formats.specs.ReadBack.{ReadsBack, WrittenRule}
use Rattle.formats.proofs.GoodRule.{graded_marks}
use Rattle.formats.proofs.ReadBack.{reads_back}
use Rattle.formats.proofs.ReadRules.{reads_at_least, reads_strong}
use Rattle.board_promises.specs.Boards.{file_at}
use Rattle.temporal_promises.proofs.OneFirstLetter.{smallest_file}
use Rattle.formula_promises.specs.Checks.{ReductionOf}
use Rattle.formula_slots.specs.Slots.{ReductionFile}
use Rattle.formula_slots.proofs.Files.{file_good, file_rule, file_reduction}
use Rattle.formula_slots.proofs.Places.{written_read}
use Rattle.formula_makings.specs.Makings.{FormulaFile}

-- a strong rule that was written
module _ {letters : ℕ} {f : Formula} {before after : List ℕ} {end : ℕ} (x : Rule) (same : x.morphism.letters ≡ letters) (strong : RuleStrong x)
    (grades : (h : ℕ) → 1 ≤ h → (u v : List ℕ) → Lasso letters u v → AtLeast x.morphism x.marks h u v ↔ Means letters f h u v)
    (w : WrittenRule x.morphism x.marks before after end) where
  pub written_formula : FormulaFile letters f (file_at after 0)
  written_formula = subst (FormulaFile letters f) (sym (written_read w)) (record {
    passes = w.passes;
    same_letters = w.reads_back.letters ∙ same;
    strong = reads_strong x.lawful w.reads_back strong;
    grades = λ h some u v l.
        let a = grades h some u v l in
        let b = reads_at_least x.lawful w.reads_back h u v in
        (λ k. a.0 (b.1 k), λ k. b.0 (a.1 k));
  })

-- the file of a reduction
module _ {letters : ℕ} {f : Formula} {file : List ℕ} (r : ReductionFile letters f file) where
  pub rule_for_file : RuleFor letters (Means letters f) (file_rule r)
  rule_for_file =
      let p = file_reduction r in
      let good = file_good r in
      record {
        same_letters = p.same_letters;
        strong = record { lawful = good.lawful; reached = good.reached; grades = graded_marks good; strong = p.smallest.strong };
        marks_grades = p.marks;
        grades = p.grades;
      }

  -- each rule that is the reduction reads back from it
  pub reduction_reads : (x : Rule) → ReductionOf letters f x → ReadsBack x.morphism x.marks file
  reduction_reads x p = subst (ReadsBack x.morphism x.marks) (sym (r.file_is ∙ smallest_file.same x r.rule p r.reduction)) (reads_back x.morphism x.marks)
