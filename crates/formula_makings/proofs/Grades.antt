-- The grades of the rules that the library makes of reductions' files, by the formulas made of theirs. Assumes nothing.
use Prim.Native.Nat.{ℕ, ◌-◌, ◌≤◌}
use mathlib.Core.Path.{◌≡◌, sym, ◌∙◌, subst}
use mathlib.Core.Logic.{◌↔◌, inl, inr, ⊎_elim}
use mathlib.Core.List.{List}
use native.Mathlib.Omega.{arith}
use Rattle.theory.specs.Words.{Lasso}
use Rattle.theory.specs.Rules.{Morphism, Marking, Lawful, Rule}
use Rattle.theory.specs.Grades.{AtLeast, Graded}
use Rattle.theory.proofs.Gradings.{at_least_small, has_grade}
use Rattle.temporal.specs.Temporal.{NextOf, UntilOf}
use Rattle.temporal.specs.Formulas.{Formula, Means, negation, next, until}
use Rattle.temporal.proofs.FormulaRules.{holds_from, from_holds}
use Rattle.formats.specs.RuleFile.{letters_of, morphism_of, marking_of}
use Rattle.formats.specs.WrittenFile.{file_of}
use Rattle.formats.specs.ReadBack.{WrittenRule}
use Rattle.formats.proofs.GoodRule.{good_rule, graded_marks}
use Rattle.formats.proofs.ReadRules.{reads_at_least}
use Rattle.promises.specs.declared.Operation.{Operation}
use Rattle.promises.specs.declared.Operation.TheVariants.{Both, Either, Without}
use Rattle.promises.specs.Combine.{CombinedTo}
use Rattle.promises.specs.Complement.{ComplementMarks}
use Rattle.promises.proofs.CombinedGrades.{both_do, at_least_one_does, first_not_second}
use Rattle.formula_promises.specs.Operations.{made_of_two}
use Rattle.formula_slots.specs.Slots.{ReductionFile}
use Rattle.formula_slots.proofs.Files.{file_good, file_reduction}
use Rattle.formula_makings.specs.Makings.{two_of}
use Rattle.formula_makings.proofs.Rules.{rule_for_file}

-- no lasso has a grade above 3 under a rule that was written
written_small : {m : Morphism} {marks : Marking} {before after : List ℕ} {end h : ℕ} {u v : List ℕ} → Lawful m → WrittenRule m marks before after end → AtLeast m marks h u v → h ≤ 3
written_small {m} {marks} {h = h} {u} {v} law w a =
    let good = good_rule 1 (file_of m marks) (w.passes 1) in
    at_least_small good.lawful (graded_marks good) ((reads_at_least law w.reads_back h u v).0 a)

module _ {letters : ℕ} {f : Formula} {file : List ℕ} (r : ReductionFile letters f file) where
  own_lasso : {u v : List ℕ} → Lasso letters u v → Lasso (letters_of file) u v
  own_lasso {u} {v} l = subst (λ (n : ℕ). Lasso n u v) (sym (file_reduction r).same_letters) l

  file_grade : {u v : List ℕ} → Lasso letters u v → (g : ℕ) × Graded (morphism_of file) (marking_of file) u v g
  file_grade l = has_grade (file_good r).lawful (graded_marks (file_good r)) (own_lasso l)

  -- the complement's
  pub complement_means : {marks : Marking} {before after : List ℕ} {end : ℕ} → ComplementMarks (morphism_of file) (marking_of file) marks → WrittenRule (morphism_of file) marks before after end
      → (h : ℕ) → 1 ≤ h → (u v : List ℕ) → Lasso letters u v → AtLeast (morphism_of file) marks h u v ↔ Means letters (negation f) h u v
  unfolding Means
  complement_means {marks} c w h some u v l = (
    λ a. (let small = written_small (file_good r).lawful w a in (small, λ k. (there small).0 a ((at_file small).1 k))),
    λ k. (there k.0).1 (λ a. k.1 ((at_file k.0).0 a)),
  )
    where
      at_file : h ≤ 3 → AtLeast (morphism_of file) (marking_of file) (4 - h) u v ↔ Means letters f (4 - h) u v
      at_file small = (file_reduction r).grades (4 - h) (omega arith) u v l

      there : h ≤ 3 → AtLeast (morphism_of file) marks h u v ↔ (AtLeast (morphism_of file) (marking_of file) (4 - h) u v → ⊥)
      there small =
          subst (λ (n : ℕ). AtLeast (morphism_of file) marks n u v ↔ (AtLeast (morphism_of file) (marking_of file) (4 - h) u v → ⊥)) (let z : 4 - (4 - h) ≡ h = omega arith in z)
          (c.rest (4 - h) (omega arith) (omega arith) u v (own_lasso l))

  -- that of `next`
  pub next_means : {x : Rule} → NextOf (morphism_of file) (marking_of file) x → (h : ℕ) → 1 ≤ h → (u v : List ℕ) → Lasso letters u v
      → AtLeast x.morphism x.marks h u v ↔ Means letters (next f) h u v
  unfolding Means
  next_means n h some u v l =
      let q = rule_for_file r in
      let a = n.grades h some u v (subst (λ (k : ℕ). Lasso k u v) (sym (n.same_letters ∙ q.same_letters)) l) in
      (λ x. holds_from q some (a.0 x), λ x. a.1 (from_holds q some x))

module _ {letters : ℕ} {f g : Formula} {first second : List ℕ} (r : ReductionFile letters f first) (s : ReductionFile letters g second) where
  -- that of the pairs
  pub combined_means : (operation : Operation) {before after : List ℕ} {end : ℕ} (k : CombinedTo first second operation before after end)
      → (h : ℕ) → 1 ≤ h → (u v : List ℕ) → Lasso letters u v → AtLeast k.rule.morphism k.rule.marks h u v ↔ Means letters (made_of_two (two_of operation) f g) h u v
  unfolding Means made_of_two
  combined_means Both k h some u v l =
      let a = (file_reduction r).grades h some u v l in
      let b = (file_reduction s).grades h some u v l in
      let c = both_do (own_lasso r l) (file_grade r l).1 (file_grade s l).1 h some k in
      (λ x. (a.0 (c.0 x).0, b.0 (c.0 x).1), λ x. c.1 (a.1 x.0, b.1 x.1))
  combined_means Either k h some u v l =
      let a = (file_reduction r).grades h some u v l in
      let b = (file_reduction s).grades h some u v l in
      let c = at_least_one_does (own_lasso r l) (file_grade r l).1 (file_grade s l).1 h some k in
      (λ x. ⊎_elim (λ y. inl (a.0 y)) (λ y. inr (b.0 y)) (c.0 x), λ x. c.1 (⊎_elim (λ y. inl (a.1 y)) (λ y. inr (b.1 y)) x))
  combined_means Without k h some u v l =
      let a = (file_reduction r).grades h some u v l in (
        λ x.
            let small = written_small k.rule.lawful k.written x in
            let c = first_not_second (own_lasso r l) (file_grade r l).1 (file_grade s l).1 h some small k in
            let b = (file_reduction s).grades (4 - h) (omega arith) u v l in
            (a.0 (c.0 x).0, (small, λ y. (c.0 x).1 (b.1 y))),
        λ x.
            let small : h ≤ 3 = x.1.0 in
            let c = first_not_second (own_lasso r l) (file_grade r l).1 (file_grade s l).1 h some small k in
            let b = (file_reduction s).grades (4 - h) (omega arith) u v l in
            c.1 (a.1 x.0, λ y. x.1.1 (b.0 y)),
      )

  -- that of `until`
  pub until_means : {x : Rule} → UntilOf (morphism_of first) (marking_of first) (morphism_of second) (marking_of second) x → (h : ℕ) → 1 ≤ h → (u v : List ℕ) → Lasso letters u v
      → AtLeast x.morphism x.marks h u v ↔ Means letters (until f g) h u v
  unfolding Means
  until_means n h some u v l =
      let p = rule_for_file r in
      let q = rule_for_file s in
      let a = n.grades h some u v (subst (λ (k : ℕ). Lasso k u v) (sym (n.first_letters ∙ p.same_letters)) l) in (
        λ x. (let y = a.0 x in record { place = y.place; reached = holds_from q some y.reached; before = λ j b. holds_from p some (y.before j b) }),
        λ x. a.1 (record { place = x.place; reached = from_holds q some x.reached; before = λ j b. from_holds p some (x.before j b) }),
      )
