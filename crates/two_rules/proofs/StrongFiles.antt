-- Two strong rules that passed the checks: what each has, and its table by the counts that were read. Assumes nothing.
use Prim.Native.Nat.{ℕ}
use mathlib.Core.Path.{◌≡◌, sym, ap, ◌∙◌, subst}
use mathlib.Core.List.{List}
use Rattle.theory.specs.Rules.{Lawful}
use Rattle.minimality.proofs.Combined.{StrongGrades}
use Rattle.formats.proofs.Tables.{Table}
use Rattle.formats.specs.Table.{morphism_at}
use Rattle.formats.specs.RuleFile.{letters_of, morphism_of, marking_of}
use Rattle.rule_layout.specs.declared.Shape.{Shape}
use Rattle.formats.proofs.GoodRule.{graded_marks}
use Rattle.rule_check.proofs.Calls.{shape_morphism, shape_table}
use Rattle.two_rules.specs.Deciding.{StrongFiles}

module _ {first second : List ℕ} {one two : Shape} {scratch : List ℕ} (s : StrongFiles first second one two scratch) where
  pub first_is : morphism_at first one.elements one.letters ≡ morphism_of first
  first_is = shape_morphism s.first_shape

  pub second_is : morphism_at second two.elements two.letters ≡ morphism_of second
  second_is = shape_morphism s.second_shape

  pub first_read : Table first one.elements one.letters
  first_read = shape_table s.first_shape s.first_good.table

  pub second_read : Table second two.elements two.letters
  second_read = shape_table s.second_shape s.second_good.table

  pub first_law : Lawful (morphism_at first one.elements one.letters)
  first_law = subst Lawful (sym first_is) s.first_good.lawful

  pub second_law : Lawful (morphism_at second two.elements two.letters)
  second_law = subst Lawful (sym second_is) s.second_good.lawful

  pub first_grades : StrongGrades (morphism_of first) (marking_of first)
  first_grades = record { lawful = s.first_good.lawful; reached = s.first_good.reached; grades = graded_marks s.first_good; strong = s.strong.first_strong }

  pub second_grades : StrongGrades (morphism_of second) (marking_of second)
  second_grades = record { lawful = s.second_good.lawful; reached = s.second_good.reached; grades = graded_marks s.second_good; strong = s.strong.second_strong }

  -- of two rules over as many letters, the second's table by the first's letters
  module _ (same : one.letters ≡ two.letters) where
    pub letters_agree : letters_of first ≡ letters_of second
    letters_agree = sym s.first_shape.letters ∙ same ∙ s.second_shape.letters

    pub second_is_too : morphism_at second two.elements one.letters ≡ morphism_of second
    second_is_too = ap (morphism_at second two.elements) same ∙ second_is

    pub second_read_too : Table second two.elements one.letters
    second_read_too = subst (Table second two.elements) (sym same) second_read
