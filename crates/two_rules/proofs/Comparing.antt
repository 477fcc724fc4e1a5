-- What each way through the checks behind those of two files promises, and what they are asked for. Assumes nothing.
use Rattle.std.specs.Prelude.{Result, Ok, Err}
use Prim.Native.Nat.{ℕ}
use mathlib.Core.Path.{◌≡◌, refl, sym, ◌∙◌, subst}
use mathlib.Core.List.{List}
use Rattle.answer.specs.declared.Refused.{Refused}
use Rattle.answer.specs.declared.Refusal.TheVariants.{LettersDiffer, NotStrong}
use Rattle.answer.proofs.Parts.{refused_by}
use Rattle.formats.specs.RuleFile.{letters_of}
use Rattle.formats.specs.Table.{morphism_at}
use Rattle.rule_layout.specs.declared.Shape.{Shape}
use Rattle.promises.proofs.CombineOrder.{letters_first, weak_first, weak_second}
use Rattle.two_rules.specs.declared.Strengths.{Strengths}
use Rattle.two_rules.specs.declared.Strengths.TheVariants.{Strong, FirstWeak, SecondWeak}
use Rattle.two_rules.specs.Deciding.{BothDecided}
use Rattle.two_rules.specs.Comparing.{BothChecked, BothCompared}
use Rattle.two_rules.proofs.Calling.{first_file_weak, second_file_weak, strong_files}

module _ {first second : List ℕ} {one two : Shape} {scratch : List ℕ} (r : BothChecked first second one two scratch) where
  letters_of_first : one.letters ≡ letters_of first
  letters_of_first = r.checked.scratch.first_shape.letters

  letters_of_second : two.letters ≡ letters_of second
  letters_of_second = r.checked.scratch.second_shape.letters

  -- the letter counts differ
  pub letters_differ : (one.letters ≡ two.letters → ⊥) → BothCompared first second one two scratch scratch (Err (refused_by LettersDiffer 1 0))
  letters_differ f = record {
    same_length = refl;
    compared = letters_first first second (λ e. f (letters_of_first ∙ e ∙ sym letters_of_second));
  }

  module _ (same : one.letters ≡ two.letters) {decided : List ℕ} (answer : Strengths)
      (d : BothDecided (morphism_at first one.elements one.letters) (morphism_at second two.elements two.letters) scratch decided answer) where
    letters_agree : letters_of first ≡ letters_of second
    letters_agree = sym letters_of_first ∙ same ∙ letters_of_second

    -- the first is weak
    pub first_refused : answer ≡ FirstWeak → BothCompared first second one two scratch decided (Err (refused_by NotStrong 1 0))
    first_refused e = record {
      same_length = d.same_length;
      compared = weak_first first second letters_agree (first_file_weak first second r.entry r.checked d e);
    }

    -- the second is
    pub second_refused : answer ≡ SecondWeak → BothCompared first second one two scratch decided (Err (refused_by NotStrong 2 0))
    second_refused e =
        let w = second_file_weak first second r.entry r.checked d e in
        record { same_length = d.same_length; compared = weak_second first second letters_agree w.first_strong w.second_weak }

    -- both are strong
    pub both_strong : answer ≡ Strong → BothCompared first second one two scratch decided (Ok tt)
    both_strong e = record {
      same_length = d.same_length;
      compared = record { files = strong_files first second r.entry r.checked d e; same_letters = same };
    }

-- the answer, known by its case
module _ {first second : List ℕ} {one two : Shape} {entry exit : List ℕ} {answer : Result Unit Refused} (known : BothCompared first second one two entry exit answer) where
  pub compared_strong : {done : Unit} → answer ≡ Ok done → BothCompared first second one two entry exit (Ok done)
  compared_strong e = subst (BothCompared first second one two entry exit) e known

  pub compared_refused : {r : Refused} → answer ≡ Err r → BothCompared first second one two entry exit (Err r)
  compared_refused e = subst (BothCompared first second one two entry exit) e known
