-- What the call answers, by the check's answer and the decision. Assumes nothing.
use Rattle.std.specs.Prelude.{Ok, Err}
use Rattle.answer.proofs.Parts.{refused_by}
use Prim.Native.Nat.{ℕ}
use mathlib.Core.Path.{◌≡◌, refl, subst}
use mathlib.Core.Bool.{Bool, true, false}
use mathlib.Core.List.{List}
use lib.ListN.{length, replicate}
use Rattle.answer.specs.declared.Refusal.{Refusal}
use Rattle.formats.specs.Table.{morphism_at}
use Rattle.formats.specs.RuleFile.{morphism_of, marking_of}
use Rattle.rule_layout.specs.declared.Shape.{Shape}
use Rattle.rule_check.specs.Answers.{CheckPromise}
use Rattle.mark_strong.specs.Deciding.{StrongIf, Decided}
use Rattle.mark_strong.proofs.Calling.{decided_file, decided_strong, decided_left}
use Rattle.promises.specs.Strong.{StrongPromise}
use Rattle.promises.specs.declared.Strength.TheVariants.{Strong as Is-strong, Weak, Refused}

module _ (bytes entry : List ℕ) where
  pub strong_refused : {exit : List ℕ} {r : Refusal} {i place : ℕ} → CheckPromise 1 bytes entry exit (Err (refused_by r i place)) → StrongPromise bytes entry exit (Refused r i place)
  strong_refused p = record { refusal = p.refusal; answered = tt; scratch = p.scratch }

  module _ {shape : Shape} {mid exit : List ℕ} {answer : Bool} (p : CheckPromise 1 bytes entry mid (Ok shape))
      (d : Decided (morphism_at bytes shape.elements shape.letters) mid exit answer) (end : List ℕ) (z : end ≡ replicate (length exit) 0) where
    pub says_strong : answer ≡ true → StrongPromise bytes entry end Is-strong
    says_strong e = record {
      refusal = p.refusal;
      answered = decided_strong 1 bytes entry p d e;
      scratch = decided_left 1 bytes entry p d exit end refl z;
    }

    pub says_weak : answer ≡ false → StrongPromise bytes entry end Weak
    says_weak e = record {
      refusal = p.refusal;
      answered = subst (StrongIf (morphism_of bytes) (marking_of bytes)) e (decided_file 1 bytes entry p d);
      scratch = decided_left 1 bytes entry p d exit end refl z;
    }
