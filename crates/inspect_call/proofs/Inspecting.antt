-- What an inspection promises, from what the check of the same file promises, and that it has one answer only. Assumes nothing.
use Rattle.std.specs.Prelude.{Result, Ok, Err}
use Rattle.answer.specs.declared.Refused.{Refused}
use Rattle.answer.proofs.Parts.{refused_by}
use Prim.Native.Nat.{ℕ}
use mathlib.Core.Path.{◌≡◌, subst}
use mathlib.Core.List.{List}
use lib.ListN.{length, replicate}
use Rattle.answer.specs.declared.Refusal.{Refusal}
use Rattle.rule_layout.specs.declared.Shape.{Shape}
use Rattle.promises.specs.declared.Inspected.TheVariants.{Rule as Inspected-rule, Refused as Inspected-refused}
use Rattle.promises.specs.Inspect.{InspectPromise}
use Rattle.rule_check.specs.Answers.{CheckPromise}
use Rattle.rule_check.proofs.Calls.{zeros_left, checked_length}

module _ (bytes entry mid : List ℕ) (answer : Result Shape Refused) (known : CheckPromise 1 bytes entry mid answer) where
  -- a checked rule, after which scratch was cleared
  pub inspected_rule : {shape : Shape} {exit : List ℕ} → answer ≡ Ok shape → exit ≡ replicate (length mid) 0
      → InspectPromise bytes entry exit (Inspected-rule shape.elements shape.letters shape.marks)
  inspected_rule {shape} {exit} e z =
      let p : CheckPromise 1 bytes entry mid (Ok shape) = subst (CheckPromise 1 bytes entry mid) e known in
      let s = p.scratch.shape_is in
      record {
        refusal = p.refusal;
        values = record { elements_are = s.elements; letters_are = s.letters; marks_are = s.marks };
        scratch = zeros_left 1 bytes entry p.refusal mid exit (checked_length p.scratch) z;
      }

  -- a refusal is handed on
  pub inspected_refused : {r : Refusal} {input place : ℕ} → answer ≡ Err (refused_by r input place) → InspectPromise bytes entry mid (Inspected-refused r input place)
  inspected_refused {r} {input} {place} e =
      let p : CheckPromise 1 bytes entry mid (Err (refused_by r input place)) = subst (CheckPromise 1 bytes entry mid) e known in
      record { refusal = p.refusal; values = tt; scratch = p.scratch }
