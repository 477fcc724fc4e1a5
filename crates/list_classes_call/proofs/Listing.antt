-- What a listing of the classes promises, from what the check of the rule, the classes written and their counts promise.
-- Assumes nothing.
use Rattle.std.specs.Prelude.{Result, Ok, Err}
use Rattle.answer.specs.declared.Refused.{Refused}
use Rattle.answer.proofs.Parts.{refused_by}
use Prim.Native.Nat.{ℕ, ◌*◌, ◌-◌, ◌≤◌, ◌<◌}
use mathlib.Core.Path.{◌≡◌, refl, sym, subst}
use mathlib.Core.List.{List}
use lib.ListN.{length, replicate}
use Rattle.answer.specs.declared.Refusal.{Refusal}
use Rattle.answer.specs.declared.Refusal.TheVariants.{BufferTooShort}
use Rattle.theory.specs.Rules.{Morphism, Lawful}
use Rattle.formats.proofs.Tables.{Table}
use Rattle.formats.specs.Table.{morphism_at}
use Rattle.formats.proofs.Buffers.{buffer_short, buffer_long}
use Rattle.rule_layout.specs.declared.Shape.{Shape}
use Rattle.rule_check.specs.Answers.{CheckPromise}
use Rattle.rule_check.proofs.Left.{short_left, long_left}
use Rattle.rule_check.proofs.Calls.{zeros_left, checked_rule, checked_refused, checked_length, shape_morphism, shape_table}
use Rattle.formats.proofs.GoodRule.{called_good}
use Rattle.promises.specs.declared.Listed.TheVariants.{Counts, Refused as Not-answered}
use Rattle.theory.specs.Pairs.{ClassCounts}
use Rattle.promises.specs.Classes.{ClassesWritten, classes_size, ListPromise}
use Rattle.mark_class_numbers.specs.Cells.{CellCounts}
use Rattle.list_classes_call.proofs.Counting.{class_counts}

-- a short buffer is refused, and both are left as they came
pub out_short : (bytes out scratch : List ℕ) → length out < classes_size → ListPromise bytes out out scratch scratch (Not-answered BufferTooShort 1 0)
out_short bytes out scratch h = record {
  refusal = buffer_short h;
  answered = refl;
  scratch = short_left classes_size out scratch h;
}

-- a checked rule, by the counts that were read
module _ (bytes entry mid : List ℕ) (answer : Result Shape Refused) (known : CheckPromise 1 bytes entry mid answer) {shape : Shape} (e : answer ≡ Ok shape) where
  rule_known : CheckPromise 1 bytes entry mid (Ok shape)
  rule_known = checked_rule 1 bytes entry mid answer known e

  -- its table
  pub listed_table : Table bytes shape.elements shape.letters
  listed_table = shape_table rule_known.scratch.shape_is (called_good 1 bytes entry rule_known.refusal).table

  -- which is lawful
  pub listed_lawful : Lawful (morphism_at bytes shape.elements shape.letters)
  listed_lawful = subst Lawful (sym (shape_morphism rule_known.scratch.shape_is)) (called_good 1 bytes entry rule_known.refusal).lawful

module _ (bytes out entry mid : List ℕ) (answer : Result Shape Refused) (long : classes_size ≤ length out) (known : CheckPromise 1 bytes entry mid answer) where
  -- the check's refusal is handed on
  pub listed_refused : {r : Refusal} {input place : ℕ} → answer ≡ Err (refused_by r input place) → ListPromise bytes out out entry mid (Not-answered r input place)
  listed_refused e =
      let p = checked_refused 1 bytes entry mid answer known e in
      record { refusal = buffer_long long p.refusal; answered = refl; scratch = long_left classes_size out entry long p.scratch }

  -- the classes of a checked rule are written and counted, and scratch is cleared
  pub listed_counts : {shape : Shape} {out-exit exit : List ℕ} {linked classes : ℕ} → answer ≡ Ok shape → exit ≡ replicate (length mid) 0
      → ClassesWritten (morphism_at bytes shape.elements shape.letters) out out-exit
      → CellCounts out-exit (shape.elements * shape.elements) linked classes
      → ListPromise bytes out out-exit entry exit (Counts linked classes (linked - classes))
  listed_counts {out-exit = out-exit} {exit = exit} {linked = linked} {classes = classes} e z w k =
      let p = checked_rule 1 bytes entry mid answer known e in
      let same = shape_morphism p.scratch.shape_is in
      let t = listed_table bytes entry mid answer known e in
      record {
        refusal = buffer_long long p.refusal;
        answered = (
          subst (λ (m : Morphism). ClassesWritten m out out-exit) same w,
          subst (λ (m : Morphism). ClassCounts m linked classes (linked - classes)) same (class_counts t.some t.small w k),
        );
        scratch = long_left classes_size out entry long (zeros_left 1 bytes entry p.refusal mid exit (checked_length p.scratch) z);
      }
