-- A file that is copied to a slot is read there. Assumes nothing.
use Prim.Native.Nat.{ℕ, ◌+◌, ◌*◌, ◌≤◌}
use mathlib.Core.Path.{◌≡◌, sym, ap, ◌∙◌, subst}
use mathlib.Core.List.{List}
use native.Mathlib.Omega.{arith}
use lib.ListN.{length}
use lib.Seq.{paste}
use Rattle.formats.specs.RuleChecks.{rule_size}
use Rattle.formats.specs.ReadBack.{FileShape}
use Rattle.board_promises.specs.Boards.{file_at}
use Rattle.board_promises.proofs.Slots.{file_placed}
use Rattle.board_promises.proofs.Places.{pasted_file, others_kept}
use Rattle.formula_slots.specs.Kept.{OthersKept}
use Rattle.formula_pushes.specs.Pushes.{Copied}

-- a file, copied to a slot
module _ (files : List ℕ) (name : ℕ) {file bytes exit : List ℕ} (e : bytes ≡ file) (p : exit ≡ paste files (rule_size * name) bytes (length bytes))
    (room : rule_size * name + rule_size ≤ length files) where
  pub copied_read : Copied file (file_at exit name)
  copied_read = record {
    same = λ shape.
        let own = subst FileShape (sym e) shape in
        ap (λ (l : List ℕ). file_at l name) (p ∙ pasted_file files bytes (rule_size * name)) ∙ file_placed files bytes name (omega arith) (sym own.ends) own.short ∙ e;
  }

  pub copied_kept : length bytes ≤ rule_size → OthersKept name name files exit
  copied_kept short = record { others = λ i other again. ap (λ (l : List ℕ). file_at l i) p ∙ others_kept files bytes name (omega arith) short i other }

-- by way of another
pub copied_on : {file copy again : List ℕ} → Copied file copy → Copied copy again → Copied file again
copied_on a b = record { same = λ shape. (let e = a.same shape in b.same (subst FileShape (sym e) shape) ∙ e) }
