-- A slot that was lent: a file written at its front is read there, and the other slots are read as before. Assumes nothing.
use Prim.Native.Nat.{ℕ, ◌+◌, ◌*◌, ◌-◌, ◌≤◌}
use mathlib.Core.Path.{◌≡◌, sym, ap, ◌∙◌}
use mathlib.Core.List.{List, ◌++◌, append_assoc}
use native.Mathlib.Omega.{arith}
use lib.ListN.{length, take, drop, length-take, length-drop}
use lib.Seq.{paste, length-take-le, drop_at, drop-drop}
use borrow.Rule.Slice.PartMut.{put_mid}
use Rattle.theory.specs.Rules.{Morphism, Marking}
use Rattle.formats.specs.RuleFile.{rule_end}
use Rattle.formats.specs.RuleChecks.{rule_size}
use Rattle.formats.specs.WrittenFile.{file_of}
use Rattle.formats.specs.ReadBack.{FileShape, WrittenRule}
use Rattle.promises.specs.FilePart.{file_part}
use Rattle.board_promises.specs.Boards.{slot_of, file_at}
use Rattle.board_promises.proofs.Slots.{front_read}
use Rattle.board_promises.proofs.Places.{pasted_file, others_kept}
use Rattle.formula_slots.specs.Kept.{OthersKept}

-- no file is longer than its slot
pub read_short : {bytes : List ℕ} (stack : List ℕ) (slot : ℕ) → bytes ≡ file_at stack slot → length bytes ≤ rule_size
read_short stack slot e =
    omega (arith, ap length e, length-take (rule_end (slot_of stack slot)) (slot_of stack slot), length-take rule_size (drop (rule_size * slot) stack))

-- a file at the front of some bytes
front_is_file : (file rest : List ℕ) → FileShape file → file_part (take rule_size (file ++ rest)) ≡ file
front_is_file file rest shape = front_read file rest (sym shape.ends) shape.short

-- read from a buffer that it was written to
pub written_read : {m : Morphism} {marks : Marking} {before after : List ℕ} {end : ℕ} → WrittenRule m marks before after end → file_at after 0 ≡ file_of m marks
written_read {m} {marks} {before} w =
    ap (λ (l : List ℕ). file_part (take rule_size l)) w.front.holds ∙ front_is_file (file_of m marks) (drop (length (file_of m marks)) before) w.shape

-- the part of a slot, put back
part_pasted : (stack new : List ℕ) (at count : ℕ) → length new ≡ count → put_mid at count stack new ≡ paste stack at new (length new)
part_pasted stack new at count e =
    ap (λ (n : ℕ). take at stack ++ (new ++ drop n (drop at stack))) (sym e) ∙ ap (λ (l : List ℕ). take at stack ++ (new ++ l)) (drop-drop (length new) at stack)
    ∙ sym (pasted_file stack new at)

-- the part that is lent, as long as a slot is, and the stack with what came back
abbrev lent_count : ℕ → ℕ
lent_count slot = rule_size * slot + rule_size - rule_size * slot

abbrev pub lent_part : List ℕ → ℕ → List ℕ
lent_part stack slot = take (lent_count slot) (drop (rule_size * slot) stack)

abbrev pub lent_back : List ℕ → ℕ → List ℕ → List ℕ
lent_back stack slot new = put_mid (rule_size * slot) (lent_count slot) stack new

module _ (stack : List ℕ) (slot : ℕ) (room : rule_size * slot + rule_size ≤ length stack) where
  pub lent_length : length (lent_part stack slot) ≡ rule_size
  lent_length =
      length-take-le (lent_count slot) (drop (rule_size * slot) stack) (omega (arith, length-drop (rule_size * slot) stack)) ∙ (let z : lent_count slot ≡ rule_size = omega arith in z)

  -- another slot than the one that was lent
  pub lent_kept : (new : List ℕ) → length new ≡ length (lent_part stack slot) → OthersKept slot slot stack (lent_back stack slot new)
  lent_kept new e = record {
    others = λ i other again.
        let whole : length new ≡ rule_size = e ∙ lent_length in
        ap (λ (l : List ℕ). file_at l i) (part_pasted stack new (rule_size * slot) (lent_count slot) (whole ∙ (let z : rule_size ≡ lent_count slot = omega arith in z)))
        ∙ others_kept stack new slot (omega arith) (omega arith) i other;
  }

  -- a file that was written to the part
  pub lent_read : {m : Morphism} {marks : Marking} {before new : List ℕ} {end : ℕ} → WrittenRule m marks before new end → file_at (lent_back stack slot new) slot ≡ file_of m marks
  lent_read {m} {marks} {before} {new} w =
      let file = file_of m marks in
      let rest = drop (length file) before in
      let behind = drop (lent_count slot) (drop (rule_size * slot) stack) in
      ap (λ (l : List ℕ). file_part (take rule_size l))
      (drop_at (take (rule_size * slot) stack) (new ++ behind) (rule_size * slot) (length-take-le (rule_size * slot) stack (omega arith))
      ∙ ap (λ (l : List ℕ). l ++ behind) w.front.holds ∙ append_assoc file rest behind)
      ∙ front_is_file file (rest ++ behind) w.shape
