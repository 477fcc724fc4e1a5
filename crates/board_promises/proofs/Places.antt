-- The places of the files: a file that is copied to a name's place, and the others, which stay. Assumes nothing.
use Prim.Native.Nat.{ℕ, ◌+◌, ◌*◌, ◌-◌, ◌≤◌, ◌<◌}
use mathlib.Core.Path.{◌≡◌, refl, sym, ap, ◌∙◌}
use mathlib.Core.Logic.{by_cases}
use mathlib.Core.List.{List, ◌++◌, append_assoc}
use native.Mathlib.Omega.{arith}
use native.Mathlib.Numerals.{add-one}
use native.Mathlib.Decide.{dec_lt}
use lib.ListN.{length, get_or, set, take, drop, length-take, length-drop, get_or-append}
use lib.Seq.{paste, paste-zero, paste-suc, length-paste, drop-paste, take-length, length-take-le, get_or-take, get_or-drop, ext_get_or}
use Rattle.formats.specs.RuleChecks.{rule_size}
use Rattle.promises.specs.FilePart.{file_part}
use Rattle.board_promises.specs.Boards.{slot_of, file_at}

-- the first bytes of a file are copied to a place
pub record PutSoFar (s d : List ℕ) (at end : ℕ) (files : List ℕ) (i : ℕ) : Type 0 where
  pub pasted : files ≡ paste d at s i
  pub within : i ≤ length s
  pub room : at + length s ≤ length d
  pub last : end ≡ length s

pub put_none : (s d : List ℕ) (at : ℕ) → at + length s ≤ length d → PutSoFar s d at (length s) d 0
put_none s d at room = record { pasted = paste-zero d at s; within = omega arith; room = room; last = refl }

module _ {s d : List ℕ} {at end : ℕ} {files : List ℕ} {i : ℕ} (p : PutSoFar s d at end files i) where
  pub put_length : length files ≡ length d
  put_length = ap length p.pasted ∙ length-paste d at s i (omega (arith, p.room, p.within)) p.within

  pub put_more : i < end → PutSoFar s d at end (set files (at + i) (get_or s i 0)) (i + 1)
  put_more h = record {
    pasted =
        ap (λ (l : List ℕ). set l (at + i) (get_or s i 0)) p.pasted ∙ paste-suc d at s i 0 (omega (arith, p.room, p.last)) (omega (arith, p.last))
        ∙ ap (paste d at s) (sym (add-one i));
    within = omega (arith, p.last);
    room = p.room;
    last = p.last;
  }

  pub put_all : end ≤ i → files ≡ paste d at s (length s)
  put_all h = p.pasted ∙ ap (paste d at s) (let z : i ≡ length s = omega (arith, p.within, p.last) in z)

-- the whole file, copied: as the promise says it
pub pasted_file : (d s : List ℕ) (at : ℕ) → paste d at s (length s) ≡ take at d ++ (s ++ drop (at + length s) d)
pasted_file d s at =
    ap (λ (l : List ℕ). take at d ++ l ++ drop (at + length s) d) (take-length s) ∙ append_assoc (take at d) s (drop (at + length s) d)

-- what stands elsewhere stays
module _ (d s : List ℕ) (at : ℕ) (room : at + length s ≤ length d) where
  byte_before : (x : ℕ) → x < at → get_or (paste d at s (length s)) x 0 ≡ get_or d x 0
  byte_before x h =
      ap (λ (l : List ℕ). get_or l x 0) (pasted_file d s at)
      ∙ get_or-append (take at d) (s ++ drop (at + length s) d) 0 x (omega (arith, length-take-le at d (omega arith)))
      ∙ get_or-take at d x 0 h

  byte_behind : (x : ℕ) → at + length s ≤ x → get_or (paste d at s (length s)) x 0 ≡ get_or d x 0
  byte_behind x h =
      let k = at + length s in
      let e : x ≡ k + (x - k) = omega arith in
      ap (λ (y : ℕ). get_or (paste d at s (length s)) y 0) e
      ∙ sym (get_or-drop k (paste d at s (length s)) (x - k) 0)
      ∙ ap (λ (l : List ℕ). get_or l (x - k) 0) (drop-paste d at s (length s) (omega arith) (omega arith))
      ∙ get_or-drop k d (x - k) 0
      ∙ ap (λ (y : ℕ). get_or d y 0) (sym e)

-- a byte of a place
slot_byte : (files : List ℕ) (i j : ℕ) → j < rule_size → get_or (slot_of files i) j 0 ≡ get_or files (rule_size * i + j) 0
slot_byte files i j h = get_or-take rule_size (drop (rule_size * i) files) j 0 h ∙ get_or-drop (rule_size * i) files j 0

slot_length : (files files' : List ℕ) (i : ℕ) → length files ≡ length files' → length (slot_of files i) ≡ length (slot_of files' i)
slot_length files files' i e =
    cc (length-take rule_size (drop (rule_size * i) files), length-take rule_size (drop (rule_size * i) files'), length-drop (rule_size * i) files, length-drop (rule_size * i) files')

slot_short : (files : List ℕ) (i : ℕ) → length (slot_of files i) ≤ rule_size
slot_short files i = omega (arith, length-take rule_size (drop (rule_size * i) files))

-- a place, by where it begins and ends
pub slot_part : (files : List ℕ) (i : ℕ) → file_part (take (rule_size * i + rule_size - rule_size * i) (drop (rule_size * i) files)) ≡ file_at files i
slot_part files i = ap (λ (n : ℕ). file_part (take n (drop (rule_size * i) files))) (let z : rule_size * i + rule_size - rule_size * i ≡ rule_size = omega arith in z)

-- the file of another name is read as before
pub others_kept : (d s : List ℕ) (name : ℕ) → rule_size * name + length s ≤ length d → length s ≤ rule_size → (i : ℕ) → (i ≡ name → ⊥)
    → file_at (paste d (rule_size * name) s (length s)) i ≡ file_at d i
others_kept d s name room short i other =
    let made = paste d (rule_size * name) s (length s) in
    let same : length made ≡ length d = length-paste d (rule_size * name) s (length s) room (omega arith) in
    ap file_part (ext_get_or 0 (slot_of made i) (slot_of d i) (slot_length made d i same) (λ j h. same_byte j (omega (arith, slot_short made i))))
  where
    same_byte : (j : ℕ) → j < rule_size → get_or (slot_of (paste d (rule_size * name) s (length s)) i) j 0 ≡ get_or (slot_of d i) j 0
    same_byte j h =
        slot_byte (paste d (rule_size * name) s (length s)) i j h
        ∙ by_cases (dec_lt (rule_size * i + j) (rule_size * name)) (λ l. byte_before d s (rule_size * name) room (rule_size * i + j) l)
        (λ f. byte_behind d s (rule_size * name) room (rule_size * i + j) (omega arith))
        ∙ sym (slot_byte d i j h)
