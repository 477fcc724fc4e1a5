-- The bytes of a buffer after a part of it, from a place on to its end, was lent and changed. Assumes nothing.
use Prim.Native.Nat.{ℕ, ◌+◌, ◌-◌, ◌≤◌, ◌<◌}
use mathlib.Core.Path.{◌≡◌, sym, ap, ◌∙◌, subst}
use mathlib.Core.Logic.{⊎_elim}
use mathlib.Core.List.{List, ◌++◌}
use native.Mathlib.Omega.{arith}
use lib.ListN.{length, get_or, take, drop, length-drop, get_or-append, get_or-eq_default}
use lib.Seq.{length-take-le, get_or-take, get_or-drop, get_or-append-add}
use borrow.Rule.Slice.PartMut.{put_mid, same_len_mid}
use Rattle.finite.proofs.Numbers.{le_or_lt}
use Rattle.scratch.specs.Bytes.{UnchangedOutside}

module _ (old : List ℕ) (a : ℕ) (inside : a ≤ length old) where
  abbrev part : List ℕ
  part = take (length old - a) (drop a old)

  pub part_length : length (take (length old - a) (drop a old)) ≡ length old - a
  part_length = length-take-le (length old - a) (drop a old) (omega (arith, length-drop a old))

  -- byte j of the part
  pub part_byte : (j : ℕ) → a + j < length old → get_or (take (length old - a) (drop a old)) j 0 ≡ get_or old (a + j) 0
  part_byte j h = get_or-take (length old - a) (drop a old) j 0 (omega arith) ∙ get_or-drop a old j 0

  module _ (new rest : List ℕ) where
    front_length : length (take a old) ≡ a
    front_length = length-take-le a old inside

    -- a byte before the part
    pub before_part : (i : ℕ) → i < a → get_or (take a old ++ (new ++ rest)) i 0 ≡ get_or old i 0
    before_part i h = get_or-append (take a old) (new ++ rest) 0 i (omega (arith, front_length)) ∙ get_or-take a old i 0 h

    -- a byte of the part
    pub in_part : (j : ℕ) → j < length new → get_or (take a old ++ (new ++ rest)) (a + j) 0 ≡ get_or new j 0
    in_part j h =
        ap (λ (i : ℕ). get_or (take a old ++ (new ++ rest)) (i + j) 0) (sym front_length)
        ∙ get_or-append-add (take a old) (new ++ rest) j 0 ∙ get_or-append new rest 0 j h

  -- what lies behind the part: nothing
  abbrev none : List ℕ
  none = drop (length old - a) (drop a old)

  -- where the part changed in its first bytes only, the buffer changed only there
  pub part_unchanged : (to : ℕ) (new : List ℕ) → UnchangedOutside 0 to (take (length old - a) (drop a old)) new
      → UnchangedOutside a (a + to) old (put_mid a (length old - a) old new)
  part_unchanged to new k = record {
    same_length = same;
    before = before_part new none;
    after = λ i h. ⊎_elim (λ past. get_or-eq_default (take a old ++ (new ++ none)) 0 (omega (arith, same)) ∙ sym (get_or-eq_default old 0 past)) (λ within. behind i h within)
        (le_or_lt (length old) i);
  }
    where
      same : length (take a old ++ (new ++ none)) ≡ length old
      same = same_len_mid a (length old - a) old new k.same_length

      long : length new ≡ length old - a
      long = k.same_length ∙ part_length

      byte : (j : ℕ) → to ≤ j → a + j < length old → get_or (take a old ++ (new ++ none)) (a + j) 0 ≡ get_or old (a + j) 0
      byte j h w = in_part new none j (omega (arith, long)) ∙ k.after j h ∙ part_byte j w

      behind : (i : ℕ) → a + to ≤ i → i < length old → get_or (take a old ++ (new ++ none)) i 0 ≡ get_or old i 0
      behind i h w =
          let e : i ≡ a + (i - a) = omega arith in
          subst (λ (x : ℕ). get_or (take a old ++ (new ++ none)) x 0 ≡ get_or old x 0) (sym e) (byte (i - a) (omega arith) (omega arith))
