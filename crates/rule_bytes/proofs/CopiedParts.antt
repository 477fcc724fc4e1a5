-- Bytes copied from a part of one buffer to the front of another. Assumes nothing.
use Prim.Native.Nat.{ℕ, ◌+◌, ◌-◌, ◌≤◌, ◌<◌}
use mathlib.Core.Path.{◌≡◌, sym, subst, ◌∙◌}
use mathlib.Core.List.{List}
use native.Mathlib.Omega.{arith}
use lib.ListN.{length, take, drop, get_or, length-drop}
use lib.Seq.{length-take-le, get_or-take, get_or-drop}
use Rattle.formats.specs.Front.{AtFront}
use Rattle.formats.proofs.SectionList.{rest_of}
use Rattle.rule_bytes.specs.Writing.{Written}
use Rattle.rule_bytes.proofs.Placed.{written_at_front}

module _ (from : List ℕ) (base count : ℕ) where
  -- an entry of the part
  pub part_entry : (s : ℕ) → s < count → get_or (take count (drop base from)) s 0 ≡ get_or from (base + s) 0
  part_entry s h = get_or-take count (drop base from) s 0 h ∙ get_or-drop base from s 0

  module _ (room : base + count ≤ length from) where
    pub part_length : length (take count (drop base from)) ≡ count
    part_length = length-take-le count (drop base from) (omega (arith, length-drop base from))

    pub copied_part : {before after : List ℕ} {end : ℕ} → Written before 0 (take count (take (length from - base) (drop base from))) after end
        → AtFront (take count (drop base from)) before after count
    copied_part {before} {after} {end} w =
        let front = written_at_front (subst (λ (part : List ℕ). Written before 0 (take count part) after end) (rest_of from base) w) in
        record { holds = front.holds; counts = sym part_length }
