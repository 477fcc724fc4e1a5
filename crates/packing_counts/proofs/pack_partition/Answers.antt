-- Each case of the answer is packed as the definition has it. Assumes nothing.
use Prim.Native.Nat.{ℕ}
use mathlib.Core.Path.{◌≡◌, refl, sym, ap, ◌∙◌}
use mathlib.Core.Bool.{Bool, true, false}
use mir.Val.{bool_byte}
use Rattle.packing.specs.Packing.{pack_fields}
use Rattle.packing_counts.specs.Counts.{bit, pack_partition}
use Rattle.packing_counts.proofs.pack_partition.Goals as goal

same_bit : (b : Bool) → bool_byte b ≡ bit b
same_bit true = refl
same_bit false = refl

pub returns-in-Blocks : goal.returns-in-Blocks
returns-in-Blocks c =
    c.pack_fields.ensures
    ∙ ap (λ (b : ℕ). pack_fields c.in-Blocks.rounds b 0) (c.from.ensures ∙ same_bit _)
    ∙ sym (ap pack_partition c.in-Blocks.is)

pub returns-in-Refused : goal.returns-in-Refused
returns-in-Refused c = c.pack_refusal.ensures ∙ sym (ap pack_partition c.in-Refused.is)
