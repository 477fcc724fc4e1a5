-- Each case of the answer is packed as the definition has it. Assumes nothing.
use Prim.Native.Nat.{ℕ, ◌+◌, ◌*◌, ◌%◌}
use mathlib.Core.Path.{◌≡◌, sym, ap, ◌∙◌}
use Rattle.packing.specs.Packing.{pack_fields}
use Rattle.packing_monitors.specs.Monitors.{pack_advanced}
use Rattle.packing_monitors.proofs.pack_advanced.Goals as goal

-- a field is taken below 2 to the power 16
third_field : (a b c d : ℕ) → c % 65536 ≡ d % 65536 → pack_fields a b c ≡ pack_fields a b d
unfolding pack_fields
third_field a b c d e = ap (λ (x : ℕ). 65536 * (a % 65536) + (4294967296 * (b % 65536) + 281474976710656 * x)) e

pub returns-in-To : goal.returns-in-To
returns-in-To c = c.pack_fields.ensures ∙ third_field _ _ _ _ c.grade_and_turns.ensures ∙ sym (ap pack_advanced c.in-To.is)

pub returns-in-Refused : goal.returns-in-Refused
returns-in-Refused c = c.pack_refusal.ensures ∙ sym (ap pack_advanced c.in-Refused.is)
