-- Slots that are kept by one step after another. Assumes nothing.
use Prim.Native.Nat.{ℕ, ◌<◌}
use mathlib.Core.Path.{◌≡◌, sym, ◌∙◌, subst}
use mathlib.Core.List.{List}
use Rattle.temporal.specs.Formulas.{Formula}
use Rattle.board_promises.specs.Boards.{file_at}
use Rattle.formula_slots.specs.Slots.{ReductionFile}
use Rattle.formula_slots.specs.Kept.{OthersKept}
use Rattle.formula_derived.specs.Derived.{KeptBelow}

-- by two steps: what is none of two slots is none of those that either step touches
pub kept_by : {a b c d e f : ℕ} {entry mid exit : List ℕ} → OthersKept a b entry mid → OthersKept c d mid exit → ((i : ℕ) → (i ≡ e → ⊥) → (i ≡ f → ⊥) → (i ≡ a → ⊥) × (i ≡ b → ⊥))
    → ((i : ℕ) → (i ≡ e → ⊥) → (i ≡ f → ⊥) → (i ≡ c → ⊥) × (i ≡ d → ⊥)) → OthersKept e f entry exit
kept_by p q before after = record {
  others = λ i ne nf.
      let x = before i ne nf in
      let y = after i ne nf in
      q.others i y.0 y.1 ∙ p.others i x.0 x.1;
}

-- the rule of a formula in a slot that is kept
pub file_kept : {a b : ℕ} {entry exit : List ℕ} (slot : ℕ) → (slot ≡ a → ⊥) → (slot ≡ b → ⊥) → OthersKept a b entry exit → {letters : ℕ} {f : Formula}
    → ReductionFile letters f (file_at entry slot) → ReductionFile letters f (file_at exit slot)
file_kept slot na nb k {letters} {f} r = subst (ReductionFile letters f) (sym (k.others slot na nb)) r

-- what is below
pub below_kept : {a b : ℕ} {entry exit : List ℕ} (slot : ℕ) → ((i : ℕ) → i < slot → i ≡ a → ⊥) → ((i : ℕ) → i < slot → i ≡ b → ⊥) → OthersKept a b entry exit → KeptBelow slot entry exit
below_kept slot na nb k = record { below = λ i h. k.others i (na i h) (nb i h) }

pub below_on : {slot : ℕ} {entry mid exit : List ℕ} → KeptBelow slot entry mid → KeptBelow slot mid exit → KeptBelow slot entry exit
below_on p q = record { below = λ i h. q.below i h ∙ p.below i h }
