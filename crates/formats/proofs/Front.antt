-- Buffers with the same bytes at their fronts. Assumes nothing.
use Prim.Native.Nat.{ℕ}
use mathlib.Core.Path.{◌≡◌, refl, sym, ap, ap₂, ◌∙◌}
use mathlib.Core.List.{List, [], ◌∷◌, ◌++◌}
use native.Mathlib.Omega.{arith}
use lib.ListN.{length, drop}
use Rattle.formats.specs.Front.{AtFront}

-- bytes that are the same
pub front_same : {bytes bytes' entry exit : List ℕ} {r : ℕ} → bytes' ≡ bytes → AtFront bytes' entry exit r → AtFront bytes entry exit r
front_same {entry = entry} e w = record {
  holds = w.holds ∙ ap (λ (l : List ℕ). l ++ drop (length l) entry) e;
  counts = w.counts ∙ ap length e;
}

-- one buffer at entry, the same bytes: one at exit
module _ {bytes bytes' before after after' : List ℕ} {r r' : ℕ} (a : AtFront bytes before after r) (b : AtFront bytes' before after' r')
    (e : bytes' ≡ bytes) where
  pub one_length : r ≡ r'
  one_length = a.counts ∙ sym (front_same e b).counts

  pub one_buffer : after ≡ after'
  one_buffer = a.holds ∙ sym (front_same e b).holds

-- lists of one length at the front of one list are equal
same_front : (a b x y : List ℕ) → length a ≡ length b → a ++ x ≡ b ++ y → a ≡ b
same_front [] [] x y h e = refl
same_front [] (i ∷ b) x y h e = absurd (let z : ⊥ = omega arith in z)
same_front (i ∷ a) [] x y h e = absurd (let z : ⊥ = omega arith in z)
same_front (i ∷ a) (j ∷ b) x y h e =
    let first : i ≡ j = cc in
    let rest : a ++ x ≡ b ++ y = cc in
    ap₂ ◌∷◌ first (same_front a b x y (omega arith) rest)

-- one buffer at exit has one file of a given length at its front
pub one_front : {bytes bytes' before before' after : List ℕ} {r : ℕ} → AtFront bytes before after r → AtFront bytes' before' after r → bytes ≡ bytes'
one_front {bytes} {bytes'} a b = same_front bytes bytes' _ _ (sym a.counts ∙ b.counts) (sym a.holds ∙ b.holds)
