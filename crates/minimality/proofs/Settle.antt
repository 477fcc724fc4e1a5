-- Rounds computed until one changes nothing: they end at the first stable round, with its blocks. Assumes nothing.
use Prim.Native.Nat.{ℕ, zero, suc, ◌+◌, ◌≤◌, ◌<◌}
use native.Mathlib.Nat.{eq-or-lt_of_le, le_antisymm}
use native.Mathlib.Omega.{arith}
use mathlib.Core.Path.{◌≡◌, refl, sym, subst, ap, ◌∙◌}
use mathlib.Core.Bool.{Bool, true, false, cond}
use mathlib.Core.Logic.{⊎_elim}
use mathlib.Core.List.{List}
use lib.Dec.{T, eqb, eqb→eq}
use lib.ListN.{get_or}
use mir.Facts.{yes_eqb}
use Rattle.finite.proofs.Tests.{true_T}
use Rattle.finite.proofs.Numbers.{le_or_lt}
use Rattle.finite.proofs.Search.{all_below, all_intro, all_elim}
use Rattle.theory.specs.Rules.{Morphism, Lawful}
use Rattle.theory.specs.Rounds.{Stable, IsBlocks}
use Rattle.minimality.proofs.Rounds.{together_before}
use Rattle.minimality.proofs.FirstStable.{StableRound}
use Rattle.minimality.proofs.Blocks.{first_blocks, next_blocks, blocks_after, blocks_right, blocks_together}

-- two lists have the same n entries
unfoldable pub unchanged : ℕ → List ℕ → List ℕ → Bool
unchanged n next blocks = all_below n (λ s. eqb (get_or next s 0) (get_or blocks s 0))

-- where the rounds ended: the number of the round, and its blocks
pub record Settled : Type 0 where
  pub round : ℕ
  pub blocks : List ℕ

-- from the blocks of round i, until a round changes nothing, k rounds at most
unfoldable pub settle_from : Morphism → ℕ → ℕ → List ℕ → Settled
settle_from m zero i blocks = record { round = i; blocks = blocks }
settle_from m (suc k) i blocks =
    let next : List ℕ = next_blocks m blocks in
    let rest : Settled = settle_from m k (suc i) next in
    cond (unchanged m.size next blocks) (record { round = i; blocks = blocks }) rest

-- the first stable round and its blocks
unfoldable pub settle : Morphism → (ℕ → ℕ → ℕ) → Settled
settle m acc = settle_from m m.size 0 (first_blocks m acc)

-- round i and its blocks
unfoldable pub settled_at : Morphism → (ℕ → ℕ → ℕ) → ℕ → Settled
settled_at m acc i = record { round = i; blocks = blocks_after m acc i }

-- a finer relation has no smaller entry
entry_le : {n : ℕ} {R S : ℕ → ℕ → Type 0} {blocks next : List ℕ} → IsBlocks n R blocks → IsBlocks n S next
    → ((s t : ℕ) → s < n → t < n → S s t → R s t) → (s : ℕ) → s < n → get_or blocks s 0 ≤ get_or next s 0
entry_le {blocks = blocks} {next = next} b c f s h =
    ⊎_elim (λ l. l)
    (λ l. absurd (b.least s _ h l (f _ s (omega (arith, c.at_most s h)) h (c.related s h))))
    (le_or_lt (get_or blocks s 0) (get_or next s 0))

module _ {m : Morphism} (law : Lawful m) (acc : ℕ → ℕ → ℕ) where
  -- a round is stable exactly if the next has the same list
  pub unchanged_stable : (i : ℕ) → T (unchanged m.size (blocks_after m acc (suc i)) (blocks_after m acc i)) → Stable m acc i
  unfolding unchanged
  unchanged_stable i p = record {
    kept = λ s t hs ht r.
        (blocks_together law acc (suc i) s t hs ht).0
        (entry s hs ∙ (blocks_together law acc i s t hs ht).1 r ∙ sym (entry t ht));
  }
    where
      entry : (s : ℕ) → s < m.size → get_or (blocks_after m acc (suc i)) s 0 ≡ get_or (blocks_after m acc i) s 0
      entry s h = eqb→eq _ _ (all_elim m.size _ p s h)

  pub stable_unchanged : (i : ℕ) → Stable m acc i → T (unchanged m.size (blocks_after m acc (suc i)) (blocks_after m acc i))
  unfolding unchanged
  stable_unchanged i st =
      all_intro m.size _ (λ s h. yes_eqb (le_antisymm
      (entry_le (blocks_right law acc (suc i)) (blocks_right law acc i) st.kept s h)
      (entry_le (blocks_right law acc i) (blocks_right law acc (suc i)) (λ s t hs ht. together_before m acc i s t) s h)))

  module _ (r : StableRound m acc) where
    stable_at : (i : ℕ) → i ≤ r.round → Stable m acc i → i ≡ r.round
    stable_at i h st = ⊎_elim (λ e. e) (λ l. absurd (r.first i l st)) (eq-or-lt_of_le h)

    unstable_below : (i : ℕ) → i ≤ r.round → (Stable m acc i → ⊥) → i < r.round
    unstable_below i h f = ⊎_elim (λ (e : i ≡ r.round). absurd (f (subst (Stable m acc) (sym e) r.stable))) (λ l. l) (eq-or-lt_of_le h)

    -- from any round up to the first stable one, the rounds end there
    settle_from_lem : (k i : ℕ) → i ≤ r.round → r.round ≤ i + k → settle_from m k i (blocks_after m acc i) ≡ settled_at m acc r.round
    unfolding settle_from settled_at blocks_after
    settle_from_lem zero i h l =
        let e : i ≡ r.round = omega arith in
        ap (settled_at m acc) e
    settle_from_lem (suc k) i h l =
        settle_step (unchanged m.size (blocks_after m acc (suc i)) (blocks_after m acc i)) refl
        (λ o. settle_from_lem k (suc i) o (omega arith))
      where
        settle_step : (v : Bool) → unchanged m.size (blocks_after m acc (suc i)) (blocks_after m acc i) ≡ v
            → (suc i ≤ r.round → settle_from m k (suc i) (blocks_after m acc (suc i)) ≡ settled_at m acc r.round)
            → cond v (settled_at m acc i) (settle_from m k (suc i) (blocks_after m acc (suc i))) ≡ settled_at m acc r.round
        settle_step true e ih = ap (settled_at m acc) (stable_at i h (unchanged_stable i (true_T e)))
        settle_step false e ih = ih (unstable_below i h (λ st. subst T e (stable_unchanged i st)))

    -- the rounds end at the first stable one, with its blocks
    pub settle_right : settle m acc ≡ settled_at m acc r.round
    unfolding settle blocks_after
    settle_right = settle_from_lem m.size 0 (omega arith) (omega (arith, r.bound))
