-- Some round before the size is stable: a round that is not makes more blocks, and there are no more blocks than
-- elements. A block is counted at its least element. Assumes nothing.
use Prim.Native.Nat.{ℕ, zero, suc, ◌≤◌, ◌<◌}
use native.Mathlib.Omega.{arith}
use mathlib.Core.Path.{sym, subst}
use mathlib.Core.Bool.{Bool, false}
use mathlib.Core.Logic.Dec
use mathlib.Core.Logic.{◌⊎◌, inl, inr, ⊎_elim, by_cases}
use lib.Dec.{T}
use Rattle.theory.specs.Rules.{Morphism}
use Rattle.finite.proofs.Tests.{decide, decide_intro, decide_elim}
use Rattle.finite.proofs.Numbers.{Compared, lesser, level, greater, compared_numbers}
use Rattle.finite.proofs.Search.{First, least_dec, dec_all, dec_any, count_below, count_le, count_strict}
use Rattle.theory.specs.Rounds.{Together, Stable}
use Rattle.minimality.proofs.Rounds.{together_refl, together_sym, together_trans, together_before, together_dec}

-- s is the least of its block after round i
unfoldable pub leads : Morphism → (ℕ → ℕ → ℕ) → ℕ → ℕ → Bool
leads m acc i s = decide (dec_all s (λ t h. Dec.not (together_dec m acc i t s)))

-- the number of blocks after round i
unfoldable pub block_count : Morphism → (ℕ → ℕ → ℕ) → ℕ → ℕ
block_count m acc i = count_below m.size (leads m acc i)

-- the least element that stands together with s after round i
pub record Leader (m : Morphism) (acc : ℕ → ℕ → ℕ) (i s : ℕ) : Type 0 where
  pub at : ℕ
  pub at_most : at ≤ s
  pub together : Together m acc i at s
  pub least : (t : ℕ) → t < at → Together m acc i t s → ⊥

-- two elements that the round after i parts
pub record Split (m : Morphism) (acc : ℕ → ℕ → ℕ) (i : ℕ) : Type 0 where
  pub s : ℕ
  pub t : ℕ
  pub s_inside : s < m.size
  pub t_inside : t < m.size
  pub together : Together m acc i s t
  pub apart : Together m acc (suc i) s t → ⊥

-- the first round after which the next changes nothing
pub record StableRound (m : Morphism) (acc : ℕ → ℕ → ℕ) : Type 0 where
  pub round : ℕ
  pub bound : round < m.size
  pub stable : Stable m acc round
  pub first : (i : ℕ) → i < round → Stable m acc i → ⊥

module _ (m : Morphism) (acc : ℕ → ℕ → ℕ) where
  pub leads_intro : (i s : ℕ) → ((t : ℕ) → t < s → Together m acc i t s → ⊥) → T (leads m acc i s)
  unfolding leads
  leads_intro i s h = decide_intro _ h

  pub leads_elim : (i s : ℕ) → T (leads m acc i s) → (t : ℕ) → t < s → Together m acc i t s → ⊥
  unfolding leads
  leads_elim i s h = decide_elim _ h

  leads_later : (i s : ℕ) → T (leads m acc i s) → T (leads m acc (suc i) s)
  leads_later i s h = leads_intro (suc i) s (λ t l r. leads_elim i s h t l (together_before m acc i t s r))

  pub leader_of : (i s : ℕ) → Leader m acc i s
  leader_of i s =
      ⊎_elim found (λ none. absurd (none s (omega arith) (together_refl m acc i s)))
      (least_dec (suc s) (λ t h. together_dec m acc i t s))
    where
      found : First (suc s) (λ t. Together m acc i t s) → Leader m acc i s
      found f = record { at = f.at; at_most = omega arith; together = f.holds; least = f.first }

  pub leader_leads : (i s : ℕ) (l : Leader m acc i s) → T (leads m acc i l.at)
  leader_leads i s l = leads_intro i l.at (λ t h r. l.least t h (together_trans m acc i t l.at s r l.together))

  -- a leader that the round makes
  new_leader : (i a b : ℕ) → a < b → b < m.size → Together m acc i a b → T (leads m acc (suc i) b) → block_count m acc i < block_count m acc (suc i)
  unfolding block_count
  new_leader i a b l h r new =
      count_strict m.size (leads m acc i) (leads m acc (suc i)) (λ s hs. leads_later i s) b h new
      (λ old. leads_elim i b old a l r)

  -- a round that parts two elements makes more blocks
  pub split_grows : (i : ℕ) → Split m acc i → block_count m acc i < block_count m acc (suc i)
  split_grows i p = go (leader_of (suc i) p.s) (leader_of (suc i) p.t)
    where
      go : Leader m acc (suc i) p.s → Leader m acc (suc i) p.t → block_count m acc i < block_count m acc (suc i)
      go x y = cases (compared_numbers x.at y.at)
        where
          related : Together m acc i x.at y.at
          related =
              together_trans m acc i _ _ _ (together_before m acc i _ _ x.together)
              (together_trans m acc i _ _ _ p.together
              (together_sym m acc i _ _ (together_before m acc i _ _ y.together)))

          cases : Compared x.at y.at → block_count m acc i < block_count m acc (suc i)
          cases (lesser l) =
              new_leader i x.at y.at l (omega (arith, y.at_most, p.t_inside)) related (leader_leads (suc i) p.t y)
          cases (level e) =
              absurd (p.apart (together_trans m acc (suc i) _ _ _
              (together_sym m acc (suc i) _ _ x.together)
              (subst (λ k. Together m acc (suc i) k p.t) (sym e) y.together)))
          cases (greater l) =
              new_leader i y.at x.at l (omega (arith, x.at_most, p.s_inside)) (together_sym m acc i _ _ related)
              (leader_leads (suc i) p.s x)

  -- a round is stable, or the next one parts two elements
  pub stable_or_split : (i : ℕ) → Stable m acc i ⊎ Split m acc i
  stable_or_split i =
      by_cases
      (dec_any m.size (λ s hs. dec_any m.size
      (λ t ht. Dec.and (together_dec m acc i s t) (Dec.not (together_dec m acc (suc i) s t)))))
      (λ f. inr (record {
        s = f.0;
        s_inside = f.1;
        t = f.2.0;
        t_inside = f.2.1;
        together = f.2.2.0;
        apart = f.2.2.1;
      }))
      (λ none. inl (record {
        kept = λ s t hs ht r.
            by_cases (together_dec m acc (suc i) s t) (λ k. k) (λ k. absurd (none (s, hs, (t, ht, (r, k)))));
      }))

  pub split_unstable : (i : ℕ) → Split m acc i → Stable m acc i → ⊥
  split_unstable i p st = p.apart (st.kept p.s p.t p.s_inside p.t_inside p.together)

  pub stable_dec : (i : ℕ) → Dec (Stable m acc i)
  stable_dec i = ⊎_elim (λ st. yes st) (λ p. no (split_unstable i p)) (stable_or_split i)

  -- where no round before k is stable, there are more than k blocks after round k
  pub blocks_many : (k : ℕ) → 0 < m.size → ((i : ℕ) → i < k → Stable m acc i → ⊥) → k < block_count m acc k
  unfolding block_count
  blocks_many zero h none =
      omega (
        arith,
        count_strict m.size (λ s. false) (leads m acc 0) (λ s l f. absurd f) 0 h
            (leads_intro 0 0 (λ t l r. omega arith)) (λ f. f),
      )
  blocks_many (suc k) h none =
      let rest : k < block_count m acc k = blocks_many k h (λ i l. none i (omega arith)) in
      ⊎_elim (λ st. absurd (none k (omega arith) st)) (λ p. omega (arith, split_grows k p)) (stable_or_split k)

  pub blocks_at_most : (i : ℕ) → block_count m acc i ≤ m.size
  unfolding block_count
  blocks_at_most i = count_le m.size (leads m acc i)

  -- the first stable round stands before the size
  pub stable_round : 0 < m.size → StableRound m acc
  stable_round h =
      ⊎_elim found (λ none. absurd (omega (arith, blocks_many m.size h none, blocks_at_most m.size)))
      (least_dec m.size (λ i l. stable_dec i))
    where
      found : First m.size (Stable m acc) → StableRound m acc
      found f = record { round = f.at; bound = f.below; stable = f.holds; first = f.first }

  -- there are more blocks at the end than rounds that changed something
  pub rounds_below_blocks : (r : StableRound m acc) → r.round < block_count m acc r.round
  rounds_below_blocks r = blocks_many r.round (omega (arith, r.bound)) r.first
