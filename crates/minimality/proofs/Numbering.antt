-- Blocks numbered by a list of leaders, one from each block, in any order; and the blocks of a stable round numbered in the
-- order of their least elements. Assumes nothing.
use Prim.Native.Nat.{ℕ, ◌<◌}
use native.Mathlib.Omega.{arith}
use mathlib.Core.Path.{◌≡◌, sym, subst}
use mathlib.Core.List.{List}
use lib.Dec.{T}
use lib.ListN.{length, get_or}
use Rattle.finite.proofs.Tests.{decide, decide_intro, decide_elim}
use Rattle.finite.proofs.Numbers.{Compared, lesser, level, greater, compared_numbers}
use Rattle.finite.proofs.Search.{least_below, least_holds, least_bound}
use Rattle.theory.specs.Rules.{Morphism, Lawful, AllReached}
use Rattle.theory.specs.Rounds.{Together, Stable}
use Rattle.minimality.proofs.Rounds.{together_sym}
use Rattle.minimality.proofs.FirstStable.{leads, leads_elim, block_count, Leader, leader_of, leader_leads}
use Rattle.minimality.proofs.Congruence.{Congruence, stable_congruence}
use Rattle.minimality.proofs.Quotient.{Numbering}
use Rattle.minimality.proofs.Listed.{passing, Holds, Listed, listed, entries_distinct}

-- an entry of the list that is in one block with s
pub record Led (R : ℕ → ℕ → Type 0) (leaders : List ℕ) (s : ℕ) : Type 0 where
  pub index : ℕ
  pub inside : index < length leaders
  pub related : R (get_or leaders index 0) s

-- the list has exactly one element from each block
pub record Leaders (m : Morphism) (R : ℕ → ℕ → Type 0) (leaders : List ℕ) : Type 0 where
  pub inside : (j : ℕ) → j < length leaders → get_or leaders j 0 < m.size
  pub distinct : (i j : ℕ) → i < length leaders → j < length leaders → R (get_or leaders i 0) (get_or leaders j 0) → i ≡ j
  pub each : (s : ℕ) → s < m.size → Led R leaders s

-- the place of the leader of s's block
unfoldable pub block_number : {R : ℕ → ℕ → Type 0} → ((s t : ℕ) → Dec (R s t)) → List ℕ → ℕ → ℕ
block_number decided leaders s = least_below (length leaders) (λ j. decide (decided (get_or leaders j 0) s))

module _ {m : Morphism} {acc : ℕ → ℕ → ℕ} {R : ℕ → ℕ → Type 0} {leaders : List ℕ} (law : Lawful m) (c : Congruence m acc R) (l : Leaders m R leaders) where
  abbrev number : ℕ → ℕ
  number s = block_number c.decided leaders s

  pub number_inside : (s : ℕ) → s < m.size → number s < length leaders
  unfolding block_number
  number_inside s h =
      let e : Led R leaders s = l.each s h in
      omega (arith, e.inside, least_bound (length leaders) (λ j. decide (c.decided (get_or leaders j 0) s)) e.index e.inside (decide_intro _ e.related))

  pub number_related : (s : ℕ) → s < m.size → R (get_or leaders (number s) 0) s
  unfolding block_number
  number_related s h = decide_elim _ (least_holds (length leaders) (λ j. decide (c.decided (get_or leaders j 0) s)) (number_inside s h))

  -- the place of whatever leader is in one block with s
  pub number_is : (s j : ℕ) → s < m.size → j < length leaders → R (get_or leaders j 0) s → number s ≡ j
  number_is s j h hj r =
      l.distinct (number s) j (number_inside s h) hj (c.transitive _ s _ (number_related s h) (c.symmetric _ s r))

  pub number_same : (s t : ℕ) → s < m.size → t < m.size → R s t → number s ≡ number t
  number_same s t hs ht r =
      number_is s (number t) hs (number_inside t ht) (c.transitive _ t s (number_related t ht) (c.symmetric s t r))

  pub same_block : (s t : ℕ) → s < m.size → t < m.size → number s ≡ number t → R s t
  same_block s t hs ht e =
      c.transitive s _ t (c.symmetric _ s (number_related s hs))
      (subst (λ k. R (get_or leaders k 0) t) (sym e) (number_related t ht))

  -- any list with one element from each block of a congruence numbers the blocks
  unfoldable pub numbering_of_leaders : Numbering m acc (length leaders)
  numbering_of_leaders = record {
    number = number;
    leader = λ j. get_or leaders j 0;
    number_below = number_inside;
    leader_below = l.inside;
    number_leader = λ j h. number_is (get_or leaders j 0) j (l.inside j h) h (c.reflexive (get_or leaders j 0));
    congruent = λ s s' t t' hs hs' ht ht' p q.
        number_same _ _ (law.closed s t hs ht) (law.closed s' t' hs' ht')
        (c.products s s' t t' hs hs' ht ht' (same_block s s' hs hs' p) (same_block t t' ht ht' q));
    outcomes = λ s t hs ht e. c.outcomes s t (same_block s t hs ht e);
    apart = λ s t hs ht d. number_same s t hs ht (c.apart s t hs ht d);
  }

-- the least elements of the blocks after round i, in increasing order
unfoldable pub least_leaders : Morphism → (ℕ → ℕ → ℕ) → ℕ → List ℕ
least_leaders m acc i = passing m.size (leads m acc i)

module _ (m : Morphism) (acc : ℕ → ℕ → ℕ) (i : ℕ) where
  -- there are as many as blocks
  pub leaders_count : length (least_leaders m acc i) ≡ block_count m acc i
  unfolding least_leaders block_count
  leaders_count = (listed m.size (leads m acc i)).count

  -- two leaders in one block are one
  pub leaders_equal : (s t : ℕ) → T (leads m acc i s) → T (leads m acc i t) → Together m acc i s t → s ≡ t
  leaders_equal s t p q r = go (compared_numbers s t)
    where
      go : Compared s t → s ≡ t
      go (lesser o) = absurd (leads_elim m acc i t q s o r)
      go (level e) = e
      go (greater o) = absurd (leads_elim m acc i s p t o (together_sym m acc i s t r))

  pub least_leaders_lem : Leaders m (Together m acc i) (least_leaders m acc i)
  unfolding least_leaders
  least_leaders_lem = record {
    inside = g.below;
    distinct = λ j k hj hk r.
        entries_distinct g j k hj hk (leaders_equal _ _ (g.passes j hj) (g.passes k hk) r);
    each = λ s h. led s h (leader_of m acc i s);
  }
    where
      g : Listed m.size (leads m acc i) (passing m.size (leads m acc i))
      g = listed m.size (leads m acc i)

      led : (s : ℕ) → s < m.size → Leader m acc i s → Led (Together m acc i) (passing m.size (leads m acc i)) s
      led s h x =
          let a : Holds (passing m.size (leads m acc i)) x.at = g.each x.at (omega (arith, x.at_most)) (leader_leads m acc i s x) in
          record {
            index = a.index;
            inside = a.inside;
            related = subst (λ k. Together m acc i k s) (sym a.entry) x.together;
          }

-- the blocks of a stable round, numbered
unfoldable pub numbering_of_stable : {m : Morphism} {acc : ℕ → ℕ → ℕ} {i : ℕ} → Lawful m → AllReached m → Stable m acc i → Numbering m acc (length (least_leaders m acc i))
unfolding numbering_of_leaders
numbering_of_stable {m} {acc} {i} law reached st =
    numbering_of_leaders law (stable_congruence law acc i st reached) (least_leaders_lem m acc i)
