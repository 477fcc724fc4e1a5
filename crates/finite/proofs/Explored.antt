-- What the search in breadth of Explore computes: where the reached states have different codes below N and the fuel is at
-- least N, the states that it lists are a closed worklist, so they are exactly the reached states. Assumes nothing.
use mathlib.Core.Path.{sym, subst}
use mathlib.Core.Bool.{Bool}
use mathlib.Core.Logic.{◌↔◌}
use mathlib.Core.List.Memᴰ
use mathlib.Core.List.{List, [], ◌∷◌, Memᴰ}
use Prim.Native.Nat.{ℕ, ◌≤◌, ◌<◌}
use native.Mathlib.Omega.{arith}
use lib.ListN.{length, get_or}
use Rattle.finite.proofs.Places.{At, Among, at_below, at_mem, at_cast, at_get_d, get_d_at, mem_among, extends_length, extends_among}
use Rattle.finite.proofs.Worklist.{Reachable, Origin, start, parent, Worklist, Entry, Closed, Coding, worklist_le, entry_reached, reached_entry}
use Rattle.finite.proofs.FirstWords.{sooner_parent}
use Rattle.finite.proofs.Explore.{Equality, add, walk, explore, known_start, Source, source_start, source_step, Grown, grown_none, Added, explore_added, Walked, explore_walked}

-- y is next to x by the letter a, one of k letters
pub record NextIn {A : Type 0} (next : ℕ → A → List A) (k a : ℕ) (x y : A) : Type 0 where
  pub letter : a < k
  pub member : Memᴰ y (next a x)

-- the list is grown, holds the starts, and holds what is next to its entries
pub record Explored {A : Type 0} (starts : List A) (next : ℕ → A → List A) (k : ℕ) (l : List A) : Type 0 where
  pub grown : Grown starts next k l
  pub begins : (x : A) → Memᴰ x starts → Among x l (length l)
  pub goes_on : (p a : ℕ) (x y : A) → At x l p → a < k → Memᴰ y (next a x) → Among y l (length l)

pub among_entry : {A : Type 0} {l : List A} {j : ℕ} {x : A} (d : A) → Among x l j → Entry (λ n. get_or l n d) j x
among_entry d p = record { at = p.at; below = p.below; same = at_get_d d p.stands }

entry_member : {A : Type 0} (l : List A) {x : A} (d : A) → Entry (λ n. get_or l n d) (length l) x → Memᴰ x l
entry_member l d e = Memᴰ.cast (sym e.same) (at_mem (get_d_at l e.at d e.below))

module _ {A : Type 0} {starts : List A} {next : ℕ → A → List A} {k : ℕ} where
  -- a grown list read by places is a worklist
  pub grown_worklist : {l : List A} (d : A) → Grown starts next k l → Worklist (λ x. Memᴰ x starts) (NextIn next k) (λ n. get_or l n d) (length l)
  grown_worklist {l} d g = record {
    distinct = λ i j h m e. g.distinct i j (get_or l j d) h (at_cast (sym e) (get_d_at l i d (omega arith))) (get_d_at l j d m);
    origin = λ i h. go i (g.source i (get_or l i d) (get_d_at l i d h));
  }
    where
      go : (i : ℕ) → Source starts next k l i (get_or l i d) → Origin (λ x. Memᴰ x starts) (NextIn next k) (λ n. get_or l n d) i
      go i (source_start m) = start m
      go i (source_step p a x h q r m n) =
          parent p a h (record { letter = r; member = subst (λ (v : A). Memᴰ (get_or l i d) (next a v)) (sym (at_get_d d q)) m })

  pub explored_closed : {l : List A} (d : A) → Explored starts next k l → Closed (λ x. Memᴰ x starts) (NextIn next k) (λ n. get_or l n d) (length l)
  explored_closed {l} d e = record {
    starts = λ x m. among_entry d (e.begins x m);
    steps = λ i a y h s. among_entry d (e.goes_on i a (get_or l i d) y (get_d_at l i d h) s.letter s.member);
  }

  -- a grown list is no longer than there are codes
  grown_le : {code : A → ℕ} {N : ℕ} → Coding (λ x. Memᴰ x starts) (NextIn next k) code N → (l : List A) → Grown starts next k l → length l ≤ N
  grown_le c [] g = omega arith
  grown_le c (x ∷ l) g = worklist_le c (grown_worklist x g)

module _ {A : Type 0} {same : A → A → Bool} (eq : Equality same) {starts : List A} {next : ℕ → A → List A} {k : ℕ} {code : A → ℕ} {N : ℕ} (c : Coding (λ x. Memᴰ x starts) (NextIn next k) code N) (fuel : ℕ) (enough : N ≤ fuel) where
  -- the search ends with all that it can find
  pub explored : Explored starts next k (explore same starts next k fuel)
  unfolding explore
  explored = go (explore_added eq starts next k starts [] grown_none (λ l' e y m. source_start m))
    where
      begun : Added starts next k [] starts (add same [] starts) → Walked starts next k (add same [] starts) (walk same next k fuel 0 (add same [] starts))
      begun r =
          explore_walked eq starts next k N (grown_le c) fuel 0 (add same [] starts) (omega arith) r.grown known_start

      go : Added starts next k [] starts (add same [] starts) → Explored starts next k (walk same next k fuel 0 (add same [] starts))
      go r =
          let w : Walked starts next k (add same [] starts) (walk same next k fuel 0 (add same [] starts)) = begun r in
          record {
            grown = w.grown;
            begins = λ x m. extends_among w.extends (extends_length w.extends) (r.holds x m);
            goes_on = λ p a x y q h m. w.known.known p a x y (sooner_parent (at_below q)) h q m;
          }

  pub explore_worklist : (d : A) → Worklist (λ x. Memᴰ x starts) (NextIn next k) (λ n. get_or (explore same starts next k fuel) n d) (length (explore same starts next k fuel))
  explore_worklist d = grown_worklist d explored.grown

  pub explore_closed : (d : A) → Closed (λ x. Memᴰ x starts) (NextIn next k) (λ n. get_or (explore same starts next k fuel) n d) (length (explore same starts next k fuel))
  explore_closed d = explored_closed d explored

  -- the entries are exactly the reached states
  pub entry_iff_reached : (d x : A) → Entry (λ n. get_or (explore same starts next k fuel) n d) (length (explore same starts next k fuel)) x ↔ Reachable (λ x. Memᴰ x starts) (NextIn next k) x
  entry_iff_reached d x = (λ e. subst (Reachable (λ x. Memᴰ x starts) (NextIn next k)) e.same (entry_reached (explore_worklist d) e.at e.below), λ r. reached_entry (explore_closed d) r.reached)

  pub member_iff_reached : (x : A) → Memᴰ x (explore same starts next k fuel) ↔ Reachable (λ x. Memᴰ x starts) (NextIn next k) x
  member_iff_reached x =
      (λ m. (entry_iff_reached x x).0 (among_entry x (mem_among m)), λ r. entry_member (explore same starts next k fuel) x ((entry_iff_reached x x).1 r))
