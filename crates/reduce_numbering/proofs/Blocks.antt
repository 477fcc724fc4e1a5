-- The numbers given out by the worklist of words number the blocks of a stable round, in the order of the blocks' first words.
-- Assumes nothing.
use Prim.Native.Nat.{ℕ, suc, ◌+◌, ◌-◌, ◌≤◌, ◌<◌}
use mathlib.Core.Path.{◌≡◌, refl, sym, ap, ◌∙◌}
use mathlib.Core.Logic.{inr}
use mathlib.Core.List.{List}
use native.Mathlib.Omega.{arith}
use lib.ListN.{get_or, replicate, length-replicate, get_or-replicate}
use Rattle.scratch.specs.Map.{blocks_base}
use Rattle.finite.proofs.Numbers.{Compared, lesser, level, greater, compared_numbers}
use Rattle.finite.specs.Shortlex.{NotAfter}
use Rattle.finite.proofs.Shortlex.{before_not_after}
use Rattle.theory.specs.Rules.{Morphism, Lawful, AllReached, element}
use Rattle.formats.proofs.Tables.{Table}
use Rattle.formats.specs.Table.{morphism_at}
use Rattle.rule_reach.specs.Reach.{place_at, entry_at, Empty, WordOrder}
use Rattle.rule_reach.proofs.Words.{word_at, FoundWord, found_word, entries_increase, reached_found}
use Rattle.theory.specs.Rounds.{Together, Stable}
use Rattle.minimality.proofs.Rounds.{together_sym, together_trans}
use Rattle.minimality.proofs.Congruence.{Congruence, stable_congruence}
use Rattle.reduce_first_round.specs.Map.{BlocksAt}
use Rattle.reduce_first_round.proofs.BlockBytes.{bytes_related, related_bytes}
use Rattle.reduce_numbering.specs.Steps.{block_at, number_at, leader_at, Numbered}
use Rattle.reduce_numbering.specs.Numbering.{NumberedAs, WordsInOrder, BlocksNumbered}

-- the element of an entry
entry_element : (queue : List ℕ) (i s : ℕ) → entry_at queue (suc i) ≡ element s → get_or queue i 0 ≡ s
unfolding entry_at
entry_element queue i s e = cc

-- a worklist of zeros has no entry
pub blank_queue : Empty (replicate 256 0)
unfolding place_at
blank_queue = record { room = omega (arith, length-replicate {A = ℕ} 256 0); none_found = λ s h. get_or-replicate 256 (192 + s) 0 0 (omega arith) }

module _ {bytes : List ℕ} {n k : ℕ} (table : Table bytes n k) (law : Lawful (morphism_at bytes n k)) (reached : AllReached (morphism_at bytes n k))
    {start queue : List ℕ} {count : ℕ} (order : WordOrder bytes n k start queue count)
    {c : ℕ} {entry exit : List ℕ} (w : Numbered queue n count c entry exit) where
  abbrev m : Morphism
  m = morphism_at bytes n k

  -- each element has its entry
  found : (s : ℕ) → s < n → 0 < place_at queue s
  found s h = reached_found order law (reached.word_of s h)

  -- the index of the entry of s
  abbrev index : ℕ → ℕ
  index s = place_at queue s - 1

  index_below : (s : ℕ) → s < n → index s < count
  index_below s h = omega (arith, found s h, (order.places.of_element s h (found s h)).0)

  entry_is : (s : ℕ) → s < n → get_or queue (index s) 0 ≡ s
  entry_is s h =
      let q : suc (index s) ≡ place_at queue s = omega (arith, found s h) in
      entry_element queue (index s) s (ap (entry_at queue) q ∙ (order.places.of_element s h (found s h)).1)

  -- each element has the number of its block, whose leader has no later word
  number_inside : (s : ℕ) → s < n → number_at exit s < c
  number_inside s h = rw (entry_is s h) at (w.number_below (index s) (index_below s h))

  block_number_lem : (s : ℕ) → s < n → block_at entry (leader_at exit (number_at exit s)) ≡ block_at entry s
  block_number_lem s h = rw (entry_is s h) at (w.number_block (index s) (index_below s h))

  leader_first : (s : ℕ) → s < n → place_at queue (leader_at exit (number_at exit s)) ≤ place_at queue s
  leader_first s h =
      let p : place_at queue (leader_at exit (number_at exit s)) ≤ index s + 1 = rw (entry_is s h) at (w.number_first (index s) (index_below s h)) in
      omega (arith, found s h)

  -- leaders of one block are one
  leaders_apart : (i j : ℕ) → i < c → j < c → block_at entry (leader_at exit i) ≡ block_at entry (leader_at exit j) → i ≡ j
  leaders_apart i j hi hj e = go (compared_numbers i j)
    where
      go : Compared i j → i ≡ j
      go (lesser h) = absurd (w.apart i j h hj e)
      go (level q) = q
      go (greater h) = absurd (w.apart j i h hi (sym e))

  -- numbers are equal exactly in one block
  number_same : (s t : ℕ) → s < n → t < n → block_at entry s ≡ block_at entry t → number_at exit s ≡ number_at exit t
  number_same s t hs ht e =
      leaders_apart (number_at exit s) (number_at exit t) (number_inside s hs) (number_inside t ht)
      (block_number_lem s hs ∙ e ∙ sym (block_number_lem t ht))

  same_block : (s t : ℕ) → s < n → t < n → number_at exit s ≡ number_at exit t → block_at entry s ≡ block_at entry t
  same_block s t hs ht e =
      sym (block_number_lem s hs) ∙ ap (λ (j : ℕ). block_at entry (leader_at exit j)) e ∙ block_number_lem t ht

  -- the blocks of a stable round
  module _ (acc : ℕ → ℕ → ℕ) (i : ℕ) (b : BlocksAt n (Together m acc i) entry blocks_base) (st : Stable m acc i) where
    stands : Congruence m acc (Together m acc i)
    stands = stable_congruence law acc i st reached

    together : (s t : ℕ) → s < n → t < n → number_at exit s ≡ number_at exit t → Together m acc i s t
    together s t hs ht e = bytes_related b (together_sym m acc i) (together_trans m acc i) s t hs ht (same_block s t hs ht e)

    together_number : (s t : ℕ) → s < n → t < n → Together m acc i s t → number_at exit s ≡ number_at exit t
    together_number s t hs ht r = number_same s t hs ht (related_bytes b (together_sym m acc i) (together_trans m acc i) s t hs ht r)

    pub numbered_as : NumberedAs m acc c exit
    numbered_as = record {
      numbering = record {
        number = λ s. number_at exit s;
        leader = λ j. leader_at exit j;
        number_below = number_inside;
        leader_below = w.leader_inside;
        number_leader = w.leader_number;
        congruent = λ s s' t t' hs hs' ht ht' p q.
            together_number _ _ (law.closed s t hs ht) (law.closed s' t' hs' ht')
            (stands.products s s' t t' hs hs' ht ht' (together s s' hs hs' p) (together t t' ht ht' q));
        outcomes = λ s t hs ht e. stands.outcomes s t (together s t hs ht e);
        apart = λ s t hs ht d. together_number s t hs ht (stands.apart s t hs ht d);
      };
      numbers = λ s. refl;
      leaders = λ j. refl;
    }

  -- the word of the leader of block j
  abbrev leader_word : ℕ → List ℕ
  leader_word j = word_at queue (place_at queue (leader_at exit j))

  leader_word_lem : (j : ℕ) → j < c → FoundWord m (leader_at exit j) (leader_word j)
  leader_word_lem j h = found_word order law (w.leader_inside j h) (found (leader_at exit j) (w.leader_inside j h))

  -- an entry that stands no later has no later word
  earlier : (i j : ℕ) (v : List ℕ) → i ≤ j → j ≤ count → NotAfter (word_at queue j) v → NotAfter (word_at queue i) v
  earlier i j v h l a = go (compared_numbers i j)
    where
      go : Compared i j → NotAfter (word_at queue i) v
      go (lesser o) = inr (before_not_after (entries_increase order i j o l) a)
      go (level q) = rw q a
      go (greater o) = absurd (omega arith)

  leader_least : (j : ℕ) → j < c → (v : List ℕ) (t : ℕ) → t < n → number_at exit t ≡ j → NotAfter (word_at queue (place_at queue t)) v → NotAfter (leader_word j) v
  leader_least j h v t ht e a =
      earlier (place_at queue (leader_at exit j)) (place_at queue t) v (rw e at (leader_first t ht)) (order.places.of_element t ht (found t ht)).0 a

  pub in_order : WordsInOrder m c exit
  in_order = record {
    word = leader_word;
    first = λ j h. record {
      over = (leader_word_lem j h).over;
      its_value = (leader_word_lem j h).its_value;
      its_number = w.leader_number j h;
      least = λ v t o ht d e. leader_least j h v t ht e ((found_word order law ht (found t ht)).least v o d);
    };
    increasing = λ j l g h.
        entries_increase order _ _ (w.increasing j l g h)
        (order.places.of_element (leader_at exit l) (w.leader_inside l h) (found (leader_at exit l) (w.leader_inside l h))).0;
  }

  -- there is an entry
  some_entry : 0 < count
  some_entry = omega (arith, index_below 0 table.some)

  pub blocks_numbered : BlocksNumbered m c entry exit
  blocks_numbered = record {
    some = w.some some_entry;
    few = omega (arith, w.few, order.few);
    numbered = numbered_as;
    in_order = in_order;
    kept = w.kept;
  }
