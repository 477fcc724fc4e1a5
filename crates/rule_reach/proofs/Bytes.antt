-- The bytes of the worklist: what four stores leave, how they extend the entries and the elements' numbers, and that there
-- is room while an element has no number. Assumes nothing.
use Prim.Native.Nat.{ℕ, zero, suc, ◌+◌, ◌≤◌, ◌<◌}
use mathlib.Core.Path.{◌≡◌, refl, sym, ap, ◌∙◌}
use mathlib.Core.Logic.{◌≢◌, ⊎_elim}
use mathlib.Core.List.{List}
use native.Mathlib.Omega.{arith}
use native.Mathlib.Numerals.{add-one}
use native.Mathlib.Decide.{ℕ_discrete}
use borrow.Author.Count.{below_more}
use lib.ListN.{length, get_or, set}
use Rattle.finite.proofs.Stores.{done, put, stores, Apart, here, later, stores_length, stores_other, stores_at}
use Rattle.finite.proofs.Pigeonhole.{injection_le, update, update_cases, update_apart}
use Rattle.finite.proofs.Worklist.{Entry}
use Rattle.theory.specs.Rules.{element}
use Rattle.theory.proofs.Values.{element_apart, element_same}
use Rattle.formats.specs.Table.{morphism_at}
use Rattle.rule_reach.specs.Reach.{entry_at, parent_at, letter_at, place_at, word_step, Places}
use Rattle.rule_reach.specs.Steps.{step_at, AddNeeds, Stored, Added, added_old, added_new}
use Rattle.rule_reach.specs.Searching.{Kept}
use Rattle.rule_reach.proofs.Steps.{step_value}
use Rattle.rule_reach.proofs.Order.{Extends, Newest}

-- the four stores of a new entry
stored : (queue : List ℕ) (count s from letter : ℕ) → 256 ≤ length queue → count < 64 → s < 64
    → Stored queue (set (set (set (set queue count s) (64 + count) from) (128 + count) letter) (192 + s) (count + 1)) count s from letter
unfolding stores Apart
stored queue count s from letter room hc hs =
    let all = put count s (put (64 + count) from (put (128 + count) letter (put (192 + s) (count + 1) done))) in
    record {
      the_element = stores_at all queue (here (omega arith, (omega arith, (omega arith, tt)))) (omega arith);
      the_parent = stores_at all queue (later (here (omega arith, (omega arith, tt)))) (omega arith);
      the_letter = stores_at all queue (later (later (here (omega arith, tt)))) (omega arith);
      the_place = stores_at all queue (later (later (later (here tt)))) (omega arith);
      other = λ i h₁ h₂ h₃ h₄. stores_other all queue i (h₁, (h₂, (h₃, (h₄, tt))));
      same_length = stores_length all queue;
    }

module _ {queue : List ℕ} {count s from letter : ℕ} where
  -- the element has a number, and nothing is stored
  pub add_found : 0 < get_or queue (192 + s) 0 → Added queue queue count s from letter count
  unfolding place_at
  add_found h = added_old h refl refl

  module _ (place : AddNeeds queue count s from letter) (none-there : get_or queue (192 + s) 0 ≤ 0) where
    -- the element has no number, so there is room for an entry
    pub add_small : count < 64
    unfolding place_at
    add_small = place.count_small (omega arith)

    -- and it gets one
    pub add_stored : Added queue (set (set (set (set queue count s) (64 + count) from) (128 + count) letter) (192 + s) (count + 1)) count s from letter (count + 1)
    unfolding place_at
    add_stored = added_new (omega arith) (stored queue count s from letter place.room add_small place.element_small) refl

module _ {queue : List ℕ} {n count : ℕ} (places : Places queue n count) where
  -- an element with a number has an entry
  pub place_entry : {s : ℕ} → s < n → 0 < place_at queue s → Entry (entry_at queue) (suc count) (element s)
  place_entry {s} h l = record { at = place_at queue s; below = omega (arith, (places.of_element s h l).0); same = (places.of_element s h l).1 }

  -- an element with no number has no entry
  pub entry_place : {s : ℕ} → place_at queue s ≡ 0 → Entry (entry_at queue) (suc count) (element s) → ⊥
  unfolding entry_at
  entry_place {s} e f = go f.at f.below f.same
    where
      go : (i : ℕ) → i < suc count → entry_at queue i ≡ element s → ⊥
      go zero h d = element_apart (sym d)
      go (suc i) h d =
          let g : get_or queue i 0 ≡ s = element_same d in
          omega (arith, places.of_entry i (omega arith), ap (place_at queue) g)

  -- the entries are elements below n, and one more is missing: there are fewer than n
  pub some_left : {s : ℕ} → ((i : ℕ) → i < count → get_or queue i 0 < n) → s < n → place_at queue s ≡ 0 → count < n
  some_left {s} inside h e = injection_le {f = update (λ i. get_or queue i 0) count s} (record {
    maps = λ i l. ⊎_elim (λ c. omega (arith, c.1)) (λ c. omega (arith, c.0, c.1, inside i (omega (arith, c.0)))) (update_cases (λ i. get_or queue i 0) count s i);
    apart = λ i j l r d.
        ⊎_elim (λ g. g) (λ c. same i j (omega (arith, c.0)) (omega (arith, c.1)) c.2)
        (update_apart (λ i. get_or queue i 0) count s i j (λ o. other i (omega arith)) (λ o. other j (omega arith)) d);
  })
    where
      same : (i j : ℕ) → i < count → j < count → get_or queue i 0 ≡ get_or queue j 0 → i ≡ j
      same i j l r d = omega (arith, places.of_entry i l, places.of_entry j r, ap (place_at queue) d)

      other : (i : ℕ) → i < count → get_or queue i 0 ≢ s
      other i l d = omega (arith, places.of_entry i l, ap (place_at queue) d)

module _ {entry exit : List ℕ} {count s from letter : ℕ} (t : Stored entry exit count s from letter) (hc : count < 64) (hs : s < 64) where
  stored_entry : (i : ℕ) → i < suc count → entry_at exit i ≡ entry_at entry i
  unfolding entry_at
  stored_entry zero l = refl
  stored_entry (suc i) l = ap element (t.other i (omega arith) (omega arith) (omega arith) (omega arith))

  stored_parent : (i : ℕ) → 0 < i → i < suc count → parent_at exit i ≡ parent_at entry i
  unfolding parent_at
  stored_parent zero h l = refl
  stored_parent (suc i) h l = t.other (64 + i) (omega arith) (omega arith) (omega arith) (omega arith)

  stored_letter : (i : ℕ) → 0 < i → i < suc count → letter_at exit i ≡ letter_at entry i
  unfolding letter_at
  stored_letter zero h l = refl
  stored_letter (suc i) h l = t.other (128 + i) (omega arith) (omega arith) (omega arith) (omega arith)

  -- the entries so far are as they were
  pub stored_extends : Extends (entry_at entry) (entry_at exit) (parent_at entry) (parent_at exit) (letter_at entry) (letter_at exit) (suc count)
  stored_extends = record { entries = stored_entry; parents = stored_parent; letters = stored_letter }

  -- the new entry is found by the pair that was stored
  pub stored_newest : (bytes : List ℕ) (n k : ℕ) → s ≡ step_at bytes n entry from letter
      → Newest (word_step (morphism_at bytes n k)) (entry_at entry) (entry_at exit) (parent_at exit) (letter_at exit) (suc count) from letter
  unfolding entry_at parent_at letter_at
  stored_newest bytes n k e = record {
    entry = ap element (t.the_element ∙ e) ∙ step_value bytes n k entry from letter;
    parent = t.the_parent;
    letter = t.the_letter;
  }

  -- another element's number is as it was
  stored_place : (x : ℕ) → x ≢ s → place_at exit x ≡ place_at entry x
  unfolding place_at
  stored_place x h = t.other (192 + x) (omega arith) (omega arith) (omega arith) (omega arith)

  -- the numbers name the entries again
  pub stored_places : {n : ℕ} → place_at entry s ≡ 0 → Places entry n count → Places exit n (count + 1)
  unfolding place_at entry_at
  stored_places {n} e places = record {
    of_entry = below_more (λ i. place_at exit (get_or exit i 0) ≡ i + 1) count old (rw t.the_element t.the_place);
    of_element = λ x h l. element_case x h l (ℕ_discrete x s);
  }
    where
      old : (i : ℕ) → i < count → place_at exit (get_or exit i 0) ≡ i + 1
      old i l = rw (t.other i (omega arith) (omega arith) (omega arith) (omega arith)) (rw (stored_place (get_or entry i 0) (λ d. omega (arith, places.of_entry i l, ap (place_at entry) d))) (places.of_entry i l))

      element_case : (x : ℕ) → x < n → 0 < place_at exit x → Dec (x ≡ s) → (place_at exit x ≤ count + 1) × (entry_at exit (place_at exit x) ≡ element x)
      element_case x h l (yes d) =
          let g : place_at exit x ≡ suc count = rw d (t.the_place ∙ add-one count) in
          (omega arith, rw g (ap element (t.the_element ∙ sym d)))
      element_case x h l (no d) =
          let g : place_at exit x ≡ place_at entry x = stored_place x d in
          let f : (place_at entry x ≤ count) × (entry_at entry (place_at entry x) ≡ element x) = places.of_element x h (omega arith) in
          (omega arith, rw g (stored_entry (place_at entry x) (omega arith) ∙ f.1))

  -- the elements found stay below n
  pub stored_inside : {n : ℕ} → ((i : ℕ) → i < count → get_or entry i 0 < n) → s < n → (i : ℕ) → i < count + 1 → get_or exit i 0 < n
  stored_inside {n} inside h =
      below_more (λ i. get_or exit i 0 < n) count
      (λ i l. rw (t.other i (omega arith) (omega arith) (omega arith) (omega arith)) (inside i l))
      (rw t.the_element h)

  -- nothing beyond the worklist changed
  pub stored_kept : Kept entry exit
  stored_kept = record {
    same_length = t.same_length;
    before = λ i h. absurd (omega arith);
    after = λ i h. t.other i (omega arith) (omega arith) (omega arith) (omega arith);
  }
