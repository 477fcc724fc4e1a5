-- The laws of the search of words in the lent bytes: how it starts, what its functions may ask at a pair (entry, letter), that
-- it goes on by the element found there, and what it leaves at the end. Assumes nothing.
use Prim.Native.Nat.{ℕ, ◌+◌, ◌≤◌, ◌<◌}
use mathlib.Core.Path.{◌≡◌, refl, ap, ◌∙◌}
use mathlib.Core.List.{List}
use native.Mathlib.Omega.{arith}
use native.Mathlib.Numerals.{add-one}
use Rattle.theory.specs.Rules.{element}
use Rattle.formats.proofs.Tables.{Table}
use Rattle.formats.specs.Table.{morphism_at}
use Rattle.scratch.proofs.Unchanged.{unchanged_none, unchanged_both}
use Rattle.rule_reach.specs.Reach.{entry_at, place_at, word_step, Empty, WordOrder}
use Rattle.rule_reach.specs.Steps.{step_at, StepNeeds, AddNeeds, Added, added_old, added_new}
use Rattle.rule_reach.specs.Searching.{Searching, Kept, Expanded}
use Rattle.rule_reach.proofs.Steps.{step_value, step_inside}
use Rattle.rule_reach.proofs.Order.{order_start, order_old, order_new, order_next, order_done}
use Rattle.rule_reach.proofs.Bytes.{place_entry, entry_place, some_left, stored_extends, stored_newest, stored_places, stored_inside, stored_kept}

module _ {bytes : List ℕ} {n k : ℕ} (table : Table bytes n k) where
  -- nothing is found
  search_start : {queue : List ℕ} → Empty queue → Searching bytes n k queue 0 0 0
  unfolding entry_at
  search_start e = record {
    room = e.room;
    few = omega arith;
    inside = λ i l. absurd (omega arith);
    places = record {
      of_entry = λ i l. absurd (omega arith);
      of_element = λ s h l. absurd (omega (arith, table.small, e.none_found s (omega (arith, table.small))));
    };
    order = order_start refl;
  }

  module _ {queue : List ℕ} {count p a : ℕ} (search : Searching bytes n k queue count p a) (hp : p ≤ count) (ha : a < k) where
    -- the letter may be tried at the entry
    step_place_lem : StepNeeds bytes n queue p a
    step_place_lem = record {
      small = table.small;
      long = omega (arith, table.long);
      image_inside = table.images a ha;
      entry_there = omega (arith, search.room, search.few, table.small);
      entry_inside = λ i e. search.inside i (omega arith);
    }

    module _ {s : ℕ} (found : s ≡ step_at bytes n queue p a) where
      step_below : s < n
      step_below = rw found (step_inside table step_place_lem ha)

      new_below : place_at queue s ≡ 0 → count < n
      new_below = some_left search.places search.inside step_below

      -- the element may be added
      add_place : AddNeeds queue count s p a
      add_place = record {
        room = search.room;
        element_small = omega (arith, step_below, table.small);
        from_small = omega (arith, search.few, table.small);
        letter_small = omega (arith, table.letters_small);
        count_small = λ e. omega (arith, new_below e, table.small);
      }

      is_step : element s ≡ word_step (morphism_at bytes n k) a (entry_at queue p)
      is_step = ap element found ∙ step_value bytes n k queue p a

      -- once it is added, the next letter is due
      search_add : {exit : List ℕ} {r : ℕ} → Added queue exit count s p a r → Searching bytes n k exit r p (a + 1)
      search_add (added_old h e f) = rw (e, f) (record {
        room = search.room;
        few = search.few;
        inside = search.inside;
        places = search.places;
        order = order_old search.order (rw is_step at (place_entry search.places step_below h));
      })
      search_add (added_new h t f) =
          let hc : count < 64 = omega (arith, new_below h, table.small) in
          let hs : s < 64 = omega (arith, step_below, table.small) in
          rw f (record {
            room = omega (arith, t.same_length, search.room);
            few = omega (arith, new_below h);
            inside = stored_inside t hc hs search.inside step_below;
            places = stored_places t hc hs h search.places;
            order = rw (add-one count) (order_new search.order (stored_extends t hc hs) (stored_newest t hc hs bytes n k found) (omega arith) ha (λ e. entry_place search.places h (rw (← is_step) at e)));
          })

      -- and nothing else changed
      add_kept : {exit : List ℕ} {r : ℕ} → Added queue exit count s p a r → Kept queue exit
      add_kept (added_old h e f) = rw e (unchanged_none 0 256 queue)
      add_kept (added_new h t f) = stored_kept t (omega (arith, new_below h, table.small)) (omega (arith, step_below, table.small))

      -- the entry is there still
      add_more : {exit : List ℕ} {r : ℕ} → Added queue exit count s p a r → p ≤ r
      add_more (added_old h e f) = omega arith
      add_more (added_new h t f) = omega arith

  -- every letter was tried at the entry
  search_next : {queue : List ℕ} {count p a : ℕ} → Searching bytes n k queue count p a → a ≡ k → Searching bytes n k queue count (p + 1) 0
  search_next {queue} {count} {p} s e = record {
    room = s.room;
    few = s.few;
    inside = s.inside;
    places = s.places;
    order = order_next (rw e at s.order);
  }

  -- every entry was tried
  search_done : {entry queue : List ℕ} {count p : ℕ} → Searching bytes n k queue count p 0 → Kept entry queue → count < p → WordOrder bytes n k entry queue count
  search_done s kept h = record {
    order = order_done s.order h;
    few = s.few;
    inside = s.inside;
    places = s.places;
    same_length = kept.same_length;
    kept = kept.after;
  }

-- the letters before `letter` were tried at entry `from`
pub record Expanding (bytes : List ℕ) (n k : ℕ) (entry : List ℕ) (from : ℕ) (queue : List ℕ) (found letter : ℕ) : Type 0 where
  pub table : Table bytes n k
  pub searching : Searching bytes n k queue found from letter
  pub there : from ≤ found
  pub up_to : letter ≤ k
  pub kept : Kept entry queue

-- the entries before `from` were tried
pub record Reaching (bytes : List ℕ) (n k : ℕ) (entry queue : List ℕ) (count from : ℕ) : Type 0 where
  pub table : Table bytes n k
  pub searching : Searching bytes n k queue count from 0
  pub kept : Kept entry queue

module _ {bytes : List ℕ} {n k : ℕ} {entry : List ℕ} where
  -- no letter was tried at the entry
  pub expanding_start : {count from : ℕ} → Table bytes n k → Searching bytes n k entry count from 0 → from ≤ count
      → Expanding bytes n k entry from entry count 0
  expanding_start t s h = record { table = t; searching = s; there = h; up_to = omega arith; kept = unchanged_none 0 256 entry }

  -- the next letter may be tried
  pub expanding_step : {from : ℕ} {queue : List ℕ} {found letter : ℕ} → Expanding bytes n k entry from queue found letter → letter < k
      → StepNeeds bytes n queue from letter
  expanding_step x h = step_place_lem x.table x.searching x.there h

  -- what it finds may be added
  pub expanding_add : {from : ℕ} {queue : List ℕ} {found letter s : ℕ} → Expanding bytes n k entry from queue found letter → letter < k
      → s ≡ step_at bytes n queue from letter → AddNeeds queue found s from letter
  expanding_add x h e = add_place x.table x.searching x.there h e

  -- it was added
  pub expanding_next : {from : ℕ} {queue exit : List ℕ} {found letter s r : ℕ} → Expanding bytes n k entry from queue found letter → letter < k
      → s ≡ step_at bytes n queue from letter → Added queue exit found s from letter r
      → Expanding bytes n k entry from exit r (letter + 1)
  expanding_next x h e d = record {
    table = x.table;
    searching = search_add x.table x.searching x.there h e d;
    there = add_more x.table x.searching x.there h e d;
    up_to = omega arith;
    kept = unchanged_both x.kept (add_kept x.table x.searching x.there h e d);
  }

  -- all letters were tried
  pub expanding_done : {from : ℕ} {queue : List ℕ} {found letter : ℕ} → Expanding bytes n k entry from queue found letter → k ≤ letter
      → Expanded bytes n k entry queue from found
  expanding_done x h = record { searching = search_next x.table x.searching (omega arith); kept = x.kept }

  -- no entry was tried
  pub reaching_start : Table bytes n k → Empty entry → Reaching bytes n k entry entry 0 0
  reaching_start t e = record { table = t; searching = search_start t e; kept = unchanged_none 0 256 entry }

  -- one entry more was tried
  pub reaching_next : {queue exit : List ℕ} {count from r : ℕ} → Reaching bytes n k entry queue count from → Expanded bytes n k queue exit from r
      → Reaching bytes n k entry exit r (from + 1)
  reaching_next x d = record { table = x.table; searching = d.searching; kept = unchanged_both x.kept d.kept }

  -- all entries were tried
  pub reaching_done : {queue : List ℕ} {count from : ℕ} → Reaching bytes n k entry queue count from → count < from
      → WordOrder bytes n k entry queue count
  reaching_done x h = search_done x.table x.searching x.kept h
