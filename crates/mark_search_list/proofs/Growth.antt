-- The worklist while states are added to it. Assumes nothing.
use Prim.Native.Nat.{ℕ, ◌+◌, ◌*◌, ◌/◌, ◌%◌, ◌≤◌, ◌<◌}
use mathlib.Core.Path.{◌≡◌, refl, sym, ap, ◌∙◌}
use mathlib.Core.Logic.{◌⊎◌, inl, inr, ◌≢◌, ⊎_elim}
use mathlib.Core.List.{List}
use native.Mathlib.Omega.{arith}
use native.Mathlib.Nat.{le_refl, le_trans}
use native.Mathlib.Decide.{ℕ_discrete}
use borrow.Author.Count.{below_more}
use lib.Arith.{digits_lt, digits_div, digits_mod}
use lib.ListN.{get_or, set, length-set}
use lib.Seq.{get_or-set_same, get_or-set_other}
use Rattle.finite.proofs.Pigeonhole.{injection_le, update, update_cases, update_apart}
use Rattle.finite.proofs.Numbers.{below_cases, Compared, lesser, level, greater, compared_numbers}
use Rattle.finite.proofs.Worklist.{Entry}
use Rattle.scratch.specs.Map.{first_preimages_base, tables_end}
use Rattle.scratch.proofs.Unchanged.{unchanged_none, unchanged_both}
use Rattle.mark_search_list.specs.Queue.{front_at, back_at, letter_at, parent_at, state_code, code_at, seen_at, Queue, HasState, Kept, SameEntry, Grown}
use Rattle.mark_search_list.specs.Steps.{StoreNeeds, Stored, AddNeeds, Added}

pub same_refl : (scratch : List ℕ) (i : ℕ) → SameEntry scratch scratch i
same_refl scratch i = record { front = refl; back = refl; letter = refl; parent = refl }

pub same_trans : {a b c : List ℕ} {i : ℕ} → SameEntry a b i → SameEntry b c i → SameEntry a c i
same_trans p q = record {
  front = q.front ∙ p.front;
  back = q.back ∙ p.back;
  letter = q.letter ∙ p.letter;
  parent = q.parent ∙ p.parent;
}

pub grown_refl : {n s : ℕ} {scratch : List ℕ} {count : ℕ} → Queue n s scratch count → Grown n s scratch count scratch count
grown_refl {scratch = scratch} {count = count} q = record { queue = q; more = le_refl count; same = λ i h. same_refl scratch i; kept = unchanged_none tables_end first_preimages_base scratch }

pub grown_trans : {n s : ℕ} {a b c : List ℕ} {i j k : ℕ} → Grown n s a i b j → Grown n s b j c k → Grown n s a i c k
grown_trans p q = record {
  queue = q.queue;
  more = le_trans p.more q.more;
  same = λ i h. same_trans (p.same i h) (q.same i (omega (arith, p.more)));
  kept = unchanged_both p.kept q.kept;
}

-- an entry stays one
pub state_grown : {n s : ℕ} {entry exit : List ℕ} {count total x y : ℕ} → Grown n s entry count exit total → HasState entry count x y → HasState exit total x y
state_grown g h = record {
  at = h.at;
  below = omega (arith, h.below, g.more);
  front = (g.same h.at h.below).front ∙ h.front;
  back = (g.same h.at h.below).back ∙ h.back;
}

-- the number of a state tells it
pub code_below : {x y : ℕ} → x ≤ 64 → y ≤ 64 → state_code x y < 4225
unfolding state_code
code_below h l = omega arith

pub code_apart : {x y x' y' : ℕ} → y ≤ 64 → y' ≤ 64 → state_code x y ≡ state_code x' y' → (x ≡ x') × (y ≡ y')
unfolding state_code
code_apart h l e = (omega arith, omega arith)

module _ {n s : ℕ} {scratch : List ℕ} {count : ℕ} (q : Queue n s scratch count) where
  pub entry_code : (i : ℕ) → i < count → code_at scratch i < 4225
  unfolding code_at
  entry_code i h = code_below (omega (arith, q.small, q.front_inside i h)) (omega (arith, q.small, q.back_inside i h))

  -- entries with one number are one
  same_entries : (i j : ℕ) → i < count → j < count → code_at scratch i ≡ code_at scratch j → Compared i j → i ≡ j
  same_entries i j l r d (lesser b) = absurd (q.apart i j b r d)
  same_entries i j l r d (level b) = b
  same_entries i j l r d (greater b) = absurd (q.apart j i b l (sym d))

  -- a state whose byte says that it was found is an entry
  pub seen_state : {x y : ℕ} → x ≤ n → y ≤ n → seen_at scratch (state_code x y) ≡ s + 1 → HasState scratch count x y
  unfolding code_at
  seen_state {x} {y} hx hy e =
      let f = q.found (state_code x y) (code_below (omega (arith, q.small)) (omega (arith, q.small))) e in
      let c = code_apart (omega (arith, q.small, q.back_inside f.at f.below)) (omega (arith, q.small)) f.same in
      record { at = f.at; below = f.below; front = c.0; back = c.1 }

  -- there are no more entries than states
  pub queue_few : count ≤ 4225
  queue_few = injection_le {f = code_at scratch} (record { maps = entry_code; apart = λ i j l r d. same_entries i j l r d (compared_numbers i j) })

  -- nor than there are pairs of values of n elements
  pub queue_bound : count ≤ (n + 1) * (n + 1)
  unfolding code_at
  queue_bound = injection_le {f = λ i. front_at scratch i * (n + 1) + back_at scratch i} (record {
    maps = λ i h. digits_lt (let f = q.front_inside i h in omega arith) (inside i h);
    apart = λ i j l r d. same_entries i j l r (same i j l r d) (compared_numbers i j);
  })
    where
      inside : (i : ℕ) → i < count → back_at scratch i < n + 1
      inside i h = let b = q.back_inside i h in omega arith

      same : (i j : ℕ) → i < count → j < count → front_at scratch i * (n + 1) + back_at scratch i ≡ front_at scratch j * (n + 1) + back_at scratch j
          → code_at scratch i ≡ code_at scratch j
      same i j l r d =
          let f : front_at scratch i ≡ front_at scratch j = sym (digits_div (front_at scratch i) (inside i l)) ∙ ap (λ (x : ℕ). x / (n + 1)) d ∙ digits_div (front_at scratch j) (inside j r) in
          let b : back_at scratch i ≡ back_at scratch j = sym (digits_mod (front_at scratch i) (inside i l)) ∙ ap (λ (x : ℕ). x % (n + 1)) d ∙ digits_mod (front_at scratch j) (inside j r) in
          rw (f, b)

  -- while a state is not an entry there is room
  pub some_left : {c : ℕ} → c < 4225 → (seen_at scratch c ≡ s + 1 → ⊥) → count < 4225
  some_left {c} h f = injection_le {f = update (code_at scratch) count c} (record {
    maps = λ i l. ⊎_elim (λ d. omega (arith, d.1)) (λ d. omega (arith, d.0, d.1, entry_code i (omega (arith, d.0)))) (update_cases (code_at scratch) count c i);
    apart = λ i j l r d.
        ⊎_elim (λ g. g) (λ g. same_entries i j (omega (arith, g.0)) (omega (arith, g.1)) g.2 (compared_numbers i j))
        (update_apart (code_at scratch) count c i j (λ o. other i (omega arith)) (λ o. other j (omega arith)) d);
  })
    where
      other : (i : ℕ) → i < count → code_at scratch i ≢ c
      other i l d = f (ap (seen_at scratch) (sym d) ∙ q.seen i l)

module _ {n s : ℕ} {entry : List ℕ} {count x y from letter : ℕ} (place : AddNeeds n s entry count x y from letter) where
  small_front : x ≤ 64
  small_front = omega (arith, place.queue.small, place.front_inside)

  small_back : y ≤ 64
  small_back = omega (arith, place.queue.small, place.back_inside)

  -- the state is there
  pub added_old : seen_at entry (state_code x y) ≡ s + 1 → Added n s entry count x y from letter entry count
  added_old e = record {
    grown = grown_refl place.queue;
    holds = seen_state place.queue place.front_inside place.back_inside e;
    only = record {
      the_front = λ j h l. omega arith;
      the_back = λ j h l. omega arith;
      the_parent = λ j h l. omega arith;
      the_letter = λ j h l. omega arith;
    };
  }

  module _ (new : seen_at entry (state_code x y) ≡ s + 1 → ⊥) where
    pub room_left : count < 4225
    room_left = some_left place.queue (code_below small_front small_back) new

    -- the byte of the state is set first, then the entry is written
    module _ {exit : List ℕ} (t : Stored (set entry (49152 + state_code x y) (s + 1)) exit count x y from letter) where
      abbrev mid : List ℕ
      mid = set entry (49152 + state_code x y) (s + 1)

      mid_other : (i : ℕ) → i ≢ 49152 + state_code x y → get_or mid i 0 ≡ get_or entry i 0
      mid_other i h = get_or-set_other entry (49152 + state_code x y) i (s + 1) 0 h

      pub mid_same : (i : ℕ) → i < 4225 → SameEntry entry mid i
      unfolding front_at back_at letter_at parent_at
      mid_same i h = record {
        front = mid_other (8192 + i) (omega arith);
        back = mid_other (16384 + i) (omega arith);
        letter = mid_other (24576 + i) (omega arith);
        parent = rw (mid_other (32768 + i) (omega arith), mid_other (40960 + i) (omega arith));
      }

      same_before : (i : ℕ) → i < count → SameEntry entry exit i
      same_before i h = same_trans (mid_same i (omega (arith, room_left))) (t.others i (omega (arith, room_left)) (omega arith))

      codes : (i : ℕ) → i < count → code_at exit i ≡ code_at entry i
      unfolding code_at state_code
      codes i h = rw ((same_before i h).front, (same_before i h).back)

      new_code : code_at exit count ≡ state_code x y
      unfolding code_at
      new_code = rw (t.the_front, t.the_back)

      exit_seen : (c : ℕ) → c < 4225 → seen_at exit c ≡ seen_at mid c
      unfolding seen_at
      exit_seen c h =
          let few = room_left in
          t.outside (49152 + c) (omega arith) (omega arith) (omega arith) (omega arith) (omega arith)

      seen_new : seen_at exit (state_code x y) ≡ s + 1
      unfolding seen_at
      seen_new =
          exit_seen (state_code x y) (code_below small_front small_back)
          ∙ get_or-set_same entry (49152 + state_code x y) (s + 1) 0 (omega (arith, place.queue.room, code_below small_front small_back))

      seen_other : (c : ℕ) → c < 4225 → c ≢ state_code x y → seen_at exit c ≡ seen_at entry c
      unfolding seen_at
      seen_other c h f = exit_seen c h ∙ mid_other (49152 + c) (λ e. f (omega arith))

      entry_other : (i : ℕ) → i < count → code_at entry i ≢ state_code x y
      entry_other i h e = new (ap (seen_at entry) (sym e) ∙ place.queue.seen i h)

      queue_more : Queue n s exit (count + 1)
      queue_more = record {
        small = place.queue.small;
        start_inside = place.queue.start_inside;
        room = omega (arith, place.queue.room, t.same_length, length-set entry (49152 + state_code x y) (s + 1));
        front_inside = below_more (λ i. front_at exit i ≤ n) count (λ i h. rw (same_before i h).front (place.queue.front_inside i h)) (rw t.the_front place.front_inside);
        back_inside = below_more (λ i. back_at exit i ≤ n) count (λ i h. rw (same_before i h).back (place.queue.back_inside i h)) (rw t.the_back place.back_inside);
        apart = λ i j h l e. two i j h e (below_cases (omega arith));
        seen = below_more (λ i. seen_at exit (code_at exit i) ≡ s + 1) count
            (λ i h. rw (codes i h, seen_other (code_at entry i) (entry_code place.queue i h) (entry_other i h)) (place.queue.seen i h)) (rw new_code seen_new);
        found = λ c h e. find c h e (ℕ_discrete c (state_code x y));
        older = λ c h. at_most c h (ℕ_discrete c (state_code x y));
      }
        where
          two : (i j : ℕ) → i < j → code_at exit i ≡ code_at exit j → (j ≡ count) ⊎ (j < count) → ⊥
          two i j h e (inl p) = entry_other i (omega arith) (sym (codes i (omega arith)) ∙ e ∙ ap (code_at exit) p ∙ new_code)
          two i j h e (inr l) = place.queue.apart i j h l (sym (codes i (omega arith)) ∙ e ∙ codes j l)

          find : (c : ℕ) → c < 4225 → seen_at exit c ≡ s + 1 → Dec (c ≡ state_code x y) → Entry (code_at exit) (count + 1) c
          find c h e (yes p) = record { at = count; below = omega arith; same = new_code ∙ sym p }
          find c h e (no f) =
              let k = place.queue.found c h (sym (seen_other c h f) ∙ e) in
              record { at = k.at; below = omega (arith, k.below); same = codes k.at k.below ∙ k.same }

          at_most : (c : ℕ) → c < 4225 → Dec (c ≡ state_code x y) → seen_at exit c ≤ s + 1
          at_most c h (yes p) = rw (p, seen_new) (le_refl (s + 1))
          at_most c h (no f) = rw (seen_other c h f) (place.queue.older c h)

      kept_all : Kept entry exit
      kept_all =
          let few = room_left in
          let low = code_below small_front small_back in
          record {
            same_length = t.same_length ∙ length-set entry (49152 + state_code x y) (s + 1);
            before = λ i h. t.outside i (omega arith) (omega arith) (omega arith) (omega arith) (omega arith) ∙ mid_other i (omega arith);
            after = λ i h. t.outside i (omega arith) (omega arith) (omega arith) (omega arith) (omega arith) ∙ mid_other i (omega arith);
          }

      at_count : (j : ℕ) → count ≤ j → j < count + 1 → j ≡ count
      at_count j h l = omega arith

      -- the state is a new entry
      pub added_new : Added n s entry count x y from letter exit (count + 1)
      added_new = record {
        grown = record { queue = queue_more; more = omega arith; same = same_before; kept = kept_all };
        holds = record { at = count; below = omega arith; front = t.the_front; back = t.the_back };
        only = record {
          the_front = λ j h l. ap (front_at exit) (at_count j h l) ∙ t.the_front;
          the_back = λ j h l. ap (back_at exit) (at_count j h l) ∙ t.the_back;
          the_parent = λ j h l. ap (parent_at exit) (at_count j h l) ∙ t.the_parent;
          the_letter = λ j h l. ap (letter_at exit) (at_count j h l) ∙ t.the_letter;
        };
      }

-- the same by the byte that the code reads and sets
module _ {n s : ℕ} {entry : List ℕ} {count x y from letter : ℕ} (place : AddNeeds n s entry count x y from letter) where
  pub add_there : get_or entry (49152 + (x * 65 + y)) 0 ≡ s + 1 → Added n s entry count x y from letter entry count
  unfolding seen_at state_code
  add_there e = added_old place e

  module _ (new : get_or entry (49152 + (x * 65 + y)) 0 ≡ s + 1 → ⊥) where
    pub add_room : count < 4225
    unfolding seen_at state_code
    add_room = room_left place new

    pub new_place : StoreNeeds (set entry (49152 + (x * 65 + y)) (s + 1)) count x y from letter
    new_place = record {
      room = omega (arith, length-set entry (49152 + (x * 65 + y)) (s + 1), place.queue.room);
      few = add_room;
      front_small = omega (arith, place.queue.small, place.front_inside);
      back_small = omega (arith, place.queue.small, place.back_inside);
      from_small = place.from_small;
      letter_small = place.letter_small;
    }

    pub add_done : {exit : List ℕ} → Stored (set entry (49152 + (x * 65 + y)) (s + 1)) exit count x y from letter
        → Added n s entry count x y from letter exit (count + 1)
    unfolding seen_at state_code
    add_done t = added_new place new t
