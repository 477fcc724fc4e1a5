-- The laws of the search of pairs in scratch: how it starts, what its functions may ask at a pair (entry, letter), that it goes on by the
-- pair found there or has found too many, and what it leaves at the end. Assumes nothing.
use Rattle.std.proofs.Common.{Option, Some, None}
use Prim.Native.Nat.{ℕ, suc, ◌+◌, ◌*◌, ◌≤◌, ◌<◌}
use mathlib.Core.Path.{◌≡◌, refl, sym, subst}
use mathlib.Core.Logic.{◌⊎◌, inl, inr, ⊎_elim}
use mathlib.Core.List.{List}
use native.Mathlib.Omega.{arith}
use native.Mathlib.Numerals.{add-one}
use native.Mathlib.Decide.{ℕ_discrete}
use Rattle.finite.proofs.Pigeonhole.{update, update_same, update_other}
use Rattle.finite.proofs.Worklist.{Entry}
use Rattle.theory.specs.Rules.{none, element, join}
use Rattle.theory.specs.Combined.{PairWord, MorePairs}
use Rattle.formats.specs.Table.{image_at, morphism_at}
use Rattle.scratch.specs.Map.{pair_numbers_base, pair_lefts_base, pair_rights_base}
use Rattle.scratch.proofs.Unchanged.{unchanged_none, unchanged_both}
use Rattle.rule_reach.specs.Reach.{word_step}
use Rattle.rule_reach.specs.Steps.{step_at, StepNeeds}
use Rattle.rule_reach.proofs.Order.{order_start, order_old, order_new, order_next, order_done, LeadingWord, leading_step, ordered_word}
use Rattle.pair_list.specs.Pairs.{left_at, right_at, value_at, entry_at, number_at, pair_step, Numbered, TwoTables, Empty, PairList, PairsAnswer, Kept}
use Rattle.pair_list.specs.Steps.{AddNeeds, Placed, placed_old, placed_new, Full, Added}
use Rattle.pair_list.specs.Searching.{Searching, Trying, TryAnswer, Tried, ExpandAnswer, Expanded}
use Rattle.pair_list.proofs.Entries.{entry_pair, number_entry, entry_number, stored_extends, stored_newest, stored_numbers, stored_lefts, stored_rights}
use Rattle.pair_list.proofs.Halves.{part_from, HalfList, half_place, half_inside, half_value}
use Rattle.pair_list.proofs.PairWords.{leading_pair}

module _ {first : List ℕ} {n₁ : ℕ} {second : List ℕ} {n₂ k : ℕ} (tables : TwoTables first n₁ second n₂ k) where
  -- nothing is found
  search_start : {scratch : List ℕ} → Empty scratch → Searching first n₁ second n₂ k scratch 0 0 0
  unfolding value_at number_at
  search_start e = record {
    room = e.room;
    few = omega arith;
    left_inside = λ i l. absurd (omega arith);
    right_inside = λ i l. absurd (omega arith);
    numbers = record { of_entry = λ i l. absurd (omega arith); of_pair = λ s t hs ht l. absurd (omega (arith, e.blank (pair_numbers_base + (s * 64 + t)) (omega arith) (omega arith))) };
    order = order_start refl;
  }

  module _ {scratch : List ℕ} {count p a : ℕ} (try : Trying first n₁ second n₂ k scratch count p a) (ha : a < k) where
    search : Searching first n₁ second n₂ k scratch count p a
    search = try.searching

    lefts : HalfList n₁ scratch pair_lefts_base count
    lefts = record { room = omega (arith, search.room); few = search.few; inside = search.left_inside }

    rights : HalfList n₂ scratch pair_rights_base count
    rights = record { room = omega (arith, search.room); few = search.few; inside = search.right_inside }

    -- the letter may be tried at the entry, in both tables
    pub left_place : StepNeeds first n₁ (part_from scratch pair_lefts_base) p a
    left_place = half_place tables.first_is_table lefts try.there ha

    pub right_place : StepNeeds second n₂ (part_from scratch pair_rights_base) p a
    right_place = half_place tables.second_is_table rights try.there ha

    module _ {s t : ℕ} (left : s ≡ step_at first n₁ (part_from scratch pair_lefts_base) p a) (right : t ≡ step_at second n₂ (part_from scratch pair_rights_base) p a) where
      left_below : s < n₁
      left_below = half_inside tables.first_is_table lefts try.there ha left

      right_below : t < n₂
      right_below = half_inside tables.second_is_table rights try.there ha right

      left_small : s < 64
      left_small = omega (arith, left_below, tables.first_is_table.small)

      right_small : t < 64
      right_small = omega (arith, right_below, tables.second_is_table.small)

      -- what is found may be added
      pub add_place : AddNeeds scratch count s t p a
      add_place = record {
        room = search.room;
        few = search.few;
        left_small = left_small;
        right_small = right_small;
        from_small = omega (arith, try.there, search.few);
        letter_small = omega (arith, tables.first_is_table.letters_small);
      }

      is_step : ◌≡◌ {A = _} (element s, element t) (pair_step (morphism_at first n₁ k) (morphism_at second n₂ k) a (entry_at scratch p))
      unfolding pair_step
      is_step = cc (half_value tables.first_is_table lefts try.there ha left, half_value tables.second_is_table rights try.there ha right)

      -- once it is added, the next letter is due
      search_add : {exit : List ℕ} {total : ℕ} → Placed scratch exit count s t p a total → Trying first n₁ second n₂ k exit total p (a + 1)
      search_add (placed_old h e f) = rw (e, f) (record {
        searching = record {
          room = search.room;
          few = search.few;
          left_inside = search.left_inside;
          right_inside = search.right_inside;
          numbers = search.numbers;
          order = order_old search.order (subst (Entry (entry_at scratch) (suc count)) is_step (number_entry search.numbers left_small right_small h));
        };
        there = try.there;
      })
      search_add (placed_new h hc t f) =
          rw f (record {
            searching = record {
              room = omega (arith, t.same_length, search.room);
              few = omega arith;
              left_inside = stored_lefts t hc left_small right_small search.left_inside left_below;
              right_inside = stored_rights t hc left_small right_small search.right_inside right_below;
              numbers = stored_numbers t hc left_small right_small h (λ i l. omega (arith, search.left_inside i l, tables.first_is_table.small)) (λ i l. omega (arith, search.right_inside i l, tables.second_is_table.small)) search.numbers;
              order = rw (add-one count) (order_new search.order (stored_extends t hc left_small right_small) (stored_newest t hc left_small right_small is_step) (omega (arith, try.there)) ha (λ e. omega (arith, h, (entry_number search.numbers (subst (Entry (entry_at scratch) (suc count)) (sym is_step) e)).number)));
            };
            there = omega (arith, try.there);
          })

      -- or it is one pair more than 64
      module _ (full : Full scratch count s t) where
        all_lefts : ℕ → ℕ
        all_lefts = update (left_at scratch) count s

        all_rights : ℕ → ℕ
        all_rights = update (right_at scratch) count t

        old_word : (i : ℕ) → i < count → PairWord (morphism_at first n₁ k) (morphism_at second n₂ k) (left_at scratch i) (right_at scratch i)
        old_word i h =
            leading_pair tables.first_law tables.second_law refl
            (subst (LeadingWord (none, none) (pair_step (morphism_at first n₁ k) (morphism_at second n₂ k)) k) (entry_pair scratch i) (ordered_word search.order.entries (suc i) (omega arith)))

        new_word : PairWord (morphism_at first n₁ k) (morphism_at second n₂ k) s t
        new_word =
            leading_pair tables.first_law tables.second_law refl
            (subst (LeadingWord (none, none) (pair_step (morphism_at first n₁ k) (morphism_at second n₂ k)) k) (sym is_step) (leading_step (ordered_word search.order.entries p (omega (arith, try.there))) ha))

        word_at : (i : ℕ) → i ≤ count → Dec (i ≡ count) → PairWord (morphism_at first n₁ k) (morphism_at second n₂ k) (all_lefts i) (all_rights i)
        unfolding all_lefts all_rights
        word_at i h (yes e) = rw (update_same (left_at scratch) count s i e, update_same (right_at scratch) count t i e) new_word
        word_at i h (no d) = rw (update_other (left_at scratch) count s i d, update_other (right_at scratch) count t i d) (old_word i (omega (arith, d)))

        -- the numbers of these pairs: that of the new one is 0
        number_of : (i : ℕ) → i ≤ count → Dec (i ≡ count) → ((i ≡ count) × (number_at scratch (all_lefts i) (all_rights i) ≡ 0)) ⊎ ((i < count) × (number_at scratch (all_lefts i) (all_rights i) ≡ i + 1))
        unfolding all_lefts all_rights
        number_of i h (yes e) = inl (e, rw (update_same (left_at scratch) count s i e, update_same (right_at scratch) count t i e) full.new)
        number_of i h (no d) =
            let l : i < count = omega (arith, d) in
            inr (l, rw (update_other (left_at scratch) count s i d, update_other (right_at scratch) count t i d) (search.numbers.of_entry i l))

        apart : (i j : ℕ) → i ≤ count → j ≤ count → number_at scratch (all_lefts i) (all_rights i) ≡ number_at scratch (all_lefts j) (all_rights j) → i ≡ j
        apart i j hi hj e =
            ⊎_elim (λ x. ⊎_elim (λ y. omega (arith, x.0, y.0)) (λ y. omega (arith, x.1, y.1)) (number_of j hj (ℕ_discrete j count)))
            (λ x. ⊎_elim (λ y. omega (arith, x.1, y.1)) (λ y. omega (arith, x.1, y.1)) (number_of j hj (ℕ_discrete j count)))
            (number_of i hi (ℕ_discrete i count))

        search_full : MorePairs (morphism_at first n₁ k) (morphism_at second n₂ k) 64
        search_full = record {
          left = all_lefts;
          right = all_rights;
          some_word = λ i h. word_at i (omega (arith, full.full)) (ℕ_discrete i count);
          apart = λ i j hi hj l r. apart i j (omega (arith, full.full)) (omega (arith, full.full)) (cc (l, r));
        }

      -- what the step answers
      pub tried_letter : {exit : List ℕ} (answer : Option ℕ) → Added scratch exit count s t p a answer → Tried first n₁ second n₂ k scratch exit p a answer
      tried_letter (Some total) d = record { kept = d.kept; says = search_add d.says }
      tried_letter None d = record { kept = d.kept; says = search_full d.says }

  -- every letter was tried at the entry
  search_next : {scratch : List ℕ} {count p a : ℕ} → Searching first n₁ second n₂ k scratch count p a → a ≡ k → Searching first n₁ second n₂ k scratch count (p + 1) 0
  search_next s e = record {
    room = s.room;
    few = s.few;
    left_inside = s.left_inside;
    right_inside = s.right_inside;
    numbers = s.numbers;
    order = order_next (rw e at s.order);
  }

  -- every entry was tried; there is a letter, and so there is a pair
  search_done : {scratch : List ℕ} {count p : ℕ} → Searching first n₁ second n₂ k scratch count p 0 → 1 ≤ k → count < p → PairList first n₁ second n₂ k scratch count
  unfolding pair_step value_at word_step join
  search_done {scratch} {count} s some h =
      let order = order_done s.order h in
      let n : Numbered scratch count (image_at first n₁ 0) (image_at second n₂ 0) = entry_number s.numbers (order.closed 0 0 (omega arith) some) in
      record {
        order = order;
        some = omega (arith, n.below);
        few = s.few;
        left_inside = s.left_inside;
        right_inside = s.right_inside;
        numbers = s.numbers;
      }

-- the letters before `letter` were tried at entry `from`
pub record Expanding (first : List ℕ) (n₁ : ℕ) (second : List ℕ) (n₂ k : ℕ) (entry : List ℕ) (from : ℕ) (scratch : List ℕ) (total letter : ℕ) : Type 0 where
  pub tables : TwoTables first n₁ second n₂ k
  pub trying : Trying first n₁ second n₂ k scratch total from letter
  pub up_to : letter ≤ k
  pub kept : Kept entry scratch

-- the entries before `from` were tried
pub record Listing (first : List ℕ) (n₁ : ℕ) (second : List ℕ) (n₂ k : ℕ) (entry scratch : List ℕ) (count from : ℕ) : Type 0 where
  pub tables : TwoTables first n₁ second n₂ k
  pub searching : Searching first n₁ second n₂ k scratch count from 0
  pub kept : Kept entry scratch

module _ {first : List ℕ} {n₁ : ℕ} {second : List ℕ} {n₂ k : ℕ} {entry : List ℕ} where
  -- no letter was tried at the entry
  pub expanding_start : {count from : ℕ} → TwoTables first n₁ second n₂ k → Trying first n₁ second n₂ k entry count from 0
      → Expanding first n₁ second n₂ k entry from entry count 0
  expanding_start t s = record { tables = t; trying = s; up_to = omega arith; kept = unchanged_none _ _ _ }

  module _ {from : ℕ} {scratch : List ℕ} {total letter : ℕ} (x : Expanding first n₁ second n₂ k entry from scratch total letter) where
    -- the next letter was tried
    pub expanding_next : {exit : List ℕ} {answer : Option ℕ} {next : ℕ} → letter < k → Tried first n₁ second n₂ k scratch exit from letter answer → answer ≡ Some next
        → Expanding first n₁ second n₂ k entry from exit next (letter + 1)
    expanding_next {exit} h d e = record {
      tables = x.tables;
      trying = subst (TryAnswer first n₁ second n₂ k exit from letter) e d.says;
      up_to = omega arith;
      kept = unchanged_both x.kept d.kept;
    }

    -- there are too many pairs
    pub expanding_full : {exit : List ℕ} {answer : Option ℕ} → Tried first n₁ second n₂ k scratch exit from letter answer → answer ≡ None
        → Expanded first n₁ second n₂ k entry exit from None
    expanding_full {exit} d e = record {
      kept = unchanged_both x.kept d.kept;
      says = subst (TryAnswer first n₁ second n₂ k exit from letter) e d.says;
    }

    -- all letters were tried
    pub expanding_done : k ≤ letter → Expanded first n₁ second n₂ k entry scratch from (Some total)
    expanding_done h = record { kept = x.kept; says = search_next x.tables x.trying.searching (omega (arith, x.up_to)) }

  -- no entry was tried
  pub listing_start : TwoTables first n₁ second n₂ k → Empty entry → Listing first n₁ second n₂ k entry entry 0 0
  listing_start t e = record { tables = t; searching = search_start t e; kept = unchanged_none _ _ _ }

  module _ {scratch : List ℕ} {count from : ℕ} (x : Listing first n₁ second n₂ k entry scratch count from) where
    -- the next entry may be tried
    pub listing_try : from ≤ count → Trying first n₁ second n₂ k scratch count from 0
    listing_try h = record { searching = x.searching; there = h }

    pub listing_few : count ≤ 64
    listing_few = x.searching.few

    -- it was tried
    pub listing_next : {exit : List ℕ} {answer : Option ℕ} {next : ℕ} → Expanded first n₁ second n₂ k scratch exit from answer → answer ≡ Some next
        → Listing first n₁ second n₂ k entry exit next (from + 1)
    listing_next {exit} d e = record {
      tables = x.tables;
      searching = subst (ExpandAnswer first n₁ second n₂ k exit from) e d.says;
      kept = unchanged_both x.kept d.kept;
    }

    -- there are too many pairs
    pub listing_full : {exit : List ℕ} {answer : Option ℕ} → Expanded first n₁ second n₂ k scratch exit from answer → answer ≡ None
        → PairsAnswer first n₁ second n₂ k entry exit None
    listing_full {exit} d e = record {
      kept = unchanged_both x.kept d.kept;
      says = subst (ExpandAnswer first n₁ second n₂ k exit from) e d.says;
    }

    -- all entries were tried
    pub listing_done : 1 ≤ k → count < from → PairsAnswer first n₁ second n₂ k entry scratch (Some count)
    listing_done some h = record { kept = x.kept; says = search_done x.tables x.searching some h }
