-- A letter handed over, value by value: the values that the letter takes to the front of an entry are gone through from the last
-- back to the first. Assumes nothing.
use Prim.Native.Nat.{ℕ, ◌+◌, ◌*◌, ◌≤◌, ◌<◌}
use mathlib.Core.Path.{◌≡◌, sym, ap, ◌∙◌, subst, subst₂}
use mathlib.Core.Logic.{⊎_elim, ◌⊎◌, inl, inr}
use mathlib.Core.List.{List}
use native.Mathlib.Omega.{arith}
use lib.ListN.{get_or}
use Rattle.finite.proofs.Numbers.{below_cases, le_or_lt}
use Rattle.theory.specs.Rules.{Morphism}
use Rattle.scratch.specs.Preimages.{after_letter, LastBelow, first_at, next_at, Preimages}
use Rattle.mark_search_list.specs.Queue.{front_at, back_at, letter_at, HasState, Kept, SameEntry}
use Rattle.mark_search_list.specs.Steps.{AddNeeds, Added}
use Rattle.mark_search_letters.specs.Steps.{ExpandNeeds, before_letter, FoundFrom, Takes, Taken, Expanded}
use Rattle.mark_search_list.proofs.Growth.{grown_refl, grown_trans, state_grown, queue_few}

-- the lists of preimages stay
pub preimages_kept : {m : Morphism} {entry exit : List ℕ} → Kept entry exit → Preimages m entry → Preimages m exit
unfolding first_at next_at
preimages_kept {m} {entry} {exit} k p = record {
  listed = λ a h. record {
    firsts = λ x l. subst (LastBelow (λ c. after_letter m a c ≡ x) (m.size + 1)) (sym (k.after (57344 + (a * 65 + x)) (omega arith))) ((p.listed a h).firsts x l);
    nexts = λ c l. subst (LastBelow (λ d. after_letter m a d ≡ after_letter m a c) c) (sym (k.after (59392 + (a * 65 + c)) (omega arith))) ((p.listed a h).nexts c l);
  };
}

module _ (m : Morphism) (s : ℕ) {entry : List ℕ} {count from : ℕ} where
  pub found_none : ExpandNeeds m s entry count from → FoundFrom m s entry count from entry count
  found_none place = record {
    grown = grown_refl place.queue;
    parent = λ j h l. omega arith;
    letter = λ j h l. omega arith;
    front = λ j h l. omega arith;
    back = λ j h l. omega arith;
  }

  module _ (there : from < count) {now next : List ℕ} {total more : ℕ} (f : FoundFrom m s entry count from now total) where
    -- steps from an entry, and then more of them
    pub found_more : FoundFrom m s now total from next more → FoundFrom m s entry count from next more
    found_more g = record {
      grown = grown_trans f.grown g.grown;
      parent = λ j h l. ⊎_elim (λ b. g.parent j b l) (λ b. (g.grown.same j b).parent ∙ f.parent j h b) (le_or_lt total j);
      letter = λ j h l. ⊎_elim (λ b. g.letter j b l) (λ b. rw (g.grown.same j b).letter (f.letter j h b)) (le_or_lt total j);
      front = λ j h l. ⊎_elim (λ b. g.front j b l ∙ (f.grown.same from there).front)
          (λ b. rw ((g.grown.same j b).letter, (g.grown.same j b).front) (f.front j h b)) (le_or_lt total j);
      back = λ j h l. ⊎_elim (λ b. g.back j b l ∙ ap (before_letter m (letter_at next j)) (f.grown.same from there).back)
          (λ b. rw ((g.grown.same j b).letter, (g.grown.same j b).back) (f.back j h b)) (le_or_lt total j);
    }

-- one state that hands the letter a over
pub found_added : {m : Morphism} {s : ℕ} {entry exit : List ℕ} {count total from a c : ℕ} → Added m.size s entry count c (before_letter m a (back_at entry from)) from a exit total
    → a < m.letters → after_letter m a c ≡ front_at entry from → FoundFrom m s entry count from exit total
found_added {m} {entry = entry} {from = from} d ha e = record {
  grown = d.grown;
  parent = d.only.the_parent;
  letter = λ j h l. rw (d.only.the_letter j h l) ha;
  front = λ j h l. rw (d.only.the_letter j h l, d.only.the_front j h l) e;
  back = λ j h l. rw (d.only.the_letter j h l) (d.only.the_back j h l);
}

-- the values from `rest` on that the letter takes to the front are done, and `rest` is one more than the last that is not
pub record Taking (m : Morphism) (s : ℕ) (entry : List ℕ) (count from a : ℕ) (now : List ℕ) (total rest : ℕ) : Type 0 where
  pub found : FoundFrom m s entry count from now total
  pub preimages : Preimages m now
  pub head : (c : ℕ) → rest ≡ c + 1 → after_letter m a c ≡ front_at entry from
  pub within : rest ≤ m.size + 1
  pub done : (c : ℕ) → rest ≤ c → c ≤ m.size → after_letter m a c ≡ front_at entry from → HasState now total c (before_letter m a (back_at entry from))

module _ (m : Morphism) {s : ℕ} {entry : List ℕ} {count from a : ℕ} (place : ExpandNeeds m s entry count from) (ha : a < m.letters) where
  -- the whole list is to be done
  pub taking_start : Taking m s entry count from a entry count (get_or entry (57344 + (a * 65 + front_at entry from)) 0)
  unfolding first_at
  taking_start =
      let l = (place.preimages.listed a ha).firsts (front_at entry from) place.has_front in
      record {
        found = found_none m s place;
        preimages = place.preimages;
        head = l.holds;
        within = l.within;
        done = λ c h b e. absurd (l.later c h (omega arith) e);
      }

  module _ {now : List ℕ} {total rest : ℕ} (t : Taking m s entry count from a now total rest) where
    -- the value at hand may be added
    pub taking_add : (c back : ℕ) → m.letters ≤ 16 → c + 1 ≡ rest → back ≡ before_letter m a (back_at entry from) → back ≤ m.size
        → AddNeeds m.size s now total c back from a
    taking_add c back few e b h = record {
      queue = t.found.grown.queue;
      front_inside = omega (arith, t.within);
      back_inside = h;
      from_small = omega (arith, place.there, queue_few place.queue);
      letter_small = omega arith;
    }

    -- and the one before it is next
    pub taking_next : (c back : ℕ) {next : List ℕ} {more : ℕ} → c + 1 ≡ rest → back ≡ before_letter m a (back_at entry from) → Added m.size s now total c back from a next more
        → Taking m s entry count from a next more (get_or next (59392 + (a * 65 + c)) 0)
    unfolding next_at
    taking_next c back {next} {more} e b d = record {
      found = found_more m s place.there t.found (found_added added ha (is_front ∙ sym same.front));
      preimages = after;
      head = λ i p. l.holds i p ∙ is_front;
      within = omega (arith, l.within, t.within);
      done = λ i h k p. go i h k p (le_or_lt rest i);
    }
      where
        same : SameEntry entry now from
        same = t.found.grown.same from place.there

        is_front : after_letter m a c ≡ front_at entry from
        is_front = t.head c (sym e)

        is_back : back ≡ before_letter m a (back_at now from)
        is_back = b ∙ ap (before_letter m a) (sym same.back)

        added : Added m.size s now total c (before_letter m a (back_at now from)) from a next more
        added = subst (λ (y : ℕ). Added m.size s now total c y from a next more) is_back d

        after : Preimages m next
        after = preimages_kept d.grown.kept t.preimages

        l : LastBelow (λ i. after_letter m a i ≡ after_letter m a c) c (next_at next a c)
        l = (after.listed a ha).nexts c (omega (arith, t.within))

        here : (i : ℕ) → next_at next a c ≤ i → after_letter m a i ≡ front_at entry from → (i ≡ c) ⊎ (i < c)
            → HasState next more i (before_letter m a (back_at entry from))
        here i h p (inl q) = subst₂ (λ (x y : ℕ). HasState next more x y) (sym q) b d.holds
        here i h p (inr q) = absurd (l.later i h q (p ∙ sym is_front))

        go : (i : ℕ) → next_at next a c ≤ i → i ≤ m.size → after_letter m a i ≡ front_at entry from → (rest ≤ i) ⊎ (i < rest)
            → HasState next more i (before_letter m a (back_at entry from))
        go i h k p (inl r) = state_grown d.grown (t.done i r k p)
        go i h k p (inr r) = here i h p (below_cases (omega arith))

    -- which is smaller
    pub taking_less : (c : ℕ) {back more : ℕ} {next : List ℕ} → c + 1 ≡ rest → Added m.size s now total c back from a next more
        → get_or next (59392 + (a * 65 + c)) 0 < rest
    unfolding next_at
    taking_less c e d = omega (arith, (((preimages_kept d.grown.kept t.preimages).listed a ha).nexts c (omega (arith, t.within))).within)

    -- none is left
    pub taking_done : rest ≤ 0 → Taken m s entry count from a now total
    taking_done z = record { found = t.found; takes = record { holds = λ c h e. t.done c (omega arith) h e } }

-- letter after letter
module _ {m : Morphism} {s : ℕ} {entry : List ℕ} {count from : ℕ} (place : ExpandNeeds m s entry count from) where
  pub expanded_start : Expanded m s entry count from 0 entry count
  expanded_start = record { found = found_none m s place; takes = λ a h. absurd (omega arith) }

  module _ {a : ℕ} {now : List ℕ} {total : ℕ} (x : Expanded m s entry count from a now total) where
    pub expanded_place : ExpandNeeds m s now total from
    expanded_place = record {
      queue = x.found.grown.queue;
      preimages = preimages_kept x.found.grown.kept place.preimages;
      there = omega (arith, place.there, x.found.grown.more);
      has_front = rw (x.found.grown.same from place.there).front place.has_front;
    }

    pub expanded_next : {next : List ℕ} {more : ℕ} → Taken m s now total from a next more → Expanded m s entry count from (a + 1) next more
    expanded_next {next} {more} t = record {
      found = found_more m s place.there x.found t.found;
      takes = λ b h. go b (below_cases (omega arith));
    }
      where
        same : SameEntry entry now from
        same = x.found.grown.same from place.there

        go : (b : ℕ) → (b ≡ a) ⊎ (b < a) → Takes m b (front_at entry from) (back_at entry from) next more
        go b (inl e) = subst (λ (c : ℕ). Takes m c (front_at entry from) (back_at entry from) next more) (sym e)
            (subst₂ (λ (u v : ℕ). Takes m a u v next more) same.front same.back t.takes)
        go b (inr h) = record { holds = λ c l e. state_grown t.found.grown ((x.takes b h).holds c l e) }

    -- every letter was tried
    pub expanded_all : m.letters ≤ a → Expanded m s entry count from m.letters now total
    expanded_all h = record { found = x.found; takes = λ b l. x.takes b (omega arith) }
