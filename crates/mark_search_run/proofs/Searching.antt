-- The search at one start value, entry by entry: what is known when the entries before the one at hand were tried.
-- Assumes nothing.
use Prim.Native.Nat.{ℕ, ◌+◌, ◌≤◌, ◌<◌}
use mathlib.Core.Path.{◌≡◌, sym, ap, ◌∙◌, subst}
use mathlib.Core.Logic.{◌⊎◌, inl, inr}
use mathlib.Core.List.{List}
use native.Mathlib.Omega.{arith}
use lib.ListN.{length, get_or}
use lib.Dec.{T}
use Rattle.finite.proofs.Numbers.{below_cases, le_or_lt}
use Rattle.theory.specs.Rules.{Morphism, Marking, Pairs, level}
use Rattle.scratch.specs.Map.{tables_end, first_preimages_base, marks_from, MarkingAt}
use Rattle.mark_search_list.specs.Queue.{front_at, back_at, letter_at, parent_at, Queue, SameEntry, Grown}
use Rattle.mark_search_begin.specs.Steps.{BeginNeeds, Begun}
use Rattle.mark_search_letters.specs.Steps.{ExpandNeeds, before_letter, Takes}
use Rattle.mark_search_visit.specs.Visits.{split_marked, Visited}
use Rattle.mark_search_run.specs.Search.{Source, a_start, a_step, Tried, Searching, SearchNeeds, RunNeeds, Searched}
use Rattle.std.specs.Prelude.{Option, Some, None}
use Rattle.scratch.proofs.Markings.{marking_itself, marking_kept}
use Rattle.scratch.proofs.Unchanged.{unchanged_none, unchanged_both}
use Rattle.mark_search_list.proofs.Growth.{grown_trans, state_grown, queue_few}
use Rattle.mark_search_begin.proofs.Beginning.{queue_none, level_kept}
use Rattle.mark_search_letters.proofs.Taking.{preimages_kept}
use Rattle.mark_search_run.proofs.Meeting.{no_escape, split_inside, entries_as}
use Rattle.formats.specs.RuleChecks.{scratch_size}

-- a source stays one while entries are added
pub source_grown : {m : Morphism} {P P' : Pairs} {s count total i : ℕ} {entry exit : List ℕ} → Grown m.size s entry count exit total → i < count
    → Source m P P' s entry i → Source m P P' s exit i
source_grown {m} {P} {P'} {s} {i = i} g h (a_start f t b) =
    let e = g.same i h in
    a_start (rw e.front f) (rw e.front t) (e.back ∙ b)
source_grown {m} {P} {P'} {s} {i = i} {entry = entry} {exit = exit} g h (a_step p l f a b u) =
    let e = g.same i h in
    let d = g.same (parent_at entry i) (omega arith) in
    go e d
  where
    go : SameEntry entry exit i → SameEntry entry exit (parent_at entry i) → Source m P P' s exit i
    go e d = a_step (rw e.parent p) (rw e.letter l) (rw (e.parent, d.front) f) (rw (e.parent, d.front, e.letter, e.front) a)
        (rw (e.parent, d.back, e.letter, e.back) b) (rw (e.parent, d.front, d.back) u)

-- the marks and the lists stand, and no state was found for s
pub begin_place : {m : Morphism} {first second s : ℕ} {entry : List ℕ} → SearchNeeds m first second s entry → m.size ≤ 64 → BeginNeeds m.size s entry first 0
begin_place place small = record { queue = queue_none small place.start_inside place.room place.unseen; base = place.first_base }

module _ {m : Morphism} (least : ℕ) {first second s : ℕ} {entry : List ℕ} (place : SearchNeeds m first second s entry) where
  abbrev P : Pairs
  P = level least (marks_from entry first)

  abbrev P' : Pairs
  P' = level least (marks_from entry second)

  -- the entries that the search begins with
  pub searching_start : {now : List ℕ} {count : ℕ} → Begun m.size s P m.size entry now count
      → Searching m (level least (marks_from now first)) (level least (marks_from now second)) s now now count 0
  searching_start {now} {count} b = record {
    grown = record { queue = b.grown.queue; more = omega arith; same = λ i h. omega arith; kept = unchanged_none tables_end first_preimages_base now };
    preimages = preimages_kept b.grown.kept place.preimages;
    source = λ i h. a_start (b.front i h) (subst T (sym (same_mark (b.front i h))) (b.has_mark i h)) (b.back i h);
    starts = λ e h t. b.holds e h (subst T (same_mark h) t);
    tried = λ p h. absurd (omega arith);
    within = omega arith;
  }
    where
      same_mark : {e : ℕ} → e < m.size → level least (marks_from now first) s e ≡ P s e
      same_mark h = level_kept least first b.grown.kept place.first_base (omega (arith, b.grown.queue.small, place.start_inside)) (omega (arith, b.grown.queue.small))

  pub place_begun : {now : List ℕ} {count : ℕ} → Begun m.size s P m.size entry now count → RunNeeds m first second s
  place_begun b = record { lawful = place.lawful; start_inside = place.start_inside; first_base = place.first_base; second_in_base = place.second_in_base }

  -- what the entries after the beginning find holds of the marks before it
  pub searched_begun : {now exit : List ℕ} {count : ℕ} {answer : Option ℕ} → Begun m.size s P m.size entry now count → Searched m least first second s now exit answer
      → Searched m least first second s entry exit answer
  searched_begun {now} b r = record {
    ends = λ F S t t'. r.ends F S (moved first place.first_base t) (moved second place.second_in_base t');
    kept = unchanged_both b.grown.kept r.kept;
    seen = r.seen;
  }
    where
      small : m.size ≤ 64
      small = b.grown.queue.small

      moved : {F : Marking} (base : ℕ) → base ≤ 4096 → MarkingAt m.size F entry base → MarkingAt m.size F now base
      moved base h t = marking_kept base small (λ i g l. b.grown.kept.before i (omega arith)) t

-- the loop over the entries
module _ {m : Morphism} (least : ℕ) {first second s : ℕ} {entry : List ℕ} (place : RunNeeds m first second s) where
  module _ {now : List ℕ} {count at : ℕ} (k : Searching m (level least (marks_from entry first)) (level least (marks_from entry second)) s entry now count at) where
    queue : Queue m.size s now count
    queue = k.grown.queue

    -- an entry is below 4,225
    pub at_few : at ≤ 4225
    at_few = omega (arith, k.within, queue_few queue)

    pub searching_room : scratch_size ≤ length now
    searching_room = queue.room

    -- the entry at hand has an element in front
    pub visit_place : at < count → (get_or now (8192 + at) 0 ≡ m.size → ⊥) → ExpandNeeds m s now count at
    unfolding front_at
    visit_place h f = record {
      queue = queue;
      preimages = k.preimages;
      there = h;
      has_front = let l = queue.front_inside at h in omega arith;
    }

    same_split : {x : ℕ} (y : ℕ) → x < m.size → split_marked m (level least (marks_from now second)) s x y ≡ split_marked m (level least (marks_from entry second)) s x y
    same_split y h = sym (split_inside place.lawful least y stands place.start_inside h)
      where
        stands : MarkingAt m.size (marks_from entry second) now second
        stands = marking_kept second queue.small (λ i g l. k.grown.kept.before i (omega (arith, place.second_in_base))) (marking_itself m.size entry second)

    -- it was tried
    pub searching_next : {next : List ℕ} {total : ℕ} → at < count → (get_or now (8192 + at) 0 ≡ m.size → ⊥)
        → Visited m (level least (marks_from now second)) s now count at next total → Searching m (level least (marks_from entry first)) (level least (marks_from entry second)) s entry next total (at + 1)
    searching_next {next} {total} h f v = record {
      grown = grown_trans k.grown g;
      preimages = preimages_kept g.kept k.preimages;
      source = λ i l. source i l (le_or_lt count i);
      starts = λ e l t. state_grown g (k.starts e l t);
      tried = λ p l. tried p (below_cases (omega arith));
      within = omega (arith, g.more);
    }
      where
        g : Grown m.size s now count next total
        g = v.found.grown

        here : front_at now at < m.size
        here = (visit_place h f).has_front

        same : SameEntry now next at
        same = g.same at h

        -- a new entry comes from the one at hand
        new : (i : ℕ) → i < total → count ≤ i → Source m (level least (marks_from entry first)) (level least (marks_from entry second)) s next i
        new i l n =
            let p = v.found.parent i n l in
            a_step (rw p (omega arith)) (v.found.letter i n l) (rw (p, same.front) here) (v.found.front i n l ∙ sym (ap (front_at next) p ∙ same.front))
            (v.found.back i n l ∙ ap (before_letter m (letter_at next i)) (sym (ap (back_at next) p ∙ same.back)))
            (rw (p, same.front, same.back) (λ t. v.unmarked i n l (subst T (sym (same_split (back_at now at) here)) t)))

        source : (i : ℕ) → i < total → (count ≤ i) ⊎ (i < count) → Source m (level least (marks_from entry first)) (level least (marks_from entry second)) s next i
        source i l (inl n) = new i l n
        source i l (inr n) = source_grown g n (k.source i n)

        grown_takes : {a x y : ℕ} → Takes m a x y now count → Takes m a x y next total
        grown_takes t = record { holds = λ c l e. state_grown g (t.holds c l e) }

        old : (p : ℕ) → p < at → Tried m (level least (marks_from entry second)) s next total p
        old p l =
            let d = g.same p (omega arith) in
            let t = k.tried p l in
            record {
              has_front = rw d.front t.has_front;
              takes = λ u a q. rw (d.front, d.back) (grown_takes (t.takes (rw (d.front, d.back) at u) a q));
            }

        tried : (p : ℕ) → (p ≡ at) ⊎ (p < at) → Tried m (level least (marks_from entry second)) s next total p
        tried p (inr l) = old p l
        tried p (inl e) = subst (Tried m (level least (marks_from entry second)) s next total) (sym e) (record {
          has_front = rw same.front here;
          takes = λ u a q. rw (same.front, same.back) (v.takes (λ t. u (rw (same.front, same.back) (subst T (same_split (back_at now at) here) t))) a q);
        })

    -- the entry at hand has nothing in front
    pub searched_ended : at < count → get_or now (8192 + at) 0 ≡ m.size → Searched m least first second s entry now (Some at)
    unfolding front_at
    searched_ended h e = record {
      ends = λ F S t t'. record {
        count = count;
        entries = entries_as place.lawful least place.start_inside t t' (record { queue = queue; source = k.source });
        below = h;
        no_front = e;
      };
      kept = k.grown.kept;
      seen = queue.older;
    }

    -- every entry was tried
    pub searched_none : count ≤ at → Searched m least first second s entry now None
    searched_none h = record {
      ends = λ F S t t'. no_escape place.lawful least place.start_inside t t' k.starts (λ p l. k.tried p (omega arith));
      kept = k.grown.kept;
      seen = queue.older;
    }
