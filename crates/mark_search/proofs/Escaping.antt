-- The search at one start value after the other. Assumes nothing.
use Prim.Native.Nat.{ℕ, ◌+◌, ◌≤◌, ◌<◌}
use mathlib.Core.Path.{◌≡◌, ◌∙◌, subst}
use mathlib.Core.Logic.{◌⊎◌, inl, inr}
use mathlib.Core.List.{List}
use native.Mathlib.Omega.{arith}
use lib.ListN.{get_or}
use Rattle.finite.proofs.Numbers.{below_cases}
use Rattle.theory.specs.Rules.{Morphism, Marking, level}
use Rattle.theory.proofs.Escapes.{Escapes}
use Rattle.sections.specs.Answers.{PartZeroed}
use Rattle.scratch.specs.Map.{MarkingAt, tables_end, states_base, first_preimages_base, next_preimages_base}
use Rattle.scratch.specs.Preimages.{PreimagesRoom, PreimagesListed}
use Rattle.mark_search_list.specs.Queue.{seen_at, Kept}
use Rattle.mark_search_run.specs.Search.{SearchNeeds, Searched}
use Rattle.std.specs.Prelude.{Option, Some, None}
use Rattle.mark_search.specs.Search.{AllNeeds, EscapeNeeds, Escaped}
use Rattle.mark_search.specs.declared.Escape.{Escape}
use Rattle.scratch.proofs.Markings.{marking_kept}
use Rattle.scratch.proofs.Unchanged.{unchanged_none, unchanged_both}
use Rattle.mark_search_letters.proofs.Taking.{preimages_kept}

-- no cycle escapes at the start values before s
pub record SearchedTo (m : Morphism) (least first second s : ℕ) (entry now : List ℕ) : Type 0 where
  pub kept : Kept entry now
  pub seen : (c : ℕ) → c < 4225 → seen_at now c ≤ s
  pub none : (F S : Marking) → MarkingAt m.size F entry first → MarkingAt m.size S entry second → (t : ℕ) → t < s → (v : List ℕ)
      → Escapes m (level least F) (level least S) t v → ⊥

module _ {m : Morphism} (least : ℕ) {first second : ℕ} {entry : List ℕ} (small : m.size ≤ 64) (place : AllNeeds m first second entry) where
  pub searched_start : SearchedTo m least first second 0 entry entry
  searched_start = record { kept = unchanged_none tables_end first_preimages_base entry; seen = place.unseen; none = λ F S t t' u h. absurd (omega arith) }

  module _ {s : ℕ} {now : List ℕ} (k : SearchedTo m least first second s entry now) where
    pub next_place : s < m.size → SearchNeeds m first second s now
    next_place h = record {
      lawful = place.lawful;
      start_inside = h;
      first_base = place.first_base;
      second_in_base = place.second_in_base;
      room = omega (arith, place.room, k.kept.same_length);
      preimages = preimages_kept k.kept place.preimages;
      unseen = k.seen;
    }

    module _ (F S : Marking) (t : MarkingAt m.size F entry first) (t' : MarkingAt m.size S entry second) where
      first_stands : MarkingAt m.size F now first
      first_stands = marking_kept first small (λ i g h. k.kept.before i (omega (arith, place.first_base))) t

      second_stands : MarkingAt m.size S now second
      second_stands = marking_kept second small (λ i g h. k.kept.before i (omega (arith, place.second_in_base))) t'

    -- the search at s ends at an entry
    pub escaped_at : {exit : List ℕ} {answer : Option ℕ} {i : ℕ} → s < m.size → Searched m least first second s now exit answer → answer ≡ Some i
        → Escaped m least first second entry exit (Some (record { start = s; entry = i }))
    escaped_at {exit} {i = i} h r e =
        let d : Searched m least first second s now exit (Some i) = subst (Searched m least first second s now exit) e r in
        let w = unchanged_both k.kept d.kept in
        record {
          same_length = w.same_length;
          says = λ F S t t'. record { start_inside = h; ended = d.ends F S (first_stands F S t t') (second_stands F S t t') };
          marks = w.before;
          behind = λ j g. w.after j (omega arith);
        }

    -- or it does not
    pub searched_next : {exit : List ℕ} {answer : Option ℕ} → Searched m least first second s now exit answer → answer ≡ None
        → SearchedTo m least first second (s + 1) entry exit
    searched_next {exit} r e =
        let d : Searched m least first second s now exit None = subst (Searched m least first second s now exit) e r in
        record {
          kept = unchanged_both k.kept d.kept;
          seen = d.seen;
          none = λ F S t t' u h v. go F S t t' u v (d.ends F S (first_stands F S t t') (second_stands F S t t')) (below_cases (omega arith));
        }
      where
        go : (F S : Marking) → MarkingAt m.size F entry first → MarkingAt m.size S entry second → (u : ℕ) (v : List ℕ)
            → ((w : List ℕ) → Escapes m (level least F) (level least S) s w → ⊥) → (u ≡ s) ⊎ (u < s) → Escapes m (level least F) (level least S) u v → ⊥
        go F S t t' u v d (inl p) x = d v (subst (λ (y : ℕ). Escapes m (level least F) (level least S) y v) p x)
        go F S t t' u v d (inr l) x = k.none F S t t' u l v x

    -- no start value has a cycle that escapes
    pub escaped_none : m.size ≤ s → Escaped m least first second entry now None
    escaped_none h = record {
      same_length = k.kept.same_length;
      says = λ F S t t' u l. k.none F S t t' u (omega arith);
      marks = k.kept.before;
      behind = λ j g. k.kept.after j (omega arith);
    }

-- with the states and the lists of preimages made blank first, and the lists made then
module _ {m : Morphism} {first second : ℕ} {entry blank : List ℕ} (small : m.size ≤ 64) (place : EscapeNeeds m first second entry)
    (z : PartZeroed states_base next_preimages_base entry blank) where
  pub preimages_room : PreimagesRoom blank
  preimages_room = record { room = omega (arith, place.room, z.outside.same_length); blank = λ i h l. z.zeros i (omega arith) l }

  module _ {mid : List ℕ} (l : PreimagesListed m blank mid) where
    pub all_place : AllNeeds m first second mid
    unfolding seen_at
    all_place = record {
      lawful = place.lawful;
      first_base = place.first_base;
      second_in_base = place.second_in_base;
      room = omega (arith, place.room, l.kept.same_length, z.outside.same_length);
      preimages = l.preimages;
      unseen = λ c h. omega (arith, l.kept.before (49152 + c) (omega arith), z.zeros (49152 + c) (omega arith) (omega arith));
    }

    pub escaped_listed : {least : ℕ} {exit : List ℕ} {answer : Option Escape} → Escaped m least first second mid exit answer → Escaped m least first second entry exit answer
    escaped_listed r = record {
      same_length = r.same_length ∙ l.kept.same_length ∙ z.outside.same_length;
      says = λ F S t t'. r.says F S (moved first place.first_base t) (moved second place.second_in_base t');
      marks = λ i h. r.marks i h ∙ same i h;
      behind = λ i h. r.behind i h ∙ l.kept.after i h ∙ z.outside.after i (omega arith);
    }
      where
        same : (i : ℕ) → i < 8192 → get_or mid i 0 ≡ get_or entry i 0
        same i h = l.kept.before i (omega arith) ∙ z.outside.before i (omega arith)

        moved : {F : Marking} (base : ℕ) → base ≤ 4096 → MarkingAt m.size F entry base → MarkingAt m.size F mid base
        moved base h t = marking_kept base small (λ i g l. same i (omega arith)) t
