-- The states that a search begins with: one for each pair (s, e) whose mark is the least grade or more. Assumes nothing.
use Prim.Native.Nat.{ℕ, ◌+◌, ◌*◌, ◌≤◌, ◌<◌}
use mathlib.Core.Path.{◌≡◌, sym, ◌∙◌, subst}
use mathlib.Core.Logic.{⊎_elim, ◌⊎◌, inl, inr}
use mathlib.Core.List.{List}
use native.Mathlib.Omega.{arith}
use lib.ListN.{length, get_or}
use lib.Dec.{T, leb→le, le→leb}
use Rattle.finite.proofs.Numbers.{below_cases, le_or_lt}
use Rattle.theory.specs.Rules.{level}
use Rattle.scratch.specs.Map.{marks_from}
use Rattle.scratch.proofs.Markings.{level_same}
use Rattle.mark_search_list.specs.Queue.{front_at, back_at, seen_at, Queue, HasState, Kept}
use Rattle.mark_search_list.specs.Steps.{Added}
use Rattle.mark_search_begin.specs.Steps.{BeginNeeds, BegunWith, Begun}
use Rattle.mark_search_list.proofs.Growth.{grown_refl, grown_trans, state_grown}
use Rattle.formats.specs.RuleChecks.{scratch_size}

-- a worklist with no entry: no state was found for s yet
pub queue_none : {n s : ℕ} {scratch : List ℕ} → n ≤ 64 → s < n → scratch_size ≤ length scratch → ((c : ℕ) → c < 4225 → seen_at scratch c ≤ s) → Queue n s scratch 0
queue_none small hs room unseen = record {
  small = small;
  start_inside = hs;
  room = room;
  front_inside = λ i h. omega arith;
  back_inside = λ i h. omega arith;
  apart = λ i j h l e. omega arith;
  seen = λ i h. omega arith;
  found = λ c h e. absurd (omega (arith, unseen c h));
  older = λ c h. omega (arith, unseen c h);
}

-- what stands in a table of marks stays there
pub level_kept : (least : ℕ) {entry exit : List ℕ} (base : ℕ) {s e : ℕ} → Kept entry exit → base ≤ 4096 → s < 64 → e < 64
    → level least (marks_from exit base) s e ≡ level least (marks_from entry base) s e
unfolding marks_from
level_kept least {entry} {exit} base {s} {e} k h hs he = level_same least (marks_from exit base) (marks_from entry base) (k.before (base + (s * 64 + e)) (omega arith))

module _ {n s first count e : ℕ} (least : ℕ) {entry : List ℕ} (place : BeginNeeds n s entry first count) (he : e < n) where
  -- the mark is less
  pub not_begun : get_or entry (first + (s * 64 + e)) 0 < least → BegunWith n s (level least (marks_from entry first)) e entry count entry count
  unfolding level marks_from
  not_begun z = record {
    grown = grown_refl place.queue;
    holds = λ t. let h : least ≤ get_or entry (first + (s * 64 + e)) 0 = leb→le least _ t in absurd (omega arith);
    front = λ j h l. omega arith;
    back = λ j h l. omega arith;
    has_mark = λ j h l. absurd (omega arith);
  }

  -- it is not, and the state was added
  pub begun_with : {exit : List ℕ} {total : ℕ} → least ≤ get_or entry (first + (s * 64 + e)) 0 → Added n s entry count e n 0 0 exit total
      → BegunWith n s (level least (marks_from entry first)) e entry count exit total
  unfolding level marks_from
  begun_with z a = record {
    grown = a.grown;
    holds = λ t. a.holds;
    front = a.only.the_front;
    back = a.only.the_back;
    has_mark = λ j h l. le→leb least _ z;
  }

module _ {n s first : ℕ} (least : ℕ) {entry : List ℕ} (base : first ≤ 4096) where
  pub begun_start : BeginNeeds n s entry first 0 → Begun n s (level least (marks_from entry first)) 0 entry entry 0
  begun_start place = record {
    within = omega arith;
    grown = grown_refl place.queue;
    holds = λ e h t. absurd (omega arith);
    front = λ j h. omega arith;
    back = λ j h. omega arith;
    has_mark = λ j h. absurd (omega arith);
  }

  module _ {e count : ℕ} {now : List ℕ} (b : Begun n s (level least (marks_from entry first)) e entry now count) where
    pub begun_place : BeginNeeds n s now first count
    begun_place = record { queue = b.grown.queue; base = base }

    -- one element more
    pub begun_next : {next : List ℕ} {total : ℕ} → e < n → BegunWith n s (level least (marks_from now first)) e now count next total
        → Begun n s (level least (marks_from entry first)) (e + 1) entry next total
    begun_next {next} {total} he w = record {
      within = omega arith;
      grown = grown_trans b.grown w.grown;
      holds = λ d h t. holds d t (below_cases (omega arith));
      front = λ j h. go (λ (x : ℕ). x < e + 1) j h (λ l. omega (arith, b.front j l)) (omega arith);
      back = λ j h. back j h (le_or_lt count j);
      has_mark = λ j h. go (λ (x : ℕ). T (level least (marks_from entry first) s x)) j h (λ l. b.has_mark j l) (marked_here j h);
    }
      where
        q : Queue n s now count
        q = b.grown.queue

        same_mark : level least (marks_from now first) s e ≡ level least (marks_from entry first) s e
        same_mark = level_kept least first b.grown.kept base (omega (arith, q.small, q.start_inside)) (omega (arith, q.small))

        holds : (d : ℕ) → T (level least (marks_from entry first) s d) → (d ≡ e) ⊎ (d < e) → HasState next total d n
        holds d t (inl p) = subst (λ (x : ℕ). HasState next total x n) (sym p) (w.holds (subst T (sym same_mark) (subst (λ (x : ℕ). T (level least (marks_from entry first) s x)) p t)))
        holds d t (inr h) = state_grown w.grown (b.holds d h t)

        marked_here : (j : ℕ) → j < total → count ≤ j → T (level least (marks_from entry first) s e)
        marked_here j h l = subst T same_mark (w.has_mark j l h)

        go : (R : ℕ → Type 0) (j : ℕ) → j < total → (j < count → R (front_at now j)) → (count ≤ j → R e) → R (front_at next j)
        go R j h old new =
            ⊎_elim (λ l. subst R (sym (w.front j l h)) (new l)) (λ l. subst R (sym (w.grown.same j l).front) (old l)) (le_or_lt count j)

        back : (j : ℕ) → j < total → (count ≤ j) ⊎ (j < count) → back_at next j ≡ n
        back j h (inl l) = w.back j l h
        back j h (inr l) = (w.grown.same j l).back ∙ b.back j l

    -- all elements were looked at
    pub begun_all : n ≤ e → Begun n s (level least (marks_from entry first)) n entry now count
    begun_all h = subst (λ (x : ℕ). Begun n s (level least (marks_from entry first)) x entry now count) (let p : e ≡ n = omega (arith, b.within) in p) b
