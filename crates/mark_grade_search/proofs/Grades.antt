-- The search at one grade after the other, from the highest down. Assumes nothing.
use Rattle.std.proofs.Common.{◌≡◌, ℕ, ◌+◌, ◌*◌, ◌%◌, ◌^◌, ◌<◌, ◌≤◌, ◌≢◌, ◌⊎◌, List, length, get_or, refl, ◌∙◌, subst, inl, inr, ⊎_elim, le_refl, arith, below_more, Option, Some, None, zero, suc, nat_lt}
use borrow.Author.Tests.{lt-ltb}
use Rattle.std.specs.Bool.{then_some}
use Rattle.std.specs.Option.{MatchOption}
use Rattle.finite.proofs.Numbers.{le_or_lt}
use Rattle.theory.specs.Rules.{Morphism, Marking, level}
use Rattle.theory.proofs.Escapes.{Escapes}
use Rattle.scratch.specs.Map.{marks_from, MarkingAt, search_end, tables_end}
use Rattle.scratch.proofs.Markings.{marking_kept}
use Rattle.mark_search.specs.Search.{EscapeNeeds, EscapeAnswer, Escaped}
use Rattle.mark_search.specs.declared.Escape.{Escape}
use Rattle.mark_grade_search.specs.GradeSearch.{HighestBelow, GradeEscaped}
use Rattle.mark_grade_search.proofs.Skips.{skipped_grade, none_above}

-- less the grade and modulo 256, a mark below the grade stands above those that are not, as far as it is high
pub shifted : (shift : ℕ) {mark below : ℕ} → (shift + below) % 2 ^ 8 ≡ mark → mark < below → 256 + mark ≤ shift + below
shifted shift e l = omega arith

-- no mark below the grade, of the bytes passed so far, is above what `top` says
pub record TopBelow (bytes : List ℕ) (first count below top : ℕ) : Type 0 where
  pub least : 256 ≤ top + below
  pub none_above : (i : ℕ) → i < count → get_or bytes (first + i) 0 < below → 256 + get_or bytes (first + i) 0 ≤ top + below

module _ {bytes : List ℕ} {first below : ℕ} where
  pub top_none : (top : ℕ) → 0 < below → (top + below) % 2 ^ 8 ≡ 0 → TopBelow bytes first 0 below top
  top_none top h e = record { least = shifted top e h; none_above = λ i l. absurd (omega arith) }

  pub top_more : {i top shift r : ℕ} → TopBelow bytes first i below top → (shift + below) % 2 ^ 8 ≡ get_or bytes (first + i) 0 → (top ≤ r) × (shift ≤ r)
      → TopBelow bytes first (i + 1) below r
  top_more {i} {top} {shift} {r} b e g = record {
    least = omega (arith, b.least, g.0);
    none_above = below_more (λ j. get_or bytes (first + j) 0 < below → 256 + get_or bytes (first + j) 0 ≤ r + below) i
        (λ j l h. omega (arith, b.none_above j l h, g.0)) (λ h. omega (arith, shifted shift e h, g.1));
  }

  pub highest_all : {i count top r : ℕ} → TopBelow bytes first i below top → count ≤ i → (r < below) × (r + 256 ≡ top + below) → HighestBelow bytes first count below r
  highest_all b h e = record {
    less = e.0;
    none_between = λ j l k. omega (arith, b.none_above j (omega arith) k, e.1);
  }

-- a highest mark of 0 is none
pub highest_some : {bytes : List ℕ} {first count below : ℕ} (r : ℕ) {found : Option ℕ} → found ≡ then_some (nat_lt 0 r) r → HighestBelow bytes first count below r
    → MatchOption found (HighestBelow bytes first count below 0) (λ grade. HighestBelow bytes first count below grade × (0 < grade))
highest_some zero e h = rw e h
highest_some (suc r) e h = rw (e, lt-ltb 0 (suc r) (omega arith)) (h, omega arith)

-- no cycle escapes at the grades from `above` on
pub record SearchedAbove (m : Morphism) (first second above : ℕ) (entry now : List ℕ) : Type 0 where
  pub some : 1 ≤ above
  pub few : above ≤ 4
  pub same_length : length now ≡ length entry
  pub marks : (i : ℕ) → i < tables_end → get_or now i 0 ≡ get_or entry i 0
  pub behind : (i : ℕ) → search_end ≤ i → get_or now i 0 ≡ get_or entry i 0
  pub none : (F S : Marking) → ((s e : ℕ) → s < m.size → e < m.size → F s e ≤ 3) → MarkingAt m.size F entry first → MarkingAt m.size S entry second
      → (g : ℕ) → above ≤ g → (s : ℕ) → s < m.size → (v : List ℕ) → Escapes m (level g F) (level g S) s v → ⊥

module _ {m : Morphism} {first second : ℕ} {entry : List ℕ} (small : m.size ≤ 64) (place : EscapeNeeds m first second entry) where
  -- no mark is above 3
  pub searched_start : SearchedAbove m first second 4 entry entry
  searched_start = record {
    some = omega arith;
    few = omega arith;
    same_length = refl;
    marks = λ i h. refl;
    behind = λ i h. refl;
    none = λ F S low t t' g h s hs v. none_above place.lawful F S g s (λ e he. omega (arith, low s e hs he));
  }

  module _ {above : ℕ} {now : List ℕ} (k : SearchedAbove m first second above entry now) where
    -- the table of the first marking lies in scratch
    pub pass_room : first + m.size * 64 ≤ length now
    pass_room = omega (arith, place.first_base, place.room, k.same_length)

    pub next_place : EscapeNeeds m first second now
    next_place = record {
      lawful = place.lawful;
      first_base = place.first_base;
      second_in_base = place.second_in_base;
      room = omega (arith, place.room, k.same_length);
    }

    first_stands : {F : Marking} → MarkingAt m.size F entry first → MarkingAt m.size F now first
    first_stands t = marking_kept first small (λ i g h. k.marks i (omega (arith, place.first_base))) t

    second_stands : {S : Marking} → MarkingAt m.size S entry second → MarkingAt m.size S now second
    second_stands t = marking_kept second small (λ i g h. k.marks i (omega (arith, place.second_in_base))) t

    module _ {grade : ℕ} (b : HighestBelow now first (m.size * 64) above grade) where
      -- a mark above the grade is one that was searched before
      past : (F : Marking) → MarkingAt m.size F entry first → (g s e : ℕ) → s < m.size → e < m.size → grade < g → g ≤ F s e → above ≤ F s e
      unfolding marks_from
      past F t g s e hs he h l =
          let q = (first_stands t).same s e hs he in
          ⊎_elim (λ (p : above ≤ F s e). p) (λ p. absurd (omega (arith, b.none_between (s * 64 + e) (omega arith) (omega (arith, q)), q))) (le_or_lt above (F s e))

      -- so no cycle escapes above the grade
      none_past : (F S : Marking) → ((s e : ℕ) → s < m.size → e < m.size → F s e ≤ 3) → MarkingAt m.size F entry first → MarkingAt m.size S entry second
          → (g : ℕ) → grade < g → (s : ℕ) → s < m.size → (v : List ℕ) → Escapes m (level g F) (level g S) s v → ⊥
      none_past F S low t t' g h s hs v x = go (le_or_lt above g)
        where
          go : (above ≤ g) ⊎ (g < above) → ⊥
          go (inl l) = k.none F S low t t' g l s hs v x
          go (inr l) = k.none F S low t t' above (le_refl above) s hs v (skipped_grade place.lawful F S g above s (omega arith) (λ e he. past F t g s e hs he h) x)

      -- the first marking has no lower grade
      pub escaped_none : grade ≡ 0 → GradeEscaped m first second entry now None
      escaped_none z = record {
        same_length = k.same_length;
        says = λ F S t t' low g some. none_past F S low t t' g (omega arith);
        marks = k.marks;
        behind = k.behind;
      }

      module _ {exit : List ℕ} {answer : Option Escape} (some : grade ≡ 0 → ⊥) (r : Escaped m grade first second now exit answer) where
        positive : 1 ≤ grade
        positive =
            let z : grade ≢ 0 = some in
            omega arith

        -- the search at the grade ends at an entry
        pub escaped_at : {found : Escape} → answer ≡ Some found → GradeEscaped m first second entry exit (Some (record { grade = grade; escape = found }))
        escaped_at {found} e = record {
          same_length = r.same_length ∙ k.same_length;
          says = λ F S t t'. record {
            some = positive;
            small = omega (arith, b.less, k.few);
            escaped = subst (EscapeAnswer m (level grade F) (level grade S) exit) e (r.says F S (first_stands t) (second_stands t'));
          };
          marks = λ j h. r.marks j h ∙ k.marks j h;
          behind = λ j h. r.behind j h ∙ k.behind j h;
        }

        -- or it does not
        pub searched_next : answer ≡ None → SearchedAbove m first second grade entry exit
        searched_next e = record {
          some = positive;
          few = omega (arith, b.less, k.few);
          same_length = r.same_length ∙ k.same_length;
          marks = λ j h. r.marks j h ∙ k.marks j h;
          behind = λ j h. r.behind j h ∙ k.behind j h;
          none = λ F S low t t' g h s hs v. ⊎_elim (λ (l : grade + 1 ≤ g). none_past F S low t t' g (omega arith) s hs v)
              (λ l. subst (λ (x : ℕ). Escapes m (level x F) (level x S) s v → ⊥) (let q : grade ≡ g = omega arith in q)
              (subst (EscapeAnswer m (level grade F) (level grade S) exit) e (r.says F S (first_stands t) (second_stands t')) s hs v)) (le_or_lt (grade + 1) g);
        }
