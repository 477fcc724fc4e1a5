-- What the parts of the comparison show. Assumes nothing.
use Prim.Native.Nat.{ℕ, ◌≤◌, ◌<◌}
use mathlib.Core.Path.{◌≡◌, refl, ap, ◌∙◌, subst}
use mathlib.Core.List.{List}
use native.Mathlib.Omega.{arith}
use lib.ListN.{length, replicate}
use Rattle.theory.specs.Rules.{Morphism, Marking, level}
use Rattle.theory.proofs.Gradings.{level_linked}
use Rattle.theory.proofs.Included.{none_included, escape_witness}
use Rattle.formats.proofs.Tables.{Table}
use Rattle.formats.specs.Table.{morphism_at}
use Rattle.rule_reach.specs.Reach.{place_at, Empty, WordOrder}
use Rattle.rule_reach.proofs.Words.{word_at, found_word, reached_found}
use Rattle.scratch.specs.Map.{second_base, marks_from, MarkingAt}
use Rattle.scratch.proofs.Markings.{marking_itself}
use Rattle.mark_spelling.specs.Spelling.{SpellNeeds}
use Rattle.formats.specs.Front.{AtFront}
use Rattle.mark_spelling.proofs.Entries.{spell_place}
use Rattle.mark_search.specs.Search.{EscapeNeeds, EscapedAt}
use Rattle.mark_grade_search.specs.GradeSearch.{GradeEscapedAt, GradeEscapeAnswer, GradeEscaped}
use Rattle.mark_grade_search.specs.declared.GradeEscape.{GradeEscape}
use Rattle.std.specs.Prelude.{Option, Some, None}
use Rattle.mark_cycles.specs.Cycles.{CycleNeeds, CycleWritten}
use Rattle.mark_cycles.proofs.Spelled.{cycle_place, spelled_escapes, ended_short}
use Rattle.mark_comparison.specs.Comparison.{StartNeeds, StartWritten, CompareNeeds, answered_included, answered_apart, Compared}
use Rattle.promises.specs.declared.Inclusion.TheVariants.{Included as Is-included, NotIncluded}

-- the first word of an element
module _ {bytes : List ℕ} {n k : ℕ} {before queue : List ℕ} {count s : ℕ} {out : List ℕ} (table : Table bytes n k) (place : StartNeeds (morphism_at bytes n k) s out)
    (order : WordOrder bytes n k before queue count) (blank : Empty before) where
  found : 0 < place_at queue s
  found = reached_found order place.lawful (place.reached.word_of s place.inside)

  pub start_place : SpellNeeds queue n s out
  start_place = spell_place order (omega (arith, blank.room, order.same_length)) table.small place.inside found (omega (arith, table.small, place.room))

  pub start_written : {exit : List ℕ} {r : ℕ} → AtFront (word_at queue (place_at queue s)) out exit r → StartWritten (morphism_at bytes n k) s out exit r
  start_written w =
      let f = found_word order place.lawful place.inside found in
      record { found = record { word = word_at queue (place_at queue s); over = f.over; its_value = f.its_value; short = f.short }; written = w }

module _ {m : Morphism} {entry : List ℕ} (place : CompareNeeds m entry) where
  -- the search compares the first marking with the second
  pub compare_search : EscapeNeeds m 0 second_base entry
  compare_search = record {
    lawful = place.lawful;
    first_base = omega arith;
    second_in_base = omega arith;
    room = place.room;
  }

  module _ {mid : List ℕ} {answer : Option GradeEscape} (r : GradeEscaped m 0 second_base entry mid answer) where
    said : {answered : Option GradeEscape} → answer ≡ answered → (F S : Marking) → MarkingAt m.size F entry 0 → MarkingAt m.size S entry second_base
        → GradeEscapeAnswer m F S mid answered
    said e F S t t' = subst (GradeEscapeAnswer m F S mid) e (r.says F S t t')

    -- no cycle escapes, at any grade
    pub compared_within : {end : List ℕ} (u v : List ℕ) → answer ≡ None → end ≡ replicate (length mid) 0 → Compared m u u v v entry end Is-included
    compared_within u v e z = record {
      answers = λ F S k k' t t'. record {
        included = record {
          at_each = λ g some. none_included place.lawful (level_linked place.lawful k some) (level_linked place.lawful k' some)
              (said e F S t t' k.small g some);
        };
        start_kept = refl;
        cycle_kept = refl;
      };
      answered = answered_included;
      scratch = z ∙ ap (λ (x : ℕ). replicate x 0) r.same_length;
    }

    module _ {found : GradeEscape} (e : answer ≡ Some found) where
      abbrev g : ℕ
      g = found.grade

      abbrev s : ℕ
      s = found.escape.start

      abbrev i : ℕ
      i = found.escape.entry

      escaped : (F S : Marking) → MarkingAt m.size F entry 0 → MarkingAt m.size S entry second_base → GradeEscapedAt m F S mid g s i
      escaped F S t t' = said e F S t t'

      -- the markings stand as the table itself says
      itself : EscapedAt m (level g (marks_from entry 0)) (level g (marks_from entry second_base)) s mid i
      itself = (escaped (marks_from entry 0) (marks_from entry second_base) (marking_itself m.size entry 0) (marking_itself m.size entry second_base)).escaped

      pub start_room : {u : List ℕ} → 64 ≤ length u → StartNeeds m s u
      start_room h = record { lawful = place.lawful; reached = place.reached; inside = itself.start_inside; room = h }

      pub cycle_room : {v : List ℕ} → 4224 ≤ length v → CycleNeeds m.size mid i v
      cycle_room h = cycle_place place.lawful itself.ended h

      -- a cycle escapes: with the first word of its start it is a lasso that the first marking grades higher
      pub compared_apart : {end u u' v v' : List ℕ} {a b : ℕ} → StartWritten m s u u' a → CycleWritten m.size mid i v v' b → end ≡ replicate (length mid) 0
          → Compared m u u' v v' entry end (NotIncluded a b)
      compared_apart x y z = record {
        answers = λ F S k k' t t'.
            (let d = escaped F S t t' in
            let f = d.escaped.ended in
            record {
              start = x.found.word;
              cycle = y.word;
              witness = record {
                least = g;
                some = d.some;
                witness = escape_witness place.lawful (level_linked place.lawful k d.some) (level_linked place.lawful k' d.some) x.found
                    (record { cycle = y.word; escapes = spelled_escapes place.lawful f y.spells; short = ended_short place.lawful f (length y.word) y.short });
              };
              start_written = x.written;
              cycle_written = y.written;
            });
        answered = answered_apart;
        scratch = z ∙ ap (λ (k : ℕ). replicate k 0) r.same_length;
      }
