-- The rule of `next` from its parts: the outcomes, the list of the classes, their grades, and what was written. Assumes nothing.
use Rattle.std.proofs.Common.{Option, Some, None}
use Prim.Native.Nat.{ℕ, suc, ◌+◌, ◌*◌, ◌≤◌, ◌<◌}
use native.Mathlib.Omega.{arith}
use mathlib.Core.Path.{◌≡◌, refl, sym, ap, subst, ◌∙◌}
use mathlib.Core.Logic.{◌⊎◌, ⊎_elim}
use mathlib.Core.List.{List}
use lib.ListN.{length}
use Rattle.theory.specs.Words.{Over}
use Rattle.theory.specs.Rules.{Morphism, Value, element}
use Rattle.theory.proofs.Values.{element_apart}
use Rattle.temporal.specs.Nexts.{NextClassOf, SameNextClass, NextClassesOf, next_outcome}
use Rattle.temporal.proofs.WordClasses.{Congruence}
use Rattle.temporal.proofs.NextClasses.{tail_congruence, table_tails}
use Rattle.minimality.proofs.Saturation.{MarksOutcomes}
use Rattle.promises.specs.Monitor.{value_of}
use Rattle.scratch.specs.Bytes.{UnchangedOutside}
use Rattle.scratch.specs.Map.{outcomes_base, laid_marks_base, laid_end, marks_from}
use Rattle.scratch.specs.Rows.{RowsFilled}
use Rattle.scratch.proofs.Unchanged.{unchanged_wider}
use Rattle.reduce_first_round.specs.Map.{outcome_of, outcome_at}
use Rattle.reduce_first_round.specs.Steps.{OutcomesWritten}
use Rattle.word_steps.specs.Records.{word_at, RecordsKept}
use Rattle.word_steps.specs.Search.{Search}
use Rattle.word_steps.proofs.Words.{word_is}
use Rattle.word_steps.proofs.Searching.{search_rooted, search_kept, word_kept}
use Rattle.word_table.specs.Laying.{laid_rule}
use Rattle.word_table.proofs.Tables.{search_needs, search_some, search_table, search_lawful, search_numbered}
use Rattle.word_rule.specs.Writing.{WordsNeeds, WordsWritten}
use Rattle.next_list.specs.Pairs.{tail_at, whole_at, Listing}
use Rattle.next_list.specs.Following.{ListAnswer, NextListed}
use Rattle.next_list.proofs.Values.{value_none, value_is, whole_inside, tail_known}
use Rattle.next_rule.specs.Writing.{PairsSmall, next_grade, NextNeeds, NextWritten}
use Rattle.next_rule.proofs.Grades.{tail_same}

-- a value that is an element is one of the table
tail_element : {n tail q : ℕ} → (tail ≡ 64) ⊎ (tail < n) → value_of tail ≡ element q → q < n
tail_element {tail = tail} {q} k e =
    ⊎_elim (λ z. absurd (element_apart (sym (sym (ap value_of z ∙ value_none) ∙ e)))) (λ h. let s = value_is tail q e in omega arith) k

module _ {m : Morphism} (small : m.size ≤ 64) {entry out : List ℕ} (p : NextNeeds m entry out) {a : List ℕ} (o : OutcomesWritten m m.size entry a) where
  pub list_room : 65536 ≤ length a
  list_room = rw o.kept.same_length p.room

  module _ {b : List ℕ} {answer : Option ℕ} (l : NextListed m a b answer) where
    pub next_full : answer ≡ None → NextWritten m entry b out out None
    next_full e = record { same_length = l.kept.same_length ∙ o.kept.same_length; says = record { more = subst (ListAnswer m b) e l.says; kept = refl } }

    module _ {count : ℕ} (e : answer ≡ Some count) where
      listing : Listing m b count count m.letters
      listing = subst (ListAnswer m b) e l.says

      over : (j : ℕ) → j < count → Over m.letters (word_at b (suc j))
      over j h = (word_is (search_rooted listing.search) listing.search.letters j h).over

      known : (j : ℕ) → j < count → (tail_at b j ≡ 64) ⊎ (tail_at b j < m.size)
      known j h = tail_known p.lawful (over j h) (listing.pairs j h)

      inside : (j : ℕ) → j < count → whole_at b j < m.size
      inside j h = whole_inside p.lawful (over j h) (listing.pairs j h)

      pub pairs_small : PairsSmall count b
      pairs_small = record {
        few = listing.search.few;
        tails = λ j h. ⊎_elim (λ z. omega arith) (λ t. omega arith) (known j h);
        wholes = λ j h. let t = inside j h in omega arith;
        room = listing.room;
      }

      -- the grade of a pair of classes, by the closure's outcomes
      outcome_is : {s z : ℕ} → s < m.size → z < m.size → outcome_at b s z ≡ outcome_of m entry s z
      unfolding outcome_at
      outcome_is {s} {z} hs hz = l.kept.before (outcomes_base + (s * 64 + z)) (omega arith) ∙ o.outcomes s z hs hz

      abbrev tail : ℕ → Value
      tail j = value_of (tail_at b j)

      abbrev whole : ℕ → ℕ
      whole j = whole_at b j

      grade_is : (s z : ℕ) → s < count → z < count → next_grade b s z ≡ next_outcome (outcome_of m entry) tail whole s z
      unfolding next_grade next_outcome
      grade_is s z hs hz =
          tail_same (outcome_at b) (outcome_of m entry) (value_of (tail_at b s)) (whole_at b z) (λ q v. outcome_is (tail_element (known s hs) v) (inside z hz)) (outcome_is (inside z hz) (inside z hz))

      module _ {d : List ℕ} (g : RowsFilled (λ s z byte. byte ≡ next_grade b s z) laid_marks_base 64 count count b d) where
        grades_kept : UnchangedOutside laid_marks_base laid_end b d
        grades_kept = unchanged_wider (omega arith) (omega (arith, listing.search.few)) g.kept

        kept : RecordsKept b d
        kept = record { same = λ i h t. grades_kept.before i (omega arith) }

        there : Search (SameNextClass m) m.letters d count count m.letters
        there = search_kept listing.search (omega arith) kept

        pub words_place : WordsNeeds count m.letters d out
        words_place = record {
          table = search_needs there (rw grades_kept.same_length listing.room);
          some = search_some there p.letters_some;
          letters_some = p.letters_some;
          letters_small = listing.search.few_letters;
          out_room = p.out_room;
        }

        module _ {exit after : List ℕ} {end : ℕ} (w : WordsWritten count m.letters d exit out after end) where
          done : Search (SameNextClass m) m.letters exit count count m.letters
          done = search_kept there (omega arith) w.records

          word_is_kept : (i : ℕ) → i ≤ count → word_at exit i ≡ word_at b i
          word_is_kept i h = word_kept there (omega arith) w.records i h ∙ word_kept listing.search (omega arith) kept i h

          congruence : Congruence m.letters (SameNextClass m)
          congruence = tail_congruence p.lawful

          classes : NextClassesOf m (laid_rule exit count m.letters) tail whole
          classes = table_tails p.lawful refl (search_table done w.products congruence)
              (λ j h. subst (λ (v : List ℕ). NextClassOf m v (tail j) (whole j)) (sym (word_is_kept (suc j) (omega arith))) (listing.pairs j h))

          marked : MarksOutcomes (laid_rule exit count m.letters) (next_outcome (outcome_of m entry) tail whole) (marks_from exit laid_marks_base)
          unfolding marks_from
          marked = record {
            of_linked = λ s z k.
                w.marked.of_linked s z k ∙ g.filled s z k.inside k.idempotent.inside ∙ grade_is s z k.inside k.idempotent.inside;
            of_others = w.marked.of_others;
          }

          pub next_written : NextWritten m entry exit out after (Some end)
          next_written = record {
            same_length = w.same_length ∙ grades_kept.same_length ∙ l.kept.same_length ∙ o.kept.same_length;
            says = record {
              table = laid_rule exit count m.letters;
              marks = marks_from exit laid_marks_base;
              tail = tail;
              whole = whole;
              lawful = search_lawful done w.products congruence;
              classes = classes;
              numbered = search_numbered done w.products congruence;
              marked = marked;
              some = search_some there p.letters_some;
              few = listing.search.few;
              written = w.written;
            };
          }
