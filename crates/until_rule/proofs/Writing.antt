-- The rule of `until` from its parts: the list of the classes, their grades, and what was written. Assumes nothing.
use Rattle.std.proofs.Common.{Option, Some, None}
use Prim.Native.Nat.{ℕ, suc, ◌≤◌, ◌<◌}
use native.Mathlib.Omega.{arith}
use mathlib.Core.Path.{◌≡◌, refl, sym, subst, ◌∙◌}
use mathlib.Core.List.{List}
use lib.ListN.{length}
use Rattle.theory.specs.Words.{Over}
use Rattle.theory.specs.Rules.{Morphism}
use Rattle.theory.proofs.Values.{inside_of}
use Rattle.temporal.specs.Clamps.{UntilClassOf, SameUntilClass, UntilClassesOf, until_outcome}
use Rattle.temporal.proofs.Clamps.{through_small}
use Rattle.temporal.proofs.WordClasses.{Congruence}
use Rattle.temporal.proofs.UntilClasses.{class_congruence, table_classes}
use Rattle.minimality.proofs.Saturation.{MarksOutcomes}
use Rattle.scratch.specs.Bytes.{UnchangedOutside}
use Rattle.scratch.specs.Map.{laid_marks_base, laid_end, marks_from}
use Rattle.scratch.specs.Rows.{RowsFilled}
use Rattle.scratch.proofs.Unchanged.{unchanged_wider}
use Rattle.word_steps.specs.Records.{word_at, RecordsKept}
use Rattle.word_steps.specs.Search.{Search}
use Rattle.word_steps.proofs.Words.{word_is}
use Rattle.word_steps.proofs.Searching.{search_rooted, search_kept, word_kept}
use Rattle.word_table.specs.Laying.{laid_rule}
use Rattle.word_table.proofs.Tables.{search_needs, search_some, search_table, search_lawful, search_numbered}
use Rattle.word_rule.specs.Writing.{WordsNeeds, WordsWritten}
use Rattle.until_step.specs.Bytes.{pair_at, class_at}
use Rattle.until_marks.specs.Marks.{low_at, high_at, until_grade, ClassesSmall}
use Rattle.until_list.specs.Listing.{pairs_table, Listing}
use Rattle.until_list.specs.Following.{ListAnswer, UntilListed}
use Rattle.until_rule.specs.Writing.{UntilNeeds, UntilRuleWritten, UntilWritten}

-- ---- of one table

module _ {m : Morphism} {first second : ℕ → ℕ → ℕ} {b classes : List ℕ} {count : ℕ} (l : Listing m first second b classes count count m.letters) where
  over : (j : ℕ) → j < count → Over m.letters (word_at b (suc j))
  over j h = (word_is (search_rooted l.search) l.search.letters j h).over

  pair_inside : (j : ℕ) → j < count → pair_at b j < m.size
  pair_inside j h = inside_of l.tables.lawful (over j h) (l.held j h).its_value

  -- a clamp is a byte of two grades
  clamp_small : (j t z : ℕ) → j < count → t < m.size → z < m.size → class_at classes j t z < 16
  clamp_small j t z h ht hz =
      let small = through_small m first second l.tables.lawful l.tables.second_small (over j h) ht hz (let a : 3 ≤ 3 = omega arith in a) in
      omega (arith, (l.held j h).its_high t z ht hz)

  pub classes_small : ClassesSmall count b classes
  classes_small = record {
    few = l.search.few;
    pairs = λ j h. let p = pair_inside j h in let q = l.tables.few_pairs in omega arith;
    clamps = λ j e hj he. clamp_small j (pair_at b e) (pair_at b e) hj (pair_inside e he) (pair_inside e he);
    room = l.room;
    classes_room = l.classes_room;
  }

  module _ {d : List ℕ} (g : RowsFilled (λ s e byte. byte ≡ until_grade b classes s e) laid_marks_base 64 count count b d) where
    grades_kept : UnchangedOutside laid_marks_base laid_end b d
    grades_kept = unchanged_wider (omega arith) (omega (arith, l.search.few)) g.kept

    kept : RecordsKept b d
    kept = record { same = λ i h t. grades_kept.before i (omega arith) }

    there : Search (SameUntilClass m first second) m.letters d count count m.letters
    there = search_kept l.search (omega arith) kept

    pub words_place : {out : List ℕ} → 1 ≤ m.letters → 16404 ≤ length out → WordsNeeds count m.letters d out
    words_place some room = record {
      table = search_needs there (rw grades_kept.same_length l.room);
      some = search_some there some;
      letters_some = some;
      letters_small = l.search.few_letters;
      out_room = room;
    }

    module _ {exit before after : List ℕ} {end : ℕ} (w : WordsWritten count m.letters d exit before after end) where
      done : Search (SameUntilClass m first second) m.letters exit count count m.letters
      done = search_kept there (omega arith) w.records

      words : (i : ℕ) → i ≤ count → word_at exit i ≡ word_at b i
      words i h = word_kept there (omega arith) w.records i h ∙ word_kept l.search (omega arith) kept i h

      congruence : Congruence m.letters (SameUntilClass m first second)
      congruence = class_congruence l.tables.lawful l.tables.second_small

      all_classes : UntilClassesOf m first second (laid_rule exit count m.letters) (pair_at b) (low_at classes) (high_at classes)
      all_classes =
          table_classes l.tables.lawful l.tables.second_small refl (search_table done w.products congruence)
          (λ j h. subst (λ (v : List ℕ). UntilClassOf m first second v (pair_at b j) (low_at classes j) (high_at classes j)) (sym (words (suc j) (omega arith))) (l.held j h))

      marked : MarksOutcomes (laid_rule exit count m.letters) (until_outcome (pair_at b) (low_at classes) (high_at classes)) (marks_from exit laid_marks_base)
      unfolding marks_from until_grade
      marked = record {
        of_linked = λ s e k. w.marked.of_linked s e k ∙ g.filled s e k.inside k.idempotent.inside;
        of_others = w.marked.of_others;
      }

      pub rule_written : 1 ≤ m.letters → UntilRuleWritten m first second before after end
      rule_written some = record {
        table = laid_rule exit count m.letters;
        marks = marks_from exit laid_marks_base;
        pair = pair_at b;
        low = low_at classes;
        high = high_at classes;
        lawful = search_lawful done w.products congruence;
        classes = all_classes;
        numbered = search_numbered done w.products congruence;
        marked = marked;
        some = search_some there some;
        few = l.search.few;
        written = w.written;
      }

-- ---- whatever the table

module _ {np k : ℕ} {entry b classes classes' out : List ℕ} {answer : Option ℕ} (n : UntilNeeds np k entry classes out) (l : UntilListed np k entry b classes classes' answer) where
  pub until_full : answer ≡ None → UntilWritten np k entry b classes classes' out out None
  until_full e = record {
    same_length = l.same_length;
    classes_length = l.classes_length;
    says = λ product image first second s.
        record { more = subst (ListAnswer (pairs_table np k product image) first second b classes') e (l.says product image first second s); kept = refl };
  }

  module _ {count : ℕ} (e : answer ≡ Some count) where
    listing : (product : ℕ → ℕ → ℕ) (image : ℕ → ℕ) (first second : ℕ → ℕ → ℕ) → Listing (pairs_table np k product image) first second entry classes 0 0 0
        → Listing (pairs_table np k product image) first second b classes' count count k
    listing product image first second s = subst (ListAnswer (pairs_table np k product image) first second b classes') e (l.says product image first second s)

    own : Listing (pairs_table np k n.ready.product n.ready.image) n.ready.first n.ready.second b classes' count count k
    own = listing n.ready.product n.ready.image n.ready.first n.ready.second n.ready.listing

    pub marks_place : ClassesSmall count b classes'
    marks_place = classes_small own

    module _ {d : List ℕ} (g : RowsFilled (λ s z byte. byte ≡ until_grade b classes' s z) laid_marks_base 64 count count b d) where
      pub write_place : WordsNeeds count k d out
      write_place = words_place own g n.letters_some n.out_room

      pub until_written : {exit after : List ℕ} {end : ℕ} → WordsWritten count k d exit out after end → UntilWritten np k entry exit classes classes' out after (Some end)
      until_written w = record {
        same_length = w.same_length ∙ g.kept.same_length ∙ l.same_length;
        classes_length = l.classes_length;
        says = λ product image first second s. rule_written (listing product image first second s) g w n.letters_some;
      }
