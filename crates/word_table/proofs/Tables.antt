-- The table of a search that came to its end: the classes are its elements, each word has the class of its value for its value, and they stand in the order of
-- their first words. Assumes nothing.
use Prim.Native.Nat.{ℕ, zero, suc, ◌+◌, ◌≤◌, ◌<◌}
use mathlib.Core.Path.{◌≡◌, refl, sym, ap, subst, ◌∙◌}
use mathlib.Core.List.{List, [], ◌∷◌, ◌++◌}
use native.Mathlib.Numerals.{add-one}
use native.Mathlib.Omega.{arith}
use lib.ListN.{length}
use Rattle.finite.proofs.Numbers.{Compared, lesser, level, greater, compared_numbers}
use Rattle.finite.proofs.FirstWords.{Sooner, sooner_parent, sooner_letter}
use Rattle.finite.proofs.Discovery.{Discovery}
use Rattle.finite.proofs.Explore.{sooner_le}
use Rattle.theory.specs.Rules.{Lawful, element, join}
use Rattle.temporal.proofs.WordClasses.{Congruence, WordTable, StepTable, step_table, table_lawful, table_step}
use Rattle.formats.specs.FirstWords.{ByFirstWords}
use Rattle.formats.specs.RuleChecks.{scratch_size}
use Rattle.rule_reach.specs.Reach.{word_step}
use Rattle.rule_first_words.proofs.Ordered.{entry, found_by_first_words}
use Rattle.word_steps.specs.Records.{next_at, parent_at, letter_at, word_at}
use Rattle.word_steps.specs.Search.{StepNumber, Search}
use Rattle.word_steps.proofs.Words.{word_empty, word_is}
use Rattle.word_steps.proofs.Searching.{search_rooted}
use Rattle.word_table.specs.Laying.{step_from, laid_rule, TableNeeds, AlongWord}

module _ {R : List ℕ → List ℕ → Type 0} {k : ℕ} {scratch : List ℕ} {count : ℕ} (s : Search R k scratch count count k) where
  -- every letter was followed from every entry
  step : (q y : ℕ) → q ≤ count → y < k → StepNumber R scratch count q y
  step q y h l = s.steps q y l (go (compared_numbers q count))
    where
      go : Compared q count → Sooner q y count k
      go (lesser g) = sooner_parent g
      go (level g) = sooner_letter g l
      go (greater g) = absurd (omega arith)

  pub search_needs : scratch_size ≤ length scratch → TableNeeds scratch count
  search_needs room = record {
    few = s.few;
    room = room;
    parents = s.parents;
    letters = λ j h. omega (arith, s.letters j h, s.few_letters);
    steps = λ i j hi hj. (step (i + 1) (letter_at scratch j) (omega arith) (s.letters j hj)).below;
  }

  pub search_some : 1 ≤ k → 1 ≤ count
  search_some h = omega (arith, (step 0 0 (omega arith) h).below)

  module _ (along : (i j : ℕ) → i < count → j < count → AlongWord count scratch i j ((laid_rule scratch count k).product i j)) where
    abbrev word : ℕ → List ℕ
    word j = word_at scratch (suc j)

    pub search_steps : StepTable R (laid_rule scratch count k) (λ j. word_at scratch (suc j)) (step_from scratch)
    search_steps = record {
      images = λ x h. (step 0 x (omega arith) h).below;
      inside = λ x i hx hi. (step (i + 1) x (omega arith) hx).below;
      words = λ j h. word_is (search_rooted s) s.letters j h;
      letters = λ x h. subst (λ (w : List ℕ). R (w ++ (x ∷ [])) (word (next_at scratch 0 x))) (word_empty scratch) (step 0 x (omega arith) h).related;
      steps = λ x i hx hi.
          subst (λ (q : ℕ). R (word_at scratch q ++ (x ∷ [])) (word (next_at scratch (i + 1) x))) (add-one i) (step (i + 1) x (omega arith) hx).related;
      along = λ i j hi hj. (along i j hi hj).along;
      apart = s.apart;
    }

    module _ (c : Congruence k R) where
      pub search_table : WordTable R (laid_rule scratch count k) (λ j. word_at scratch (suc j))
      search_table = step_table c search_steps

      pub search_lawful : Lawful (laid_rule scratch count k)
      search_lawful = table_lawful c search_table

      -- where a letter leads from an entry, as a value
      entry_step : (q y : ℕ) → q ≤ count → y < k → word_step (laid_rule scratch count k) y (entry q) ≡ element (next_at scratch q y)
      unfolding entry word_step join
      entry_step zero y h l = refl
      entry_step (suc i) y h l =
          let n = step (suc i) y h l in
          ap element (table_step c search_table i y (next_at scratch (suc i) y) (omega arith) l n.below n.related)

      pub search_numbered : ByFirstWords (laid_rule scratch count k)
      unfolding entry
      search_numbered = found_by_first_words search_lawful found
        where
          found : (j : ℕ) → 0 < j → j < suc count → Discovery (word_step (laid_rule scratch count k)) k entry j
          found zero h l = absurd (omega arith)
          found (suc j) h l =
              let g : j < count = omega arith in
              let p = s.parents j g in
              record {
                parent = parent_at scratch j;
                letter = letter_at scratch j;
                found = record {
                  parent_lt = omega arith;
                  letter_lt = s.letters j g;
                  step = sym (entry_step (parent_at scratch j) (letter_at scratch j) (omega arith) (s.letters j g) ∙ ap element (s.itself j g));
                  sooner = λ q y t b.
                      let e = s.earlier j q y g b t in
                      let f = sooner_le t in
                      record { at = suc (next_at scratch q y); below = omega arith; same = sym (entry_step q y (omega arith) b) };
                };
              }
