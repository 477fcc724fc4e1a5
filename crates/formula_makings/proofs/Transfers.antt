-- Tables of pairs and of classes over rules that bytes read back as are such over the rules that the bytes mean. Assumes nothing.
use Prim.Native.Nat.{ℕ, ◌<◌}
use mathlib.Core.Path.{◌≡◌, refl, sym, ◌∙◌, subst}
use mathlib.Core.List.{List}
use Rattle.theory.specs.Words.{Over, over_nil, over_cons}
use Rattle.theory.specs.Rules.{Morphism, Marking, Lawful}
use Rattle.theory.specs.Combined.{PairWord, PairsOf, MorePairs}
use Rattle.theory.proofs.Combined.{left_inside, right_inside}
use Rattle.theory.proofs.Gradings.{graded_same}
use Rattle.temporal.specs.Nexts.{behind_first, SameNextClass, MoreNextClasses}
use Rattle.temporal.specs.Clamps.{Decides, MoreUntilClasses}
use Rattle.formats.specs.RuleFile.{morphism_of, marking_of}
use Rattle.formats.specs.ReadBack.{ReadsBack}
use Rattle.formats.proofs.Agree.{Agree, agree_value}
use Rattle.formats.proofs.ReadBack.{reads_agree}
use Rattle.formats.proofs.ReadRules.{reads_at_least}
use Rattle.temporal_promises.specs.Until.{PairGrades, FilesGrades, TooManyUntilAt}

over_behind : {k : ℕ} {w : List ℕ} → Over k w → Over k (behind_first w)
over_behind over_nil = over_nil
over_behind (over_cons h o) = o

-- one rule
module _ {m : Morphism} {marks : Marking} {file : List ℕ} (law : Lawful m) (r : ReadsBack m marks file) where
  abbrev agree : Agree m (morphism_of file)
  agree = reads_agree r

  over_file : {w : List ℕ} → Over m.letters w → Over (morphism_of file).letters w
  over_file {w} o = subst (λ (n : ℕ). Over n w) (sym agree.same_letters) o

  next_back : {w x : List ℕ} → Over m.letters w → Over m.letters x → SameNextClass (morphism_of file) w x → SameNextClass m w x
  next_back o p s = record {
    same_tail = sym (agree_value agree law (over_behind o)) ∙ s.same_tail ∙ agree_value agree law (over_behind p);
    same_value = sym (agree_value agree law o) ∙ s.same_value ∙ agree_value agree law p;
  }

  pub more_next_read : {n : ℕ} → MoreNextClasses m n → MoreNextClasses (morphism_of file) n
  more_next_read a = record {
    word = a.word;
    over = λ i h. over_file (a.over i h);
    some = a.some;
    apart = λ i j hi hj s. a.apart i j hi hj (next_back (a.over i hi) (a.over j hj) s);
  }

  decides_read : {table : Morphism} {grade : ℕ → ℕ → ℕ} → Decides table m marks grade → Decides table (morphism_of file) (marking_of file) grade
  decides_read d = record {
    same_letters = d.same_letters ∙ sym agree.same_letters;
    small = d.small;
    graded = λ u v t z l eu ev. graded_same (λ g some. reads_at_least law r g u v) (d.graded u v t z l eu ev);
  }

-- two
module _ {m₁ m₂ : Morphism} {marks₁ marks₂ : Marking} {first second : List ℕ} (law₁ : Lawful m₁) (law₂ : Lawful m₂) (r₁ : ReadsBack m₁ marks₁ first) (r₂ : ReadsBack m₂ marks₂ second)
    (letters : m₁.letters ≡ m₂.letters) where
  word_read : {s t : ℕ} → PairWord m₁ m₂ s t → PairWord (morphism_of first) (morphism_of second) s t
  word_read p = record {
    word = p.word;
    over = over_file law₁ r₁ p.over;
    first_value = agree_value (reads_agree r₁) law₁ p.over ∙ p.first_value;
    second_value = agree_value (reads_agree r₂) law₂ (subst (λ (n : ℕ). Over n p.word) letters p.over) ∙ p.second_value;
  }

  pub more_pairs_read : {n : ℕ} → MorePairs m₁ m₂ n → MorePairs (morphism_of first) (morphism_of second) n
  more_pairs_read a = record { left = a.left; right = a.right; some_word = λ i h. word_read (a.some_word i h); apart = a.apart }

  pairs_read : {table : Morphism} {left right : ℕ → ℕ} → PairsOf m₁ m₂ table left right → PairsOf (morphism_of first) (morphism_of second) table left right
  pairs_read {left = left} {right} p =
      let a = reads_agree r₁ in
      let b = reads_agree r₂ in
      record {
        first_letters = p.first_letters ∙ sym a.same_letters;
        second_letters = p.second_letters ∙ sym b.same_letters;
        first = record {
          products = λ s t hs ht. p.first.products s t hs ht ∙ sym (a.same_product (left s) (left t) (left_inside p law₁ s hs) (left_inside p law₁ t ht));
          images = λ x h. p.first.images x h ∙ sym (a.same_image x (subst (λ (n : ℕ). x < n) p.first_letters h));
        };
        second = record {
          products = λ s t hs ht. p.second.products s t hs ht ∙ sym (b.same_product (right s) (right t) (right_inside p law₂ s hs) (right_inside p law₂ t ht));
          images = λ x h. p.second.images x h ∙ sym (b.same_image x (subst (λ (n : ℕ). x < n) p.second_letters h));
        };
        apart = p.apart;
        some_word = λ s h. word_read (p.some_word s h);
      }

  -- the same table, with the same grades
  grades_read : PairGrades m₁ marks₁ m₂ marks₂ → FilesGrades first second
  grades_read o = record {
    table = o.table;
    lawful = o.lawful;
    left = o.left;
    right = o.right;
    pairs = pairs_read o.pairs;
    first_grade = o.first_grade;
    second_grade = o.second_grade;
    first_decides = decides_read law₁ r₁ o.first_decides;
    second_decides = decides_read law₂ r₂ o.second_decides;
  }

  pub many_until_read : (o : PairGrades m₁ marks₁ m₂ marks₂) → MoreUntilClasses o.table o.first_grade o.second_grade 64 → TooManyUntilAt first second 0
  unfolding grades_read
  many_until_read o more = record { over = grades_read o; more = more; is_place = refl }
