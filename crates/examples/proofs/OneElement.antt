-- The reduction of a rule that grades every lasso 3, as bytes: every reduction of it has one element, with its pair marked with 3, and so
-- is written as the same file. Assumes nothing.
use Prim.Native.Nat.{ℕ, zero, suc, ◌<◌}
use native.Mathlib.Omega.{arith}
use mathlib.Core.Path.{◌≡◌, refl, sym, subst, ap}
use mathlib.Core.List.{List, [], ◌∷◌}
use Rattle.finite.proofs.FirstWords.{Sooner, sooner_parent, sooner_letter}
use Rattle.finite.proofs.Discovery.{Discovery}
use Rattle.theory.specs.Words.{Lasso, over_nil, over_cons}
use Rattle.theory.specs.Rules.{Morphism, Marking, Rule, level, element, join, value, WordOf, AllReached}
use Rattle.theory.specs.Pairs.{Linked, LinkedOnly}
use Rattle.theory.specs.Grades.{LassosGraded}
use Rattle.theory.specs.Smallest.{Reduction}
use Rattle.theory.proofs.Gradings.{graded_same, one_lassos_grade}
use Rattle.theory.proofs.EveryLasso.{GradesEvery, one, one_lawful}
use Rattle.theory.proofs.SmallReductions.{one_marks, every_reduction}
use Rattle.rule_reach.specs.Reach.{word_step}
use Rattle.formats.specs.FirstWords.{ByFirstWords}
use Rattle.rule_first_words.proofs.Ordered.{entry, found_by_first_words}
use Rattle.formats.specs.WrittenFile.{file_of}
use Rattle.formats.specs.ReadBack.{WrittenRule}
use Rattle.formats.proofs.Agree.{Agree}
use Rattle.formats.proofs.Same.{SameMarks, file_same}
use Rattle.formats.proofs.ReadBack.{written_rule}
use Rattle.formats.specs.Front.{AtFront}
use Rattle.theory.proofs.SameGrades.{same_self, reductions_size}

-- every pair is marked with 3
abbrev pub all_marked : Marking
all_marked s e = 3

module _ (r : Rule) (some : 0 < r.morphism.letters) (every : GradesEvery r.morphism r.marks) (reduced : Rule) (red : Reduction r reduced) where
  abbrev m : Morphism
  m = reduced.morphism

  one_size : m.size ≡ 1
  one_size = reductions_size (same_self r) red (every_reduction r some every)

  -- so its table is all zeros
  product_zero : (a b : ℕ) → a < 1 → b < 1 → m.product a b ≡ 0
  product_zero a b ha hb = omega (arith, one_size, reduced.lawful.closed a b (omega (arith, one_size)) (omega (arith, one_size)))

  image_zero : (a : ℕ) → a < r.morphism.letters → m.image a ≡ 0
  image_zero a h = omega (arith, one_size, reduced.lawful.images a (omega (arith, red.same.same_letters)))

  agree : Agree (one r.morphism.letters) m
  agree = record {
    same_size = one_size;
    same_letters = sym red.same.same_letters;
    same_product = product_zero;
    same_image = image_zero;
  }

  word_zero : (s : ℕ) → s < 1 → WordOf m s
  unfolding value join
  word_zero s h = record {
    word = 0 ∷ [];
    over = over_cons {a = 0} (omega (arith, red.same.same_letters)) over_nil;
    its_value = ap element (let e : m.image 0 ≡ s = omega (arith, image_zero 0 some) in e);
  }

  -- its one pair is linked
  pair_linked : (s e : ℕ) → s < 1 → e < 1 → Linked m s e
  pair_linked s e hs he = record {
    inside = omega (arith, one_size);
    idempotent = record { inside = omega (arith, one_size); square = omega (arith, product_zero e e he he) };
    stays = omega (arith, product_zero s e hs he);
  }

  -- and its lassos have the grade 3, as all have
  pair_graded : (s e : ℕ) → s < 1 → e < 1 → LassosGraded m reduced.marks (element s) e 3
  pair_graded s e hs he = record {
    start = word_zero s hs;
    cycle = word_zero e he;
    graded = λ u v l eu ev.
        (let l' = subst (λ k. Lasso k u v) (sym red.same.same_letters) l in
        graded_same (λ g some. red.same.both_or_neither g some u v l') (every.graded u v l'));
  }

  same_marks : SameMarks 1 all_marked reduced.marks
  same_marks = record {
    same = λ s e hs he. one_lassos_grade (red.marks.of_linked s e (pair_linked s e hs he)).lassos (pair_graded s e hs he);
  }

  -- so it is written as the rule of one element is
  pub one_file : file_of m reduced.marks ≡ file_of (one r.morphism.letters) all_marked
  one_file = file_same agree same_marks

-- nothing is found sooner than from the first entry by the first letter
pub sooner_none : {q y : ℕ} → Sooner q y 0 0 → ⊥
sooner_none (sooner_parent h) = omega arith
sooner_none (sooner_letter e h) = omega arith

-- the rule of one element as a file
module _ (k : ℕ) (some : 0 < k) (few : k < 17) where
  zero_linked : (s e : ℕ) → s < 1 → e < 1 → Linked (one k) s e
  zero_linked s e hs he = record { inside = hs; idempotent = record { inside = he; square = omega arith }; stays = omega arith }

  one_reached : AllReached (one k)
  one_reached = record { word_of = λ s h. ((one_marks k some).of_linked s s (zero_linked s s h h)).lassos.start }

  one_linked : LinkedOnly (one k) (level 1 all_marked)
  one_linked = record { linked = λ s e hs he t. zero_linked s e hs he }

  pub one_written : {before after : List ℕ} {r : ℕ} → AtFront (file_of (one k) all_marked) before after r → WrittenRule (one k) all_marked before after r
  one_written =
      written_rule (one k) all_marked
      (record { some = omega arith; small = omega arith; letters_some = omega arith; letters_small = omega arith })
      (record { grades = λ s e hs he. omega arith }) (one_lawful k) one_linked one_reached

  -- it is numbered by first words
  unfoldable only_zero : (j : ℕ) → 0 < j → j < 2 → Discovery (word_step (one k)) k entry j
  unfolding entry word_step join
  only_zero zero h l = absurd (omega arith)
  only_zero (suc zero) h l = record {
    parent = 0;
    letter = 0;
    found = record { parent_lt = omega arith; letter_lt = some; step = refl; sooner = λ q y s b. absurd (sooner_none s) };
  }
  only_zero (suc (suc j)) h l = absurd (omega arith)

  pub one_by_first_words : ByFirstWords (one k)
  one_by_first_words = found_by_first_words (one_lawful k) only_zero
