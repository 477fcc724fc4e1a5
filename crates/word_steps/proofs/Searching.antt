-- The search goes on: a step to a class that is there, a step to a new one, the next entry; and there is no place for a class. Assumes nothing.
use Prim.Native.Nat.{ℕ, suc, ◌+◌, ◌≤◌, ◌<◌}
use native.Mathlib.Omega.{arith}
use native.Mathlib.Decide.{ℕ_discrete, dec_lt}
use mathlib.Core.Path.{◌≡◌, refl, sym, ap, ap₂, subst, ◌∙◌}
use mathlib.Core.Logic.{◌≢◌}
use mathlib.Core.List.{List, [], ◌∷◌, ◌++◌}
use Rattle.finite.proofs.FirstWords.{Sooner, sooner_parent, sooner_letter}
use Rattle.finite.proofs.Explore.{sooner_le}
use Rattle.finite.proofs.Shortlex.{over_snoc, length_snoc}
use Rattle.temporal.proofs.WordClasses.{Word, Congruence, MoreWords}
use Rattle.word_steps.specs.Records.{step_place, parent_place, letter_place, next_at, parent_at, letter_at, word_at, StepRecorded, RecordsKept}
use Rattle.word_steps.specs.Search.{StepNumber, Search}
use Rattle.word_steps.proofs.Words.{Rooted, SameSources, word_same, word_step_lem, word_over, word_is}

-- ---- the order of the steps

never_sooner : {q y : ℕ} → Sooner q y 0 0 → ⊥
never_sooner (sooner_parent h) = omega arith
never_sooner (sooner_letter e h) = omega arith

-- before the next letter: before this one, or this one
data Before (q y p x : ℕ) : Type 0 where
  sooner : Sooner q y p x → Before q y p x
  this : q ≡ p → y ≡ x → Before q y p x

before : {q y p x : ℕ} → Sooner q y p (x + 1) → Before q y p x
before (sooner_parent h) = sooner (sooner_parent h)
before {q} {y} {p} {x} (sooner_letter e h) = go (ℕ_discrete y x)
  where
    go : Dec (y ≡ x) → Before q y p x
    go (yes f) = this e f
    go (no f) = let g : y ≢ x = f in sooner (sooner_letter e (omega arith))

later_letter : {q y p x : ℕ} → Sooner q y p x → Sooner q y p (x + 1)
later_letter (sooner_parent h) = sooner_parent h
later_letter (sooner_letter e h) = sooner_letter e (omega arith)

-- before the first letter of the next entry: before the end of this one's
before_next : {q y p k : ℕ} → y < k → Sooner q y (p + 1) 0 → Sooner q y p k
before_next {q} {y} {p} {k} l (sooner_parent h) = go (ℕ_discrete q p)
  where
    go : Dec (q ≡ p) → Sooner q y p k
    go (yes e) = sooner_letter e l
    go (no f) = let g : q ≢ p = f in sooner_parent (omega arith)
before_next l (sooner_letter e h) = absurd (omega arith)

later_entry : {q y p x : ℕ} → Sooner q y p x → Sooner q y (p + 1) 0
later_entry s = sooner_parent (omega (arith, sooner_le s))

sooner_on : {q y p x p' x' : ℕ} → Sooner q y p x → Sooner p x p' x' → Sooner q y p' x'
sooner_on (sooner_parent h) t = sooner_parent (omega (arith, sooner_le t))
sooner_on (sooner_letter e h) (sooner_parent g) = sooner_parent (omega arith)
sooner_on (sooner_letter e h) (sooner_letter f g) = sooner_letter (e ∙ f) (omega arith)

-- ---- nothing found yet

pub search_start : {R : List ℕ → List ℕ → Type 0} {k : ℕ} (scratch : List ℕ) → k ≤ 16 → Search R k scratch 0 0 0
search_start scratch few = record {
  few = omega arith;
  few_letters = few;
  parents = λ j h. absurd (omega arith);
  letters = λ j h. absurd (omega arith);
  found = λ j h. absurd (omega arith);
  itself = λ j h. absurd (omega arith);
  earlier = λ j q y h l s. absurd (omega arith);
  steps = λ q y l s. absurd (never_sooner s);
  apart = λ i j hi hj r. absurd (omega arith);
}

module _ {R : List ℕ → List ℕ → Type 0} {k : ℕ} {scratch : List ℕ} {count p x : ℕ} (s : Search R k scratch count p x) where
  pub search_rooted : Rooted scratch count
  search_rooted = record { parents = s.parents }

  -- all letters of an entry were followed
  pub search_next : k ≤ x → Search R k scratch count (p + 1) 0
  search_next done = record {
    few = s.few;
    few_letters = s.few_letters;
    parents = s.parents;
    letters = s.letters;
    found = λ j h. later_entry (s.found j h);
    itself = s.itself;
    earlier = s.earlier;
    steps = λ q y l t. s.steps q y l (at_end (before_next l t));
    apart = s.apart;
  }
    where
      at_end : {q y : ℕ} → Sooner q y p k → Sooner q y p x
      at_end (sooner_parent h) = sooner_parent h
      at_end (sooner_letter e h) = sooner_letter e (omega arith)

-- the last entry's letters were followed: then those of every entry were
pub search_end_lem : {R : List ℕ → List ℕ → Type 0} {k : ℕ} {scratch : List ℕ} {count p : ℕ} → Search R k scratch count p 0 → count < p → Search R k scratch count count k
search_end_lem {k = k} {scratch} {count} s done = record {
  few = s.few;
  few_letters = s.few_letters;
  parents = s.parents;
  letters = s.letters;
  found = λ j h. sooner_parent (omega (arith, s.parents j h));
  itself = s.itself;
  earlier = s.earlier;
  steps = λ q y l t. s.steps q y l (sooner_parent (omega (arith, sooner_le t)));
  apart = s.apart;
}

-- ---- what is recorded stays

-- bytes in which count classes and the steps before (p, x) are recorded alike
record Alike (entry exit : List ℕ) (k count p x : ℕ) : Type 0 where
  sources : SameSources entry exit count
  steps : (q y : ℕ) → y < k → Sooner q y p x → next_at exit q y ≡ next_at entry q y

module _ {R : List ℕ → List ℕ → Type 0} {k : ℕ} {entry exit : List ℕ} {count p x : ℕ} (s : Search R k entry count p x) (inside : p ≤ count) (a : Alike entry exit k count p x) where
  word_alike : (i : ℕ) → i ≤ count → word_at exit i ≡ word_at entry i
  word_alike = word_same (search_rooted s) a.sources

  step_alike : (q y : ℕ) → y < k → Sooner q y p x → StepNumber R exit count q y
  step_alike q y l t =
      let n = s.steps q y l t in
      let e = a.steps q y l t in
      let b = n.below in
      record {
        below = rw e b;
        related =
            subst (λ (i : ℕ). R (word_at exit q ++ (y ∷ [])) (word_at exit (suc i))) (sym e)
            (rw (word_alike q (omega (arith, sooner_le t)), word_alike (suc (next_at entry q y)) (omega arith)) n.related);
      }

  found_alike : (j : ℕ) → j < count → Sooner (parent_at exit j) (letter_at exit j) p x
  found_alike j h = rw (a.sources.parents j h, a.sources.letters j h) (s.found j h)

  itself_alike : (j : ℕ) → j < count → next_at exit (parent_at exit j) (letter_at exit j) ≡ j
  itself_alike j h = rw (a.sources.parents j h, a.sources.letters j h) (a.steps _ _ (s.letters j h) (s.found j h) ∙ s.itself j h)

  earlier_alike : (j q y : ℕ) → j < count → y < k → Sooner q y (parent_at exit j) (letter_at exit j) → next_at exit q y < j
  earlier_alike j q y h l t =
      let t' : Sooner q y (parent_at entry j) (letter_at entry j) = rw (a.sources.parents j h, a.sources.letters j h) at t in
      rw (a.steps q y l (sooner_on t' (s.found j h))) (s.earlier j q y h l t')

  parents_alike : (j : ℕ) → j < count → parent_at exit j ≤ j
  parents_alike j h = rw (a.sources.parents j h) (s.parents j h)

  letters_alike : (j : ℕ) → j < count → letter_at exit j < k
  letters_alike j h = rw (a.sources.letters j h) (s.letters j h)

  apart_alike : (i j : ℕ) → i < count → j < count → R (word_at exit (suc i)) (word_at exit (suc j)) → i ≡ j
  apart_alike i j hi hj r = s.apart i j hi hj (rw (word_alike (suc i) (omega arith), word_alike (suc j) (omega arith)) at r)

  search_alike : Search R k exit count p x
  search_alike = record {
    few = s.few;
    few_letters = s.few_letters;
    parents = parents_alike;
    letters = letters_alike;
    found = found_alike;
    itself = itself_alike;
    earlier = earlier_alike;
    steps = step_alike;
    apart = apart_alike;
  }

-- bytes of which all that is recorded is as it was
module _ {R : List ℕ → List ℕ → Type 0} {k : ℕ} {entry exit : List ℕ} {count p x : ℕ} (s : Search R k entry count p x) (inside : p ≤ count) (kept : RecordsKept entry exit) where
  kept_alike : Alike entry exit k count p x
  kept_alike =
      let few = s.few in
      let small = s.few_letters in
      record {
        sources = record {
          parents = λ j h. kept.same (parent_place j) (omega arith) (omega arith);
          letters = λ j h. kept.same (letter_place j) (omega arith) (omega arith);
        };
        steps = λ q y l t. let b = sooner_le t in kept.same (step_place q y) (omega arith) (omega arith);
      }

  pub search_kept : Search R k exit count p x
  search_kept = search_alike s inside kept_alike

  pub word_kept : (i : ℕ) → i ≤ count → word_at exit i ≡ word_at entry i
  word_kept = word_alike s inside kept_alike

-- ---- a step

module _ {R : List ℕ → List ℕ → Type 0} {k : ℕ} {entry exit : List ℕ} {count p x number : ℕ} (s : Search R k entry count p x) (inside : p ≤ count) (letter : x < k)
    (r : StepRecorded entry exit p x number count) where
  recorded_alike : Alike entry exit k count p x
  recorded_alike =
      let few = s.few in
      let small = s.few_letters in
      record {
        sources = record {
          parents = λ j h. r.others (parent_place j) (omega arith) (omega arith) (omega arith);
          letters = λ j h. r.others (letter_place j) (omega arith) (omega arith) (omega arith);
        };
        steps = λ q y l t. let b = sooner_le t in r.others (step_place q y) (step_apart few small b l t) (omega arith) (omega arith);
      }
    where
      step_apart : {q y : ℕ} → count ≤ 64 → k ≤ 16 → q ≤ p → y < k → Sooner q y p x → step_place q y ≢ step_place p x
      step_apart few small b l (sooner_parent h) e = omega arith
      step_apart few small b l (sooner_letter g h) e = omega arith

  pub word_recorded : (i : ℕ) → i ≤ count → word_at exit i ≡ word_at entry i
  word_recorded = word_alike s inside recorded_alike

  -- to a class that is there
  pub search_known : number < count → R (word_at entry p ++ (x ∷ [])) (word_at entry (suc number)) → Search R k exit count p (x + 1)
  search_known below related =
      let old = search_alike s inside recorded_alike in
      record {
        few = old.few;
        few_letters = old.few_letters;
        parents = old.parents;
        letters = old.letters;
        found = λ j h. later_letter (old.found j h);
        itself = old.itself;
        earlier = old.earlier;
        steps = λ q y l t. go (before t) l;
        apart = old.apart;
      }
    where
      here : StepNumber R exit count p x
      here = record {
        below = rw r.step below;
        related =
            subst (λ (i : ℕ). R (word_at exit p ++ (x ∷ [])) (word_at exit (suc i))) (sym r.step)
            (rw (word_recorded p inside, word_recorded (suc number) (omega arith)) related);
      }

      go : {q y : ℕ} → Before q y p x → y < k → StepNumber R exit count q y
      go {q} {y} (sooner t) l = step_alike s inside recorded_alike q y l t
      go (this e f) l = rw (e, f) here

  -- to a new one, behind all that are there
  module _ (c : Congruence k R) (new : number ≡ count) (place : count < 64) (fresh : (i : ℕ) → i < count → R (word_at entry p ++ (x ∷ [])) (word_at entry (suc i)) → ⊥) where
    parents_new : (j : ℕ) → j < count + 1 → parent_at exit j ≤ j
    parents_new j h = go (ℕ_discrete j count)
      where
        go : Dec (j ≡ count) → parent_at exit j ≤ j
        go (yes e) = rw (e, r.parent) inside
        go (no f) = let g : j ≢ count = f in parents_alike s inside recorded_alike j (omega arith)

    rooted_new : Rooted exit (count + 1)
    rooted_new = record { parents = parents_new }

    -- the word of the new class
    pub word_new : word_at exit (suc count) ≡ word_at entry p ++ (x ∷ [])
    word_new =
        word_step_lem rooted_new count (omega arith)
        ∙ ap₂ (λ (w : List ℕ) (y : ℕ). w ++ (y ∷ [])) (ap (word_at exit) r.parent ∙ word_recorded p inside) r.letter

    pub search_new : Search R k exit (count + 1) p (x + 1)
    search_new = record {
      few = omega arith;
      few_letters = s.few_letters;
      parents = parents_new;
      letters = λ j h. split (λ j. letter_at exit j < k) j h (rw r.letter letter) (λ g. letters_alike s inside recorded_alike j g);
      found = λ j h. split (λ j. Sooner (parent_at exit j) (letter_at exit j) p (x + 1)) j h (rw (r.parent, r.letter) (sooner_letter refl (omega arith)))
          (λ g. later_letter (found_alike s inside recorded_alike j g));
      itself = λ j h. split (λ j. next_at exit (parent_at exit j) (letter_at exit j) ≡ j) j h (rw (r.parent, r.letter) (r.step ∙ new)) (λ g. itself_alike s inside recorded_alike j g);
      earlier = λ j q y h l t. split (λ j. Sooner q y (parent_at exit j) (letter_at exit j) → next_at exit q y < j) j h
          (λ t. (step_alike s inside recorded_alike q y l (rw (r.parent, r.letter) at t)).below) (λ g t. earlier_alike s inside recorded_alike j q y g l t) t;
      steps = λ q y l t. go (before t) l;
      apart = λ i j hi hj e. split (λ i. R (word_at exit (suc i)) (word_at exit (suc j)) → i ≡ j) i hi
          (λ e. split (λ j. R (word_at exit (suc count)) (word_at exit (suc j)) → count ≡ j) j hj (λ e. refl) (λ g e. absurd (other j g e)) e)
          (λ g e. split (λ j. R (word_at exit (suc i)) (word_at exit (suc j)) → i ≡ j) j hj (λ e. absurd (other i g (c.back _ _ e))) (λ g' e. apart_alike s inside recorded_alike i j g g' e) e) e;
    }
      where
        -- of the new class and of those before it
        split : (P : ℕ → Type 0) (j : ℕ) → j < count + 1 → P count → (j < count → P j) → P j
        split P j h last lower = cases (ℕ_discrete j count)
          where
            cases : Dec (j ≡ count) → P j
            cases (yes e) = subst P (sym e) last
            cases (no f) = let g : j ≢ count = f in lower (omega arith)

        other : (i : ℕ) → i < count → R (word_at exit (suc count)) (word_at exit (suc i)) → ⊥
        other i g e = fresh i g (rw (word_new, word_recorded (suc i) (omega arith)) at e)

        here : StepNumber R exit (count + 1) p x
        here = record {
          below = rw (r.step ∙ new) (omega arith);
          related =
              subst (λ (i : ℕ). R (word_at exit p ++ (x ∷ [])) (word_at exit (suc i))) (sym (r.step ∙ new))
              (rw (word_new, word_recorded p inside) (c.self (word_at entry p ++ (x ∷ []))));
        }

        go : {q y : ℕ} → Before q y p x → y < k → StepNumber R exit (count + 1) q y
        go {q} {y} (sooner t) l = let n = step_alike s inside recorded_alike q y l t in let b = n.below in record { below = omega arith; related = n.related }
        go (this e f) l = rw (e, f) here

-- ---- no place

-- the words of the classes and one that is of none of them are more than there are classes
module _ {R : List ℕ → List ℕ → Type 0} {k : ℕ} {scratch : List ℕ} {count p x : ℕ} (c : Congruence k R) (s : Search R k scratch count p x) (inside : p ≤ count) (letter : x < k)
    (fresh : (i : ℕ) → i < count → R (word_at scratch p ++ (x ∷ [])) (word_at scratch (suc i)) → ⊥) where
  -- the words with the one more
  more_at : (i : ℕ) → Dec (i < count) → List ℕ
  more_at i (yes h) = word_at scratch (suc i)
  more_at i (no f) = word_at scratch p ++ (x ∷ [])

  pub search_full : MoreWords k R count
  unfolding more_at
  search_full = record {
    word = λ i. more_at i (dec_lt i count);
    words = λ i h. word i (dec_lt i count);
    apart = λ i j hi hj e. two i j hi hj (dec_lt i count) (dec_lt j count) e;
  }
    where
      letters : Rooted scratch count
      letters = search_rooted s

      word : (i : ℕ) (d : Dec (i < count)) → Word k (more_at i d)
      word i (yes h) = word_is letters s.letters i h
      word i (no f) = record {
        over = over_snoc (word_over letters s.letters p inside) letter;
        some = omega (arith, length_snoc (word_at scratch p) x);
      }

      two : (i j : ℕ) → i ≤ count → j ≤ count → (d : Dec (i < count)) (e : Dec (j < count)) → R (more_at i d) (more_at j e) → i ≡ j
      two i j hi hj (yes a) (yes b) r = s.apart i j a b r
      two i j hi hj (yes a) (no g) r = absurd (fresh i a (c.back _ _ r))
      two i j hi hj (no f) (yes b) r = absurd (fresh j b r)
      two i j hi hj (no f) (no g) r = let f' : ¬ (i < count) = f in let g' : ¬ (j < count) = g in omega arith
