-- The rules in which the value of a word is the element of its first letter: each product is its left factor. Where each element is some letter's, and elements
-- have different grades, such a rule gives each lasso the grade of its first letter's element, and is the smallest that does. Assumes nothing.
use Prim.Native.Nat.{ℕ, ◌≤◌, ◌<◌}
use native.Mathlib.Omega.{arith}
use mathlib.Core.Path.{◌≡◌, refl, sym, ap, ap₂, subst, ◌∙◌}
use mathlib.Core.Logic.{◌↔◌, inl, inr, ⊎_elim}
use mathlib.Core.List.{List, [], ◌∷◌}
use native.Mathlib.Nat.{eq-or-lt_of_le, mod-eq_of_lt}
use lib.ListN.{length, get_or}
use borrow.Author.Tests.{lt-ltb}
use Rattle.finite.specs.Shortlex.{shorter, smaller, here, NotAfter}
use Rattle.theory.specs.Words.{Over, over_nil, over_cons, Lasso, endless}
use Rattle.theory.specs.Rules.{Morphism, Lawful, Marking, Rule, Value, none, element, join, value, AllReached}
use Rattle.theory.specs.Pairs.{Linked}
use Rattle.theory.specs.Grades.{AtLeast}
use Rattle.theory.specs.Smallest.{Smallest}
use Rattle.theory.proofs.Values.{inside_none, element_same, element_apart}
use Rattle.theory.proofs.Starts.{first_value}
use Rattle.minimality.proofs.Contexts.{around, ahead, after}
use Rattle.minimality.proofs.Smallest.{value_outcome, outcome, Syntactic}
use Rattle.minimality.proofs.Saturation.{DependsOnWord, MarksOutcomes, Saturates, marks_saturate}
use Rattle.minimality.proofs.Reductions.{syntactic_smallest}
use Rattle.formats.specs.FirstWords.{FirstWordOf, ByFirstWords}

-- n elements, the element of each of k letters
abbrev pub first_table : ℕ → ℕ → (ℕ → ℕ) → Morphism
first_table n k image = record { size = n; letters = k; product = λ a b. a; image = image }

-- each pair is marked with the grade of its start
abbrev pub first_marks : (ℕ → ℕ) → Marking
first_marks grade s e = grade s

-- the element of each letter is there, each element is some letter's, the first letters of the elements stand in the order of the elements, and different elements
-- have different grades
pub record FirstElements (n k : ℕ) (image grade : ℕ → ℕ) : Type 0 where
  pub inside : (x : ℕ) → x < k → image x < n
  pub first : ℕ → ℕ
  pub is_letter : (s : ℕ) → s < n → first s < k
  pub its_element : (s : ℕ) → s < n → image (first s) ≡ s
  pub least : (s x : ℕ) → s < n → x < k → image x ≡ s → first s ≤ x
  pub increasing : (s t : ℕ) → s < t → t < n → first s < first t
  pub apart : (s t : ℕ) → s < n → t < n → grade s ≡ grade t → s ≡ t

-- the empty word has no element
no_letters : (m : Morphism) {s : ℕ} → value m [] ≡ element s → ⊥
unfolding value
no_letters m e = element_apart (sym e)

-- the first letter of a lasso is that of its start, or of its cycle where the start is empty
cycle_first : (y : ℕ) (v : List ℕ) → endless [] (y ∷ v) 0 ≡ y
unfolding endless
cycle_first y v = ap (λ (i : ℕ). get_or (y ∷ v) i 0) (mod-eq_of_lt (let h : 0 < length (y ∷ v) = omega arith in h))

start_first : (x : ℕ) (u v : List ℕ) → endless (x ∷ u) v 0 ≡ x
unfolding endless
start_first x u v = simp (lt-ltb 0 (length (x ∷ u)) (omega arith))

-- and is one of the letters
pub first_small : {k : ℕ} (u v : List ℕ) → Lasso k u v → endless u v 0 < k
first_small {k} u v l = go u v l.start_over l.cycle_over l.cycle_some
  where
    go : (u v : List ℕ) → Over k u → Over k v → 0 < length v → endless u v 0 < k
    go [] [] o p h = absurd (omega arith)
    go [] (y ∷ v) o (over_cons l p) h = rw (cycle_first y v) l
    go (x ∷ u) v (over_cons l o) p h = rw (start_first x u v) l

module _ {n k : ℕ} {image grade : ℕ → ℕ} (f : FirstElements n k image grade) where
  abbrev m : Morphism
  m = first_table n k image

  abbrev acc : ℕ → ℕ → ℕ
  acc s e = grade s

  pub first_lawful : Lawful (first_table n k image)
  first_lawful = record { closed = λ a b ha hb. ha; associative = λ a b c ha hb hc. refl; images = f.inside }

  -- the value of a word is the element of its first letter
  value_first : (x : ℕ) (w : List ℕ) → value m (x ∷ w) ≡ element (image x)
  unfolding value join
  value_first x w = go (value m w)
    where
      go : (v : Value) → join m (element (image x)) v ≡ element (image x)
      go none = refl
      go (element t) = refl

  pub first_reached : AllReached (first_table n k image)
  first_reached = record {
    word_of = λ s h. record {
      word = f.first s ∷ [];
      over = over_cons (f.is_letter s h) over_nil;
      its_value = value_first (f.first s) [] ∙ ap element (f.its_element s h);
    };
  }

  -- so the outcome of a lasso is the grade of that element
  outcome_first : (u v : List ℕ) → Lasso k u v → outcome m acc u v ≡ grade (image (endless u v 0))
  unfolding outcome value_outcome first_value value
  outcome_first [] [] l = absurd (omega (arith, l.cycle_some))
  outcome_first [] (y ∷ v) l = ap₂ (value_outcome acc) (value_first y v) (value_first y v) ∙ ap (λ (x : ℕ). grade (image x)) (sym (cycle_first y v))
  outcome_first (x ∷ u) [] l = absurd (omega (arith, l.cycle_some))
  outcome_first (x ∷ u) (y ∷ v) l = ap₂ (λ a b. value_outcome acc (first_value a b) b) (value_first x u) (value_first y v) ∙ ap (λ (z : ℕ). grade (image z)) (sym (start_first x u (y ∷ v)))

  depends : DependsOnWord m acc
  depends = record { same_outcome = λ u v u' v' l l' same. outcome_first u v l ∙ ap (λ (x : ℕ). grade (image x)) (same 0) ∙ sym (outcome_first u' v' l') }

  linked : (s e : ℕ) → s < n → e < n → Linked m s e
  linked s e hs he = record { inside = hs; idempotent = record { inside = he; square = refl }; stays = refl }

  by_outcomes : MarksOutcomes m acc (first_marks grade)
  by_outcomes = record { of_linked = λ s e l. refl; of_others = λ s e hs he g. absurd (g (linked s e hs he)) }

  pub first_saturates : Saturates (first_table n k image) (λ s e. grade s) (first_marks grade)
  first_saturates = marks_saturate first_lawful first_reached depends by_outcomes

  abbrev pub first_rule : Rule
  first_rule = record { morphism = first_table n k image; lawful = first_lawful; marks = first_marks grade }

  told_apart : Syntactic m acc
  unfolding around ahead after
  told_apart = record { told_apart = λ s t hs ht d. f.apart s t hs ht ((d.in_context none none inside_none inside_none).as_start s hs) }

  pub first_smallest : Smallest first_rule
  first_smallest = syntactic_smallest first_rule first_reached first_saturates.strong first_saturates.accepts told_apart

  -- a lasso has a least grade exactly if that of its first letter's element is that or more
  pub first_grades : (h : ℕ) → 1 ≤ h → (u v : List ℕ) → Lasso k u v → AtLeast (first_table n k image) (first_marks grade) h u v ↔ (h ≤ grade (image (endless u v 0)))
  first_grades h some u v l =
      let a = first_saturates.accepts h some u v l in
      let e = outcome_first u v l in
      (λ x. subst (λ (i : ℕ). h ≤ i) e (a.0 x), λ x. a.1 (subst (λ (i : ℕ). h ≤ i) (sym e) x))

  -- the first word of an element is its first letter
  not_after : (s x : ℕ) (w : List ℕ) → f.first s ≤ x → NotAfter (f.first s ∷ []) (x ∷ w)
  not_after s x [] h = ⊎_elim (λ e. inl (ap (λ (y : ℕ). y ∷ []) e)) (λ l. inr (smaller (here l refl))) (eq-or-lt_of_le h)
  not_after s x (y ∷ w) h = inr (shorter (omega arith))

  first_word_lem : (s : ℕ) → s < n → FirstWordOf m s (f.first s ∷ [])
  first_word_lem s h = record {
    over = over_cons (f.is_letter s h) over_nil;
    its_value = value_first (f.first s) [] ∙ ap element (f.its_element s h);
    least = go;
  }
    where
      go : (v : List ℕ) → Over k v → value m v ≡ element s → NotAfter (f.first s ∷ []) v
      go [] o e = absurd (no_letters m e)
      go (x ∷ w) (over_cons l o) e = not_after s x w (f.least s x h l (element_same (sym (value_first x w) ∙ e)))

  pub first_numbered : ByFirstWords (first_table n k image)
  first_numbered = record { word = λ s. f.first s ∷ []; first = first_word_lem; increasing = λ s t h l. smaller (here (f.increasing s t h l) refl) }
