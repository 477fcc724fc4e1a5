-- Which elements are values of words, found by a search over values that puts a letter in front of a word: a test that
-- computes, and a word of no more letters than there are elements for each element that has one. Assumes nothing.
use Prim.Native.Nat.{ℕ, ◌+◌, ◌≤◌, ◌<◌}
use mathlib.Core.Path.{◌≡◌, refl, sym, ap, ◌∙◌, subst}
use mathlib.Core.Bool.{Bool, not}
use mathlib.Core.Logic.{◌⊎◌, inl, inr, ◌↔◌, ⊎_elim, by_cases}
use mathlib.Core.List.Memᴰ
use mathlib.Core.List.{List, [], ◌∷◌, Memᴰ}
use native.Mathlib.Omega.{arith}
use lib.ListN.{length}
use lib.Dec.{T}
use Rattle.finite.proofs.Tests.{T_dec, T_not, not_T}
use Rattle.finite.proofs.Search.{least_below, least_holds, least_first, First}
use Rattle.finite.proofs.Numbers.{le_or_lt}
use Rattle.finite.proofs.Worklist.{Reached, begin, onward, Reachable, Coding}
use Rattle.finite.proofs.Explore.{explore}
use Rattle.finite.proofs.Explored.{NextIn}
use Rattle.theory.specs.Words.{Over, over_nil, over_cons}
use Rattle.theory.specs.Rules.{Morphism, Lawful, Value, none, element, join, value, WordOf, AllReached}
use Rattle.theory.proofs.Values.{Inside, value_inside}
use Rattle.theory.proofs.Codes.{same_value, value_equality, value_code, value_coded, value_code_below, value_at_code}
use Rattle.theory.proofs.Searches.{some_in, Hit, hit_elim, hit_intro, coding_of}

-- a word of the element with no more letters than there are elements
pub record ShortWord (m : Morphism) (s : ℕ) : Type 0 where
  pub word : List ℕ
  pub over : Over m.letters word
  pub its_value : value m word ≡ element s
  pub short : length word ≤ m.size

-- the value of a word with the letter a put in front, from the word's value
unfoldable pub word_next : Morphism → ℕ → Value → List Value
word_next m a x = join m (element (m.image a)) x ∷ []

-- the values of all words
unfoldable pub reached_values : Morphism → List Value
reached_values m = explore same_value (none ∷ []) (word_next m) m.letters (m.size + 1)

-- the element is among them
unfoldable pub reached_test : Morphism → ℕ → Bool
reached_test m s = some_in (same_value (element s)) (reached_values m)

-- the least element that is not, the size where all are
unfoldable pub unreached : Morphism → ℕ
unreached m =
    let values = reached_values m in
    least_below m.size (λ s. not (some_in (same_value (element s)) values))

-- the search's starts and steps: the empty word, and one letter more
abbrev Start : Value → Type 0
Start y = Memᴰ y (none ∷ [])

abbrev Step : Morphism → ℕ → Value → Value → Type 0
Step m = NextIn (word_next m) m.letters

-- the letters by which a value is reached spell a word with that value, and every word is spelled so
module _ (m : Morphism) where
  spells_over : {w : List ℕ} {x : Value} → Reached Start (Step m) w x → Over m.letters w
  spells_over (begin s) = over_nil
  spells_over (onward a r s) = over_cons s.letter (spells_over r)

  spells_value : {w : List ℕ} {x : Value} → Reached Start (Step m) w x → value m w ≡ x
  unfolding value word_next
  spells_value (begin s) = sym (Memᴰ.eq_of_singleton s)
  spells_value (onward a r s) =
      ap (join m (element (m.image a))) (spells_value r) ∙ sym (Memᴰ.eq_of_singleton s.member)

  over_spells : {w : List ℕ} → Over m.letters w → Reached Start (Step m) w (value m w)
  unfolding value word_next
  over_spells over_nil = begin (Memᴰ.head refl)
  over_spells (over_cons {a} h o) = onward a (over_spells o) (record { letter = h; member = Memᴰ.head refl })

module _ {m : Morphism} (law : Lawful m) where
  reachable_inside : {x : Value} → Reachable Start (Step m) x → Inside m x
  reachable_inside r = subst (Inside m) (spells_value m r.reached) (value_inside law (spells_over m r.reached))

  coding : Coding Start (Step m) (value_code m.size) (m.size + 1)
  coding = coding_of (value_coded m.size) (λ x r. value_code_below (reachable_inside r)) (λ x r. value_at_code (reachable_inside r))

  -- an element that passes has a short word
  pub reached_elim : (s : ℕ) → T (reached_test m s) → ShortWord m s
  unfolding reached_test reached_values
  reached_elim s t = go (hit_elim value_equality coding (m.size + 1) (omega arith) (same_value (element s)) t)
    where
      go : Hit Start (Step m) (same_value (element s)) (m.size + 1) → ShortWord m s
      go f = record {
        word = f.word;
        over = spells_over m f.reached;
        its_value = spells_value m f.reached ∙ sym (value_equality.sound (element s) f.state f.passes);
        short = omega (arith, f.short);
      }

  -- an element that is a word's value passes
  pub reached_intro : {s : ℕ} → WordOf m s → T (reached_test m s)
  unfolding reached_test reached_values
  reached_intro {s} w =
      hit_intro value_equality coding (m.size + 1) (omega arith) (same_value (element s)) (over_spells m w.over)
      (value_equality.complete (element s) (value m w.word) (sym w.its_value))

  -- an element that is a word's value is the value of a short word
  pub short_word : {s : ℕ} → WordOf m s → ShortWord m s
  short_word {s} w = reached_elim s (reached_intro w)

  -- the test says which elements are words' values
  pub reached_iff : (s : ℕ) → T (reached_test m s) ↔ WordOf m s
  reached_iff s = (λ t. word (reached_elim s t), reached_intro)
    where
      word : ShortWord m s → WordOf m s
      word w = record { word = w.word; over = w.over; its_value = w.its_value }

  pub word_of_dec : (s : ℕ) → Dec (WordOf m s)
  word_of_dec s = ⊎_elim (λ t. yes ((reached_iff s).0 t)) (λ f. no (λ w. f (reached_intro w))) (T_dec (reached_test m s))

  -- no word has this element for its value
  pub unreached_holds : unreached m < m.size → ¬ WordOf m (unreached m)
  unfolding unreached reached_test
  unreached_holds h w = not_T (reached_test m (unreached m)) (least_holds m.size (λ s. not (reached_test m s)) h) (reached_intro w)

  -- and every element before it is some word's value
  pub unreached_first : (s : ℕ) → s < unreached m → WordOf m s
  unfolding unreached reached_test
  unreached_first s h =
      by_cases (word_of_dec s) (λ w. w)
      (λ f. absurd (least_first m.size (λ s. not (reached_test m s)) s h (T_not (reached_test m s) (λ t. f ((reached_iff s).0 t)))))

  -- the least element that is no word's value, or every element is one
  pub unreached_or_all : First m.size (λ s. ¬ WordOf m s) ⊎ AllReached m
  unreached_or_all =
      ⊎_elim (λ h. inr (record { word_of = λ s l. unreached_first s (omega arith) }))
      (λ h. inl (record { at = unreached m; below = h; holds = unreached_holds h; first = λ j l f. f (unreached_first j l) }))
      (le_or_lt m.size (unreached m))
