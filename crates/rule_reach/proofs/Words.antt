-- What the search of words says of the words themselves: an element with a number has a short word, the first of all words
-- with that value, and an element with none has no word; the entries stand in the order of their words; so the search finds
-- the least element that is no word's value. Assumes nothing.
use Prim.Native.Nat.{ℕ, suc, ◌+◌, ◌≤◌, ◌<◌}
use mathlib.Core.Path.{◌≡◌, sym, ◌∙◌, subst}
use mathlib.Core.Logic.{⊎_elim}
use mathlib.Core.List.{List}
use native.Mathlib.Omega.{arith}
use lib.ListN.{length, get_or}
use Rattle.finite.proofs.Numbers.{le_or_lt}
use Rattle.finite.specs.Shortlex.{Before, NotAfter}
use Rattle.finite.proofs.FirstWords.{after, first_word, FirstWord, first_word_lem, word_short, words_increase, word_entry}
use Rattle.finite.proofs.Worklist.{Entry}
use Rattle.theory.specs.Words.{Over, over_nil, over_cons}
use Rattle.theory.specs.Rules.{Morphism, Lawful, Value, none, element, join, value, WordOf, AllReached}
use Rattle.theory.proofs.Values.{Inside, inside_none, inside_element, join_none, join_inside, join_assoc, value_inside}
use Rattle.theory.proofs.ShortWords.{ShortWord}
use Rattle.formats.specs.Table.{morphism_at}
use Rattle.formats.specs.TableChecks.{UnreachedAt}
use Rattle.rule_reach.specs.Reach.{entry_at, parent_at, letter_at, place_at, word_step, WordOrder, FirstWithout, NoneWithout}
use Rattle.rule_reach.proofs.Bytes.{entry_place}

-- the word of an entry: that of the entry before it, and the entry's letter
abbrev pub word_at : List ℕ → ℕ → List ℕ
word_at queue i = first_word (parent_at queue) (letter_at queue) i

-- the first word with the element for its value, with no more letters than there are elements
pub record FoundWord (m : Morphism) (s : ℕ) (word : List ℕ) : Type 0 where
  pub over : Over m.letters word
  pub its_value : value m word ≡ element s
  pub short : length word ≤ m.size
  pub least : (v : List ℕ) → Over m.letters v → value m v ≡ element s → NotAfter word v

module _ {m : Morphism} (law : Lawful m) where
  -- letter by letter from a value on: that value times the word's
  after_value : {x : Value} {w : List ℕ} → Inside m x → Over m.letters w → after (word_step m) x w ≡ join m x (value m w)
  unfolding after word_step value
  after_value {x} h over_nil = sym (join_none m x)
  after_value {x} h (over_cons {a} {w} l o) =
      after_value {x = join m x (element (m.image a))} (join_inside law h (inside_element (law.images a l))) o
      ∙ join_assoc law h (inside_element (law.images a l)) (value_inside law o)

  -- letter by letter from the empty word: the word's value
  pub word_value : {w : List ℕ} → Over m.letters w → after (word_step m) none w ≡ value m w
  unfolding join
  word_value o = after_value inside_none o

-- where each element is some word's value, none is unreached
pub all_reached_none : {m : Morphism} {p : ℕ} → AllReached m → UnreachedAt m p → ⊥
all_reached_none {m} {p} all u = u.no_word (all.word_of p u.inside)

module _ {bytes : List ℕ} {n k : ℕ} {entry exit : List ℕ} {count : ℕ} (order : WordOrder bytes n k entry exit count) where
  -- an entry's word is the first that leads to it
  pub entry_first : (i : ℕ) → i ≤ count → FirstWord none (word_step (morphism_at bytes n k)) k (entry_at exit i) (word_at exit i)
  entry_first i h = first_word_lem order.order i (omega arith)

  -- the entries stand in the order of their words
  pub entries_increase : (i j : ℕ) → i < j → j ≤ count → Before (word_at exit i) (word_at exit j)
  entries_increase i j h l = words_increase order.order i j h (omega arith)

  module _ (law : Lawful (morphism_at bytes n k)) where
    -- an element with a number: its entry's word is its first
    pub found_word : {s : ℕ} → s < n → 0 < place_at exit s → FoundWord (morphism_at bytes n k) s (word_at exit (place_at exit s))
    found_word {s} h l =
        let p : place_at exit s ≤ count = (order.places.of_element s h l).0 in
        let e : entry_at exit (place_at exit s) ≡ element s = (order.places.of_element s h l).1 in
        let f : FirstWord none (word_step (morphism_at bytes n k)) k (entry_at exit (place_at exit s)) (word_at exit (place_at exit s)) = entry_first (place_at exit s) p in
        record {
          over = f.over;
          its_value = sym (word_value law f.over) ∙ f.leads ∙ e;
          short = omega (arith, word_short order.order (place_at exit s) (omega arith), order.few);
          least = λ v o d. f.least v o (word_value law o ∙ d ∙ sym e);
        }

    -- the word of each entry is the first of its element
    pub entry_word : (i : ℕ) → i < count → FoundWord (morphism_at bytes n k) (get_or exit i 0) (word_at exit (i + 1))
    entry_word i h =
        let e : place_at exit (get_or exit i 0) ≡ i + 1 = order.places.of_entry i h in
        rw e at (found_word (order.inside i h) (omega arith))

    -- an element with a number has a short word
    pub found_short : {s : ℕ} → s < n → 0 < place_at exit s → ShortWord (morphism_at bytes n k) s
    found_short h l = record { word = _; over = (found_word h l).over; its_value = (found_word h l).its_value; short = (found_word h l).short }

    -- an element with a number is some word's value
    pub found_reached : {s : ℕ} → s < n → 0 < place_at exit s → WordOf (morphism_at bytes n k) s
    found_reached h l = record { word = _; over = (found_word h l).over; its_value = (found_word h l).its_value }

    -- an element with none is no word's value
    pub unfound_unreached : {s : ℕ} → place_at exit s ≡ 0 → WordOf (morphism_at bytes n k) s → ⊥
    unfound_unreached {s} e w =
        entry_place order.places e
        (subst (Entry (entry_at exit) (suc count)) (word_value law w.over ∙ w.its_value) (word_entry order.order w.word w.over))

    -- an element that is some word's value has a number
    pub reached_found : {s : ℕ} → WordOf (morphism_at bytes n k) s → 0 < place_at exit s
    reached_found {s} w = ⊎_elim (λ h. absurd (unfound_unreached (omega arith) w)) (λ h. h) (le_or_lt (place_at exit s) 0)

    -- the least element with no number is the least that is no word's value
    pub first_unreached : {s : ℕ} → FirstWithout exit n s → UnreachedAt (morphism_at bytes n k) s
    first_unreached f = record {
      inside = f.below;
      no_word = unfound_unreached f.without;
      least = λ t h. found_reached (omega (arith, f.below)) (f.first t h);
    }

    -- where each element has a number, each is some word's value
    pub none_all_reached : NoneWithout exit n → AllReached (morphism_at bytes n k)
    none_all_reached w = record { word_of = λ s h. found_reached h (w.have s h) }

    pub none_without_absurd : {p : ℕ} → NoneWithout exit n → UnreachedAt (morphism_at bytes n k) p → ⊥
    none_without_absurd w u = all_reached_none (none_all_reached w) u
