-- What a list of words stands for, word by word and entry by entry. Assumes nothing.
use Prim.Native.Nat.{ℕ, zero, suc, ◌+◌, ◌*◌, ◌/◌, ◌%◌, ◌≤◌, ◌<◌, max}
use mathlib.Core.Path.{◌≡◌, refl, sym, ap, ◌∙◌, subst}
use mathlib.Core.Bool.{Bool, true, false, ◌&&◌}
use mathlib.Core.List.{List, [], ◌∷◌, ◌++◌, append-nil, append_assoc}
use native.Mathlib.Omega.{arith}
use native.Mathlib.Nat.{mod-add-mod, div-div-eq-div-mul}
use native.Mathlib.Numerals.{add-one}
use borrow.Author.Tests.{lt-ltb, le-ltb, eq-eqb, ne_eqb}
use lib.Bits.{bit_or}
use lib.Dec.{ltb, eqb}
use lib.ListN.{length, get_or, get_or-eq_default, replicate, replicate-append-replicate}
use Rattle.example_parts.specs.Parts.{up_to, after, part_of}
use Rattle.example_parts.specs.Digits.{decimal_of}
use Rattle.example_lists.specs.Lists.{word_product, list_pair_product, letters_in_set, is_set_mark, set_mark_bytes, entry_bytes, entries_bytes, word_bytes, words_bytes, list_bytes, space, star, last_byte}
use Rattle.example_lists.specs.Storing.{Stored, ListStored}
use Rattle.std.specs.List.{slice_split}
use Rattle.example_parts.proofs.Splitting.{split_part}
use Rattle.example_lists.proofs.AllWords.{words_enough}
use Rattle.example_lists.proofs.Storing.{stored_none, stored_more, stored_listed}

-- two words of one of the first five letters
pub pair_two : {x y : ℕ} → x ≤ 9 → y ≤ 9 → 2 * (6 + (x / 2 * 5 + y / 2)) + (x % 2 + y % 2) % 2 ≡ list_pair_product x y
unfolding list_pair_product word_product
pair_two {x} {y} h k = simp (lt-ltb (x / 2) 5 (let l : x / 2 < 5 = omega arith in l), lt-ltb (y / 2) 5 (let l : y / 2 < 5 = omega arith in l))

-- other words
and_false : (a : Bool) {b : Bool} → b ≡ false → a && b ≡ false
and_false true e = e
and_false false e = refl

pub pair_first_other : {x : ℕ} (y : ℕ) → 9 < x → 62 + (x % 2 + y % 2) % 2 ≡ list_pair_product x y
unfolding list_pair_product word_product
pair_first_other {x} y h = simp (le-ltb (x / 2) 5 (let l : 5 ≤ x / 2 = omega arith in l))

pub pair_second_other : (x : ℕ) {y : ℕ} → 9 < y → 62 + (x % 2 + y % 2) % 2 ≡ list_pair_product x y
unfolding list_pair_product word_product
pair_second_other x {y} h =
    rw (and_false (ltb (x / 2) 5) (le-ltb (y / 2) 5 (let l : 5 ≤ y / 2 = omega arith in l)))

-- how many letters, bit by bit
pub letters_sum : (e : ℕ) → letters_in_set 6 e ≡ e % 2 + e / 2 % 2 + e / 4 % 2 + e / 8 % 2 + e / 16 % 2 + e / 32 % 2
unfolding letters_in_set
letters_sum e = simp (div-div-eq-div-mul) (omega arith)

-- a pair that is not marked, for the first reason and for the second
no_part : (s e : ℕ) → (bit_or s e ≡ s → ⊥) → set_mark_bytes s e ≡ []
unfolding set_mark_bytes is_set_mark
no_part s e n = simp (ne_eqb (bit_or s e) s n)

odd : (s e : ℕ) → ((e % 2 + e / 2 % 2 + e / 4 % 2 + e / 8 % 2 + e / 16 % 2 + e / 32 % 2) % 2 ≡ 0 → ⊥) → set_mark_bytes s e ≡ []
unfolding set_mark_bytes is_set_mark
odd s e n =
    rw (letters_sum e, and_false (eqb (bit_or s e) s) (ne_eqb ((e % 2 + e / 2 % 2 + e / 4 % 2 + e / 8 % 2 + e / 16 % 2 + e / 32 % 2) % 2) 0 n))

-- one that is
marked : (s e : ℕ) → bit_or s e ≡ s → (e % 2 + e / 2 % 2 + e / 4 % 2 + e / 8 % 2 + e / 16 % 2 + e / 32 % 2) % 2 ≡ 0
    → set_mark_bytes s e ≡ last_byte s ++ (last_byte e ++ last_byte 3)
unfolding set_mark_bytes is_set_mark
marked s e p q =
    simp (eq-eqb (bit_or s e) s p, letters_sum e, eq-eqb ((e % 2 + e / 2 % 2 + e / 4 % 2 + e / 8 % 2 + e / 16 % 2 + e / 32 % 2) % 2) 0 q)

module _ {d : List ℕ} {at : ℕ} (s e : ℕ) where
  pub listed_unmarked : (bit_or s e ≡ s → ⊥) → at ≤ length d → Stored d at (set_mark_bytes s e) d at
  listed_unmarked n h = rw (no_part s e n) (stored_none h)

  pub unmarked_odd : ((e % 2 + e / 2 % 2 + e / 4 % 2 + e / 8 % 2 + e / 16 % 2 + e / 32 % 2) % 2 ≡ 0 → ⊥) → at ≤ length d
      → Stored d at (set_mark_bytes s e) d at
  unmarked_odd n h = rw (odd s e n) (stored_none h)

  pub marked_all : bit_or s e ≡ s → (e % 2 + e / 2 % 2 + e / 4 % 2 + e / 8 % 2 + e / 16 % 2 + e / 32 % 2) % 2 ≡ 0
      → {b c f : List ℕ} {mid last end : ℕ} → Stored d at (last_byte s) b mid → Stored b mid (last_byte e) c last → Stored c last (last_byte 3) f end
      → Stored d at (set_mark_bytes s e) f end
  marked_all p q t u v = rw (marked s e p q) (stored_more t (stored_more u v))

-- the lists by their names' first letters
module _ {d e : List ℕ} {at end : ℕ} (letter other x y : ℕ) where
  pub entry_sum : letter ≡ 115 → Stored d at (last_byte ((x % 64 + y) % 64)) e end → Stored d at (entry_bytes letter other x y) e end
  unfolding entry_bytes
  entry_sum k s = rw (k, ← mod-add-mod x 64 y) s

  pub entry_union : letter ≡ 117 → Stored d at (last_byte (bit_or x y)) e end → Stored d at (entry_bytes letter other x y) e end
  unfolding entry_bytes
  entry_union k s = rw k s

  pub entry_word : letter ≡ 119 → {p : ℕ} → p ≡ list_pair_product x y → Stored d at (last_byte p) e end → Stored d at (entry_bytes letter other x y) e end
  unfolding entry_bytes
  entry_word k q s = rw (k, ← q) s

  pub entry_mark : letter ≡ 109 → Stored d at (set_mark_bytes x y) e end → Stored d at (entry_bytes letter other x y) e end
  unfolding entry_bytes
  entry_mark k s = rw k s

  pub entry_other : (letter ≡ 115 → ⊥) → (letter ≡ 117 → ⊥) → (letter ≡ 119 → ⊥) → (letter ≡ 109 → ⊥)
      → Stored d at (last_byte other) e end → Stored d at (entry_bytes letter other x y) e end
  unfolding entry_bytes
  entry_other a b p q s = simp (ne_eqb letter 115 a, ne_eqb letter 117 b, ne_eqb letter 119 p, ne_eqb letter 109 q) s

entries_suc : (letter other i : ℕ)
    → entries_bytes letter other (suc i) ≡ entries_bytes letter other i ++ entry_bytes letter other (i / 64) (i % 64)
unfolding entries_bytes
entries_suc letter other i = refl

-- the first i entries are stored
pub record EntriesSoFar (letter other count : ℕ) (d : List ℕ) (at : ℕ) (e : List ℕ) (end i : ℕ) : Type 0 where
  pub within : i ≤ count
  pub stored : Stored d at (entries_bytes letter other i) e end

pub entries_none : {letter other count : ℕ} {d : List ℕ} {at : ℕ} → at ≤ length d → EntriesSoFar letter other count d at d at 0
unfolding entries_bytes
entries_none h = record { within = omega arith; stored = stored_none h }

module _ {letter other count : ℕ} {d : List ℕ} {at : ℕ} {e : List ℕ} {mid i : ℕ} (s : EntriesSoFar letter other count d at e mid i) where
  pub entries_more : i < count → {f : List ℕ} {end : ℕ} → Stored e mid (entry_bytes letter other (i / 64) (i % 64)) f end
      → EntriesSoFar letter other count d at f end (i + 1)
  entries_more h t = record { within = omega arith; stored = rw (add-one i, entries_suc letter other i) (stored_more s.stored t) }

  pub entries_all : count ≤ i → Stored d at (entries_bytes letter other count) e mid
  entries_all h = subst (λ (n : ℕ). Stored d at (entries_bytes letter other n) e mid) (let q : i ≡ count = omega (arith, s.within) in q) s.stored

-- a letter up to `9` names no list
no_name : {letter : ℕ} (other x y : ℕ) → letter ≤ 57 → entry_bytes letter other x y ≡ last_byte other
unfolding entry_bytes
no_name {letter} other x y h =
    let far : (n : ℕ) → 57 < n → eqb letter n ≡ false = λ n l. ne_eqb letter n (λ e. omega arith) in
    simp (far 115 (omega arith), far 117 (omega arith), far 119 (omega arith), far 109 (omega arith))

pub repeated : {letter : ℕ} (other n : ℕ) → letter ≤ 57 → entries_bytes letter other n ≡ replicate n (other % 256)
unfolding entries_bytes
repeated other zero h = refl
repeated {letter} other (suc n) h =
    ap (λ (l : List ℕ). l ++ entry_bytes letter other (n / 64) (n % 64)) (repeated other n h)
    ∙ ap (λ (l : List ℕ). replicate n (other % 256) ++ l) (no_name other (n / 64) (n % 64) h)
    ∙ replicate-append-replicate n 1 (other % 256)
    ∙ ap (λ (k : ℕ). replicate k (other % 256)) (add-one n)

-- the cases of a word
word_empty : (word : List ℕ) → length word ≡ 0 → word_bytes word ≡ []
unfolding word_bytes
word_empty word e = simp (eq-eqb (length word) 0 e)

module _ (word : List ℕ) (some : length word ≡ 0 → ⊥) where
  word_named : 57 < get_or word 0 0 → word_bytes word ≡ entries_bytes (get_or word 0 0) 0 4096
  unfolding word_bytes
  word_named h = simp (ne_eqb (length word) 0 some, lt-ltb 57 (get_or word 0 0) h)

  module _ (h : get_or word 0 0 ≤ 57) where
    word_byte : length (part_of star 1 word) ≡ 0 → word_bytes word ≡ last_byte (decimal_of word)
    unfolding word_bytes
    word_byte e = simp (ne_eqb (length word) 0 some, le-ltb 57 (get_or word 0 0) h, eq-eqb (length (part_of star 1 word)) 0 e)

    word_repeated : (length (part_of star 1 word) ≡ 0 → ⊥)
        → word_bytes word ≡ entries_bytes (get_or word 0 0) (decimal_of (part_of star 1 word)) (max 1 (decimal_of (part_of star 0 word)))
    unfolding word_bytes
    word_repeated n =
        simp (ne_eqb (length word) 0 some, le-ltb 57 (get_or word 0 0) h, ne_eqb (length (part_of star 1 word)) 0 n)
        (sym (repeated (decimal_of (part_of star 1 word)) (max 1 (decimal_of (part_of star 0 word))) h))

-- what was stored is what the word stands for
pub put_empty : {d : List ℕ} {at : ℕ} (word : List ℕ) → length word ≡ 0 → at ≤ length d → Stored d at (word_bytes word) d at
put_empty word z h = rw (word_empty word z) (stored_none h)

module _ {d e : List ℕ} {at end : ℕ} (word : List ℕ) (some : length word ≡ 0 → ⊥) {name : ℕ} (first : name ≡ get_or word 0 0) where
  pub put_named : 57 < name → Stored d at (entries_bytes name 0 4096) e end → Stored d at (word_bytes word) e end
  put_named h s = rw (word_named word some (omega arith), ← first) s

  module _ (h : name ≤ 57) {byte : List ℕ} (behind : byte ≡ part_of star 1 word) where
    pub put_byte : length byte ≡ 0 → {n : ℕ} → n ≡ decimal_of word → Stored d at (last_byte n) e end → Stored d at (word_bytes word) e end
    put_byte z q s = rw (word_byte word some (omega arith) (rw behind at z), ← q) s

    pub put_repeated : (length byte ≡ 0 → ⊥) → {b n : ℕ} → b ≡ decimal_of byte → n ≡ max 1 (decimal_of (part_of star 0 word))
        → Stored d at (entries_bytes name b n) e end → Stored d at (word_bytes word) e end
    put_repeated z q m s = rw (word_repeated word some (omega arith) (rw behind at z), ← first, ← behind, ← q, ← m) s

-- one word more
words_suc : (i : ℕ) (list : List ℕ) → words_bytes (suc i) list ≡ words_bytes i list ++ word_bytes (part_of space i list)
unfolding words_bytes part_of
words_suc zero list = append-nil (word_bytes (up_to space list))
words_suc (suc i) list =
    ap (λ (l : List ℕ). word_bytes (up_to space list) ++ l) (words_suc i (after space list))
    ∙ sym (append_assoc (word_bytes (up_to space list)) (words_bytes i (after space list)) (word_bytes (part_of space i (after space list))))

-- a part behind the last one that a split gives is empty, so that more words add nothing
no_word : word_bytes [] ≡ []
unfolding word_bytes
no_word = refl

past : (list : List ℕ) (k : ℕ) → words_bytes (length (slice_split (λ b. eqb b space) list) + k) list ≡ words_bytes (length (slice_split (λ b. eqb b space) list)) list
past list zero = ap (λ (n : ℕ). words_bytes n list) (let q : length (slice_split (λ b. eqb b space) list) + 0 ≡ length (slice_split (λ b. eqb b space) list) = omega arith in q)
past list (suc k) =
    let n = length (slice_split (λ b. eqb b space) list) in
    let none : part_of space (n + k) list ≡ [] =
    sym (split_part space (n + k) list) ∙ get_or-eq_default (slice_split (λ b. eqb b space) list) [] (let l : n ≤ n + k = omega arith in l) in
    ap (λ (m : ℕ). words_bytes m list) (let q : n + suc k ≡ suc (n + k) = omega arith in q)
    ∙ words_suc (n + k) list
    ∙ ap (λ (word : List ℕ). words_bytes (n + k) list ++ word_bytes word) none
    ∙ ap (λ (l : List ℕ). words_bytes (n + k) list ++ l) no_word
    ∙ append-nil (words_bytes (n + k) list)
    ∙ past list k

all_words : (list : List ℕ) → words_bytes (length (slice_split (λ b. eqb b space) list)) list ≡ list_bytes list
all_words list = sym (past list (length list)) ∙ words_enough (length (slice_split (λ b. eqb b space) list) + length list) list (omega arith)

same_default : (list : List (List ℕ)) (i : ℕ) (a b : List ℕ) → i < length list → get_or list i a ≡ get_or list i b
same_default [] i a b h = absurd (let z : ⊥ = omega arith in z)
same_default (x ∷ list) zero a b h = refl
same_default (x ∷ list) (suc i) a b h = same_default list i a b (omega arith)

-- the first i words are stored
pub record WordsSoFar (list d e : List ℕ) (end i : ℕ) : Type 0 where
  pub stored : Stored d 0 (words_bytes i list) e end

pub words_none : (list d : List ℕ) → WordsSoFar list d d 0 0
unfolding words_bytes
words_none list d = record { stored = stored_none (omega arith) }

module _ {list d e : List ℕ} {mid i : ℕ} (s : WordsSoFar list d e mid i) where
  pub words_more : {word : List ℕ} → (i < length (slice_split (λ b. eqb b space) list)) × (word ≡ get_or (slice_split (λ b. eqb b space) list) i word)
      → {f : List ℕ} {end : ℕ} → Stored e mid (word_bytes word) f end → WordsSoFar list d f end (i + 1)
  words_more {word} turn t =
      let q : word ≡ part_of space i list = turn.1 ∙ same_default (slice_split (λ b. eqb b space) list) i word [] turn.0 ∙ split_part space i list in
      record { stored = rw (add-one i, words_suc i list, ← q) (stored_more s.stored t) }

  pub words_all : i ≡ length (slice_split (λ b. eqb b space) list) → {part : List ℕ} → list ≡ part → ListStored d (list_bytes part) e mid
  words_all n q =
      rw (← q)
      (stored_listed (subst (λ (bytes : List ℕ). Stored d 0 bytes e mid) (ap (λ (m : ℕ). words_bytes m list) n ∙ all_words list) s.stored))
