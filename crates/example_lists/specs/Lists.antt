-- The bytes that a list of words stands for. Assumes nothing.
use Rattle.std.specs.Prelude.{ℕ, zero, suc, ◌+◌, ◌*◌, ◌/◌, ◌%◌, max, Bool, cond, ◌&&◌, List, [], ◌∷◌, ◌++◌, ltb, eqb, length, get_or, replicate}
use Rattle.std.specs.Int.Bits.{bit_or}
use Rattle.example_parts.specs.Parts.{up_to, after, part_of}
use Rattle.example_parts.specs.Digits.{decimal_of}

-- a number's last byte
abbrev pub last_byte : ℕ → List ℕ
last_byte n = (n % 256) ∷ []

-- Words over six letters by numbers: the letters are 0 to 5, the words of two of the first five are 6 to 30, and 31 is all other
-- words. The product is the word of one after the other.
unfoldable pub word_product : ℕ → ℕ → ℕ
word_product a b = cond (ltb a 5 && ltb b 5) (6 + (a * 5 + b)) 31

-- the pair of a word and a remainder by 2 is the number 2·word + remainder; words are multiplied and remainders added
unfoldable pub list_pair_product : ℕ → ℕ → ℕ
list_pair_product x y = 2 * word_product (x / 2) (y / 2) + (x % 2 + y % 2) % 2

-- how many of the first n letters are in a set that has a bit for each
unfoldable pub letters_in_set : ℕ → ℕ → ℕ
letters_in_set zero set = 0
letters_in_set (suc n) set = set % 2 + letters_in_set n (set / 2)

-- a pair of sets of six letters is marked where the second is a part of the first and has an even number of letters
unfoldable pub is_set_mark : ℕ → ℕ → Bool
is_set_mark s e = eqb (bit_or s e) s && eqb (letters_in_set 6 e % 2) 0

-- the bytes of a pair of sets and its grade 3 where it is marked, none where it is not
unfoldable pub set_mark_bytes : ℕ → ℕ → List ℕ
set_mark_bytes s e = cond (is_set_mark s e) (last_byte s ++ (last_byte e ++ last_byte 3)) []

-- What stands in row x and column y of a list that is known by its name's first letter: the sum by 64 for `s`, the union of two sets
-- for `u`, the product of two pairs of a word and a remainder for `w`, the mark for `m`. Any other list has one byte everywhere.
unfoldable pub entry_bytes : ℕ → ℕ → ℕ → ℕ → List ℕ
entry_bytes letter other x y =
    cond (eqb letter 115) (last_byte ((x + y) % 64))
    (cond (eqb letter 117) (last_byte (bit_or x y))
    (cond (eqb letter 119) (last_byte (list_pair_product x y))
    (cond (eqb letter 109) (set_mark_bytes x y)
    (last_byte other))))

-- the first n entries, row by row, 64 in each
unfoldable pub entries_bytes : ℕ → ℕ → ℕ → List ℕ
entries_bytes letter other zero = []
entries_bytes letter other (suc n) = entries_bytes letter other n ++ entry_bytes letter other (n / 64) (n % 64)

-- the byte `*`, which stands between a count and a byte that is repeated
abbrev pub star : ℕ
star = 42

-- What a word stands for. An empty one stands for nothing. One whose first byte is above `9` names a list, and stands for its 64 rows;
-- a list with no such name has only zeros. One with a number after a `*` stands for that byte, as often as the count before the `*` says,
-- and once where the count is 0. Any other stands for its number's last byte.
unfoldable pub word_bytes : List ℕ → List ℕ
word_bytes word =
    cond (eqb (length word) 0) []
    (cond (ltb 57 (get_or word 0 0)) (entries_bytes (get_or word 0 0) 0 4096)
    (cond (eqb (length (part_of star 1 word)) 0) (last_byte (decimal_of word))
    (replicate (max 1 (decimal_of (part_of star 0 word))) (decimal_of (part_of star 1 word) % 256))))

-- the byte ` `, which stands between the words of a list
abbrev pub space : ℕ
space = 32

-- what the first n words of a list stand for, one after the other
unfoldable pub words_bytes : ℕ → List ℕ → List ℕ
words_bytes zero list = []
words_bytes (suc n) list = word_bytes (up_to space list) ++ words_bytes n (after space list)

-- what all of them stand for: a list has no more words that are not empty than bytes
unfoldable pub list_bytes : List ℕ → List ℕ
list_bytes list = words_bytes (length list) list
