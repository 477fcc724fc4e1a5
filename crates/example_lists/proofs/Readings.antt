-- Small texts, and what the definitions say of them. Assumes nothing.
use mathlib.Core.Path.{◌≡◌, refl}
use mathlib.Core.List.{List, [], ◌∷◌}
use Prim.Native.Nat.{ℕ}
use Rattle.example_parts.specs.Parts.{up_to, after, part_of}
use Rattle.example_parts.specs.Digits.{with_digits, saturated, decimal_of, number_in_part, command_of}
use Rattle.example_lists.specs.Lists.{word_product, list_pair_product, letters_in_set, is_set_mark, set_mark_bytes, entry_bytes, word_bytes, words_bytes, list_bytes}

-- `a: m:12`
line : List ℕ
line = 97 ∷ 58 ∷ 32 ∷ 109 ∷ 58 ∷ 49 ∷ 50 ∷ []

first_part : part_of 58 0 line ≡ 97 ∷ []
unfolding line part_of up_to
first_part = refl

second_part : part_of 58 1 line ≡ 32 ∷ 109 ∷ []
unfolding line part_of up_to after
second_part = refl

no_part : part_of 58 3 line ≡ []
unfolding line part_of up_to after
no_part = refl

letter : command_of line ≡ 109 ∷ []
unfolding line part_of up_to after
letter = refl

number : number_in_part line 2 ≡ 12
unfolding line part_of up_to after decimal_of with_digits saturated
number = refl

-- `7 3*1 0*2  258`
list : List ℕ
list = 55 ∷ 32 ∷ 51 ∷ 42 ∷ 49 ∷ 32 ∷ 48 ∷ 42 ∷ 50 ∷ 32 ∷ 32 ∷ 50 ∷ 53 ∷ 56 ∷ []

bytes : list_bytes list ≡ 7 ∷ 1 ∷ 1 ∷ 1 ∷ 2 ∷ 2 ∷ []
unfolding list list_bytes words_bytes word_bytes part_of up_to after decimal_of with_digits saturated
bytes = refl

-- the sum of 63 and 2, and the words of the letters 1 and 3 with the remainders 1 and 1
sum : entry_bytes 115 0 63 2 ≡ 1 ∷ []
unfolding entry_bytes
sum = refl

product : entry_bytes 119 0 3 7 ≡ 28 ∷ []
unfolding entry_bytes list_pair_product word_product
product = refl

-- two letters of three are marked, one is not
even : entry_bytes 109 0 7 5 ≡ 7 ∷ 5 ∷ 3 ∷ []
unfolding entry_bytes set_mark_bytes is_set_mark letters_in_set
even = refl

odd : entry_bytes 109 0 7 4 ≡ []
unfolding entry_bytes set_mark_bytes is_set_mark letters_in_set
odd = refl
