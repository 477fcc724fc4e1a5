-- The map of scratch: named bytes where things begin, for every call. Assumes nothing.
--
-- The marks that the check of a rule leaves stand in front, a byte for each pair (s, e), at s·64 + e. What stands behind them depends on
-- the call; the code has the same names as constants.
use Rattle.std.specs.Prelude.{ℕ, ◌+◌, ◌*◌, ◌<◌, ◌≡◌, List, get_or}
use Rattle.theory.specs.Rules.{Marking}

-- the bytes that a table of marks takes: one for each pair of up to 64 elements
abbrev pub mark_table_size : ℕ
mark_table_size = 4096

-- and those of an automaton's transitions: one for each triple of up to 6 states and 16 letters
abbrev pub transition_table_size : ℕ
transition_table_size = 576

-- two markings of a table compared: a second marking, laid out like the first: a second input, the closure, or marks to be written
abbrev pub second_base : ℕ
second_base = 4096

-- where it ends
abbrev pub tables_end : ℕ
tables_end = 8192

-- the worklist of the search: fronts, backs, the letter that each entry was found by and the entry that it was found from, in two bytes
abbrev pub fronts_base : ℕ
fronts_base = 8192

abbrev pub backs_base : ℕ
backs_base = 16384

abbrev pub letters_base : ℕ
letters_base = 24576

abbrev pub parents_low_base : ℕ
parents_low_base = 32768

abbrev pub parents_high_base : ℕ
parents_high_base = 40960

-- the start value for which a state was last found, and 1; a byte for each state
abbrev pub states_base : ℕ
states_base = 49152

-- for each letter, 65 bytes a letter: one more than the last value that the letter takes to an element, 0 for none; and one more than the
-- value before a value that the letter takes to the same element
abbrev pub first_preimages_base : ℕ
first_preimages_base = 57344

abbrev pub next_preimages_base : ℕ
next_preimages_base = 59392

-- where the search ends: it keeps the bytes from here on
abbrev pub search_end : ℕ
search_end = 61440

-- membership: the values of the beginnings of v, and of its ends
abbrev pub beginnings_base : ℕ
beginnings_base = 4096

abbrev pub ends_base : ℕ
ends_base = 8320

abbrev pub words_end : ℕ
words_end = 12544

-- reduction: the outcomes of all pairs of values, the blocks of a round and of the next, the numbers of the blocks and their leaders
abbrev pub outcomes_base : ℕ
outcomes_base = 8192

abbrev pub blocks_base : ℕ
blocks_base = 12288

abbrev pub next_blocks_base : ℕ
next_blocks_base = 12352

abbrev pub numbers_base : ℕ
numbers_base = 12416

abbrev pub leaders_base : ℕ
leaders_base = 12480

abbrev pub leaders_end : ℕ
leaders_end = 12544

-- an automaton: the list of its matrices. Of it and of classes of words: where each letter leads from each entry; from which entry and by which letter each was
-- found
abbrev pub matrices_base : ℕ
matrices_base = 8192

abbrev pub steps_base : ℕ
steps_base = 12288

abbrev pub step_parents_base : ℕ
step_parents_base = 14336

abbrev pub step_letters_base : ℕ
step_letters_base = 15360

-- two rules made one: the number of each pair of elements in the list of pairs; the halves of each entry of the list, the entry that it was
-- found from and the letter that it was found by
abbrev pub pair_numbers_base : ℕ
pair_numbers_base = 8192

abbrev pub pair_lefts_base : ℕ
pair_lefts_base = 12288

abbrev pub pair_rights_base : ℕ
pair_rights_base = 12352

abbrev pub pair_parents_base : ℕ
pair_parents_base = 12416

abbrev pub pair_letters_base : ℕ
pair_letters_base = 12480

abbrev pub pairs_end : ℕ
pairs_end = 12544

-- a rule laid out before it is written: its products by rows, its letters' elements, its marks
abbrev pub laid_products_base : ℕ
laid_products_base = 16384

abbrev pub laid_images_base : ℕ
laid_images_base = 20480

abbrev pub laid_marks_base : ℕ
laid_marks_base = 24576

-- where it ends
abbrev pub laid_end : ℕ
laid_end = 28672

-- the classes of words for `next`: of each the value behind its first letter, or 64, and its value
abbrev pub next_tails_base : ℕ
next_tails_base = 28672

abbrev pub next_wholes_base : ℕ
next_wholes_base = 28736

abbrev pub next_end : ℕ
next_end = 28800

-- the classes of words for `until`: the pair of each; the grades of each context's pairs by both rules; the class of a word with one letter more, and what
-- every letter makes it of
abbrev pub until_pairs_base : ℕ
until_pairs_base = 28672

abbrev pub until_grades_base : ℕ
until_grades_base = 32768

abbrev pub until_class_base : ℕ
until_class_base = 36864

abbrev pub until_step_base : ℕ
until_step_base = 40960

abbrev pub until_end : ℕ
until_end = 45056

-- the marks of a table of marks, which begins at a byte
unfoldable pub marks_from : List ℕ → ℕ → Marking
marks_from bytes base s e = get_or bytes (base + (s * 64 + e)) 0

-- a marking of n elements stands in the table of marks that begins at a byte
pub record MarkingAt (n : ℕ) (marks : Marking) (bytes : List ℕ) (base : ℕ) : Type 0 where
  pub same : (s e : ℕ) → s < n → e < n → marks s e ≡ marks_from bytes base s e
