-- Where both tests hold every triple associates; else nothing is said. Assumes nothing.
use Prim.Native.Nat.{◌*◌, ◌≤◌}
use native.Mathlib.Omega.{arith}
use native.Mathlib.Nat.{mul-le-mul}
use Rattle.rule_associating.proofs.Entries.{both_associate}
use mathlib.Core.Bool.{not}
use mathlib.Core.Path.{ap}
use Rattle.rule_associating.proofs.associates.Goals as goal

-- a table has at most 64 elements
elements_square : (c : goal.After-letter_entries-letters) → c.args.n * c.args.n ≤ 4096
elements_square c = mul-le-mul c.requires.table.small c.requires.table.small

-- and no more letters' elements
letters_square : (c : goal.After-letter_entries-letters) → c.letter_entries-letters.result * c.letter_entries-letters.result ≤ 4096
letters_square c =
    let few : c.letter_entries-letters.result ≤ 64 = omega (arith, c.letter_entries-letters.ensures.few, c.requires.all_found.few, c.requires.table.small) in
    mul-le-mul few few

pub overflow_mul-n : goal.overflow_mul-n
overflow_mul-n c = omega (arith, elements_square c)

pub overflow_mul-n-2 : goal.overflow_mul-n-2
overflow_mul-n-2 c = omega (arith, elements_square c)

pub overflow_sub-n : goal.overflow_sub-n
overflow_sub-n c = omega (arith, c.letter_entries-letters.ensures.few, c.requires.all_found.few)

pub overflow_mul-n-3 : goal.overflow_mul-n-3
overflow_mul-n-3 c = omega (arith, c.requires.table.small)

pub overflow_mul-letters : goal.overflow_mul-letters
overflow_mul-letters c = omega (arith, letters_square c)

pub overflow_mul-letters-2 : goal.overflow_mul-letters-2
overflow_mul-letters-2 c = omega (arith, letters_square c)

pub overflow_add-n : goal.overflow_add-n
overflow_add-n c = omega (arith, letters_square c, c.requires.table.small)

pub returns-then-n-letters : goal.returns-then-n-letters
returns-then-n-letters c = tt

pub returns-then-not-words_associate : goal.returns-then-not-words_associate
returns-then-not-words_associate c = tt

pub returns : goal.returns
returns c =
    both_associate c.requires.all_found c.letter_entries-letters.ensures c.requires.table c.words_associate.result c.words_associate.ensures (ap not c.if-not-words_associate.false)
    c.letters_associate.result c.letters_associate.ensures
