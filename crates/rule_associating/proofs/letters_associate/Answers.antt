-- The loops hold the answers of the letters in front that were passed, and of the letters behind the one that is tried. The measures are
-- the numbers of letters left. Assumes nothing.
use Prim.Native.Nat.{◌<◌}
use mathlib.Core.Path.{refl, ap}
use lib.ListN.{get_or}
use native.Mathlib.Omega.{arith}
use mir.Facts.{Fits-8_64}
use Rattle.rule_letter_columns.proofs.Entries.{letters_few}
use Rattle.rule_along_words.proofs.Passed.{column_inside}
use Rattle.rule_associating.proofs.Passed.{row_start, row_next, letters_start, letters_next, letters_all}
use mathlib.Core.Bool.{not}
use Rattle.rule_associating.proofs.letters_associate.Goals as goal

-- the elements of the two entries
elements_inside : (c : goal.In-loop-j)
    → let args = c.args in (get_or args.queue.now c.loop-i.i 0 < args.n) × (get_or args.queue.now c.loop-j.j 0 < args.n)
elements_inside c =
    let found = c.requires.all_found in
    let few = c.requires.letter_entries.few in
    (found.inside c.loop-i.i (omega (arith, few)), found.inside c.loop-j.j (omega (arith, few)))

-- the elements of the two entries
elements_inside_2 : (c : goal.Else-not-between)
    → let args = c.args in (get_or args.queue.now c.loop-i.i 0 < args.n) × (get_or args.queue.now c.loop-j.j 0 < args.n)
elements_inside_2 c =
    let found = c.requires.all_found in
    let few = c.requires.letter_entries.few in
    (found.inside c.loop-i.i (omega (arith, few)), found.inside c.loop-j.j (omega (arith, few)))

pub loop-i-init : goal.loop-i-init
loop-i-init c = letters_start

pub bounds-queue-i : goal.bounds-queue-i
bounds-queue-i c =
    omega (arith, c.requires.all_found.room, c.requires.all_found.few, c.requires.table.small, c.requires.letter_entries.few)

pub overflow_cast-g : goal.overflow_cast-g
overflow_cast-g c = Fits-8_64 (c.type_inv.queue _)

pub loop-j-init : goal.loop-j-init
loop-j-init c = (row_start, c.loop-i.invariant, refl, c.loop-i-test.true)

pub between-requires : goal.between-requires
between-requires c =
    let column = c.requires.letter_columns.column c.loop-j.j c.loop-j-test.true in
    let few = letters_few c.requires.all_found c.requires.letter_entries c.requires.table in record {
      table = c.requires.table;
      column_inside = column_inside c.requires.table column (elements_inside c).1 (omega (arith, few));
      g_lt_n = (elements_inside c).0;
    }

pub returns-then-not-between : goal.returns-then-not-between
returns-then-not-between c = tt

pub loop-j-preserved : goal.loop-j-preserved
loop-j-preserved c =
    let row = c.loop-j.invariant in
    let column = c.requires.letter_columns.column c.loop-j.j c.loop-j-test.true in
    (row_next c.requires.table column (elements_inside_2 c).0 row.0 c.between.result c.between.ensures (ap not c.if-not-between.false), row.1, row.2, row.3)

pub loop-i-preserved : goal.loop-i-preserved
loop-i-preserved c = letters_next c.loop-i.invariant c.loop-j.invariant.0 c.loop-j-test.false

pub returns : goal.returns
returns c = letters_all c.loop-i.invariant c.loop-i-test.false
