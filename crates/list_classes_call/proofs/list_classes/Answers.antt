-- `list_classes_call::list_classes` meets its contract: a short buffer is refused first, then the check's refusal is handed on; of a checked
-- rule the classes are written and counted. Assumes nothing.
use Prim.Native.Nat.{◌*◌, ◌≤◌}
use native.Mathlib.Omega.{arith}
use Rattle.theory.specs.Rules.{Lawful}
use Rattle.formats.proofs.Tables.{Table}
use Rattle.formats.specs.Table.{morphism_at}
use Rattle.mark_class_numbers.proofs.Bytes.{pairs_small}
use Rattle.list_classes_call.proofs.Listing.{out_short, listed_refused, listed_table, listed_lawful, listed_counts}
use Rattle.list_classes_call.proofs.list_classes.Goals as goal

-- of a checked rule: its table, that it is lawful, and that it has few pairs
table : (d : goal.After-write_classes-arg-1) → Table d.args.rule.now d.in-Ok.shape.elements d.in-Ok.shape.letters
table d =
    listed_table _ _ _ _ d.check.ensures d.in-Ok.is

lawful : (d : goal.After-write_classes-arg-1) → Lawful (morphism_at d.args.rule.now d.in-Ok.shape.elements d.in-Ok.shape.letters)
lawful d =
    listed_lawful _ _ _ _ d.check.ensures d.in-Ok.is

-- of a checked rule: its table, that it is lawful, and that it has few pairs
table-2 : (d : goal.After-slice_known-5-1) → Table d.args.rule.now d.in-Ok.shape.elements d.in-Ok.shape.letters
table-2 d =
    listed_table _ _ _ _ d.check.ensures d.in-Ok.is

few : (d : goal.After-slice_known-5-1) → d.in-Ok.shape.elements * d.in-Ok.shape.elements ≤ 4096
few d = pairs_small (table-2 d).small

pub returns-then-out-lt-CLASSES_SIZE : goal.returns-then-out-lt-CLASSES_SIZE
returns-then-out-lt-CLASSES_SIZE c = out_short _ _ _ c.if-out-lt-CLASSES_SIZE.true

pub returns-in-Err : goal.returns-in-Err
returns-in-Err c =
    listed_refused _ _ _ _ _ c.if-out-lt-CLASSES_SIZE.false c.check.ensures c.in-Err.is

pub write_classes-requires : goal.write_classes-requires
write_classes-requires c = record {
  table = table c;
  lawful = lawful c;
  classes_size_in_bounds = c.if-out-lt-CLASSES_SIZE.false;
}

pub overflow_mul-n : goal.overflow_mul-n
overflow_mul-n c =
    omega (arith, few c)

pub count-found-requires : goal.count-found-requires
count-found-requires c =
    (few c, omega (arith, few c, c.if-out-lt-CLASSES_SIZE.false, c.write_classes.ensures.same_length))

pub returns : goal.returns
returns c =
    listed_counts _ _ _ _ _ c.if-out-lt-CLASSES_SIZE.false c.check.ensures c.in-Ok.is
    c.zero.ensures c.write_classes.ensures c.count-found.ensures
