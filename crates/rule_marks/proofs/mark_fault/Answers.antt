-- `rule_marks::mark_fault` meets its contract: the marks passed so far are good and laid out in the table. Assumes nothing.
use Prim.Native.Nat.{ℕ, ◌+◌, ◌*◌, ◌<◌}
use mathlib.Core.Path.{◌≡◌, subst, ap}
use mathlib.Core.List.{List}
use native.Mathlib.Omega.{arith}
use mir.Facts.{Fits-8_64}
use lib.ListN.{length}
use Rattle.formats.proofs.Tables.{Table}
use Rattle.formats.specs.Table.{morphism_at}
use Rattle.formats.specs.RuleFile.{mark_start, mark_cycle, mark_grade, grade_among}
use Rattle.scratch.specs.Map.{mark_table_size}
use Rattle.rule_marks.specs.Faults.{MarksRoom, MarksLaid}
use Rattle.rule_marks.proofs.MarkOrder.{no_marks, good_more, marks_pass, mark_unlinked, mark_repeated, said_unlinked, said_linked}
use Rattle.formats.proofs.MarksPassed.{GoodMarks}
use Rattle.rule_marks.proofs.Laid.{pair_below, laid_start, laid_next, mark_seen, mark_new}
use mathlib.Core.Bool.{not}
use Rattle.rule_marks.proofs.mark_fault.Goals as goal

abbrev mark_bytes : goal.In-loop-i → List ℕ
mark_bytes d = d.args.bytes.now

abbrev section : goal.In-loop-i → ℕ
section d = d.args.at

abbrev room : (d : goal.In-loop-i) → MarksRoom (mark_bytes d) (section d) d.args.count d.args.n d.args.table.now
room d = d.requires.marks_room

abbrev mark_bytes-2 : goal.After-shared_slice_known-in-loop-i-1-unread → List ℕ
mark_bytes-2 d = d.args.bytes.now

abbrev section-2 : goal.After-shared_slice_known-in-loop-i-1-unread → ℕ
section-2 d = d.args.at

abbrev room-2 : (d : goal.After-shared_slice_known-in-loop-i-1-unread) → MarksRoom (mark_bytes-2 d) (section-2 d) d.args.count d.args.n d.args.table.now
room-2 d = d.requires.marks_room

abbrev mark_bytes-3 : goal.After-shared_slice_known-in-loop-i-1 → List ℕ
mark_bytes-3 d = d.args.bytes.now

abbrev section-3 : goal.After-shared_slice_known-in-loop-i-1 → ℕ
section-3 d = d.args.at

abbrev room-3 : (d : goal.After-shared_slice_known-in-loop-i-1) → MarksRoom (mark_bytes-3 d) (section-3 d) d.args.count d.args.n d.args.table.now
room-3 d = d.requires.marks_room

abbrev mark_bytes-4 : goal.After-shared_slice_known-in-loop-i-2-1-unread → List ℕ
mark_bytes-4 d = d.args.bytes.now

abbrev section-4 : goal.After-shared_slice_known-in-loop-i-2-1-unread → ℕ
section-4 d = d.args.at

abbrev room-4 : (d : goal.After-shared_slice_known-in-loop-i-2-1-unread) → MarksRoom (mark_bytes-4 d) (section-4 d) d.args.count d.args.n d.args.table.now
room-4 d = d.requires.marks_room

abbrev mark_bytes-5 : goal.After-shared_slice_known-in-loop-i-2-1 → List ℕ
mark_bytes-5 d = d.args.bytes.now

abbrev section-5 : goal.After-shared_slice_known-in-loop-i-2-1 → ℕ
section-5 d = d.args.at

abbrev room-5 : (d : goal.After-shared_slice_known-in-loop-i-2-1) → MarksRoom (mark_bytes-5 d) (section-5 d) d.args.count d.args.n d.args.table.now
room-5 d = d.requires.marks_room

abbrev mark_bytes-6 : goal.After-shared_slice_known-in-loop-i-3-1-unread → List ℕ
mark_bytes-6 d = d.args.bytes.now

abbrev section-6 : goal.After-shared_slice_known-in-loop-i-3-1-unread → ℕ
section-6 d = d.args.at

abbrev room-6 : (d : goal.After-shared_slice_known-in-loop-i-3-1-unread) → MarksRoom (mark_bytes-6 d) (section-6 d) d.args.count d.args.n d.args.table.now
room-6 d = d.requires.marks_room

abbrev table : (d : goal.After-shared_slice_known-in-loop-i-3-1) → Table d.args.rule.now d.args.n d.args.k
table d = d.requires.table

abbrev mark_bytes-7 : goal.After-shared_slice_known-in-loop-i-3-1 → List ℕ
mark_bytes-7 d = d.args.bytes.now

abbrev section-7 : goal.After-shared_slice_known-in-loop-i-3-1 → ℕ
section-7 d = d.args.at

abbrev room-7 : (d : goal.After-shared_slice_known-in-loop-i-3-1) → MarksRoom (mark_bytes-7 d) (section-7 d) d.args.count d.args.n d.args.table.now
room-7 d = d.requires.marks_room

start_below : (d : goal.After-shared_slice_known-in-loop-i-3-1) → mark_start (mark_bytes-7 d) (section-7 d) d.loop-i.i < d.args.n
start_below d = (room-7 d).starts d.loop-i.i d.loop-i-test.true

cycle_below : (d : goal.After-shared_slice_known-in-loop-i-3-1) → mark_cycle (mark_bytes-7 d) (section-7 d) d.loop-i.i < d.args.n
cycle_below d = (room-7 d).cycles d.loop-i.i d.loop-i-test.true

abbrev mark_bytes-8 : goal.Else-not-linked → List ℕ
mark_bytes-8 d = d.args.bytes.now

abbrev section-8 : goal.Else-not-linked → ℕ
section-8 d = d.args.at

abbrev table-2 : (d : goal.Else-not-linked) → Table d.args.rule.now d.args.n d.args.k
table-2 d = d.requires.table

abbrev room-8 : (d : goal.Else-not-linked) → MarksRoom (mark_bytes-8 d) (section-8 d) d.args.count d.args.n d.args.table.now
room-8 d = d.requires.marks_room

start_below-2 : (d : goal.Else-not-linked) → mark_start (mark_bytes-8 d) (section-8 d) d.loop-i.i < d.args.n
start_below-2 d = (room-8 d).starts d.loop-i.i d.loop-i-test.true

cycle_below-2 : (d : goal.Else-not-linked) → mark_cycle (mark_bytes-8 d) (section-8 d) d.loop-i.i < d.args.n
cycle_below-2 d = (room-8 d).cycles d.loop-i.i d.loop-i-test.true

-- the mark's place in the table
spot_below : (d : goal.Else-not-linked) → mark_start (mark_bytes-8 d) (section-8 d) d.loop-i.i * 64 + mark_cycle (mark_bytes-8 d) (section-8 d) d.loop-i.i < mark_table_size
spot_below d = pair_below (table-2 d).small (start_below-2 d) (cycle_below-2 d)

abbrev mark_bytes-9 : goal.After-slice_known-in-loop-i-1-unread → List ℕ
mark_bytes-9 d = d.args.bytes.now

abbrev section-9 : goal.After-slice_known-in-loop-i-1-unread → ℕ
section-9 d = d.args.at

abbrev table-3 : (d : goal.After-slice_known-in-loop-i-1-unread) → Table d.args.rule.now d.args.n d.args.k
table-3 d = d.requires.table

abbrev room-9 : (d : goal.After-slice_known-in-loop-i-1-unread) → MarksRoom (mark_bytes-9 d) (section-9 d) d.args.count d.args.n d.args.table.now
room-9 d = d.requires.marks_room

start_below-3 : (d : goal.After-slice_known-in-loop-i-1-unread) → mark_start (mark_bytes-9 d) (section-9 d) d.loop-i.i < d.args.n
start_below-3 d = (room-9 d).starts d.loop-i.i d.loop-i-test.true

cycle_below-3 : (d : goal.After-slice_known-in-loop-i-1-unread) → mark_cycle (mark_bytes-9 d) (section-9 d) d.loop-i.i < d.args.n
cycle_below-3 d = (room-9 d).cycles d.loop-i.i d.loop-i-test.true

-- the mark's place in the table
spot_below-2 : (d : goal.After-slice_known-in-loop-i-1-unread) → mark_start (mark_bytes-9 d) (section-9 d) d.loop-i.i * 64 + mark_cycle (mark_bytes-9 d) (section-9 d) d.loop-i.i < mark_table_size
spot_below-2 d = pair_below (table-3 d).small (start_below-3 d) (cycle_below-3 d)

spot_in : (d : goal.After-slice_known-in-loop-i-1-unread) → mark_start (mark_bytes-9 d) (section-9 d) d.loop-i.i * 64 + mark_cycle (mark_bytes-9 d) (section-9 d) d.loop-i.i < length d.loop-i.table
spot_in d = omega (arith, spot_below-2 d, (room-9 d).room, d.loop-i.invariant.1.same_length)

abbrev mark_bytes-10 : goal.Then-table-s-ne0 → List ℕ
mark_bytes-10 d = d.args.bytes.now

abbrev section-10 : goal.Then-table-s-ne0 → ℕ
section-10 d = d.args.at

abbrev table-4 : (d : goal.Then-table-s-ne0) → Table d.args.rule.now d.args.n d.args.k
table-4 d = d.requires.table

abbrev room-10 : (d : goal.Then-table-s-ne0) → MarksRoom (mark_bytes-10 d) (section-10 d) d.args.count d.args.n d.args.table.now
room-10 d = d.requires.marks_room

start_below-4 : (d : goal.Then-table-s-ne0) → mark_start (mark_bytes-10 d) (section-10 d) d.loop-i.i < d.args.n
start_below-4 d = (room-10 d).starts d.loop-i.i d.loop-i-test.true

cycle_below-4 : (d : goal.Then-table-s-ne0) → mark_cycle (mark_bytes-10 d) (section-10 d) d.loop-i.i < d.args.n
cycle_below-4 d = (room-10 d).cycles d.loop-i.i d.loop-i-test.true

abbrev mark_bytes-11 : goal.Else-table-s-ne0 → List ℕ
mark_bytes-11 d = d.args.bytes.now

abbrev section-11 : goal.Else-table-s-ne0 → ℕ
section-11 d = d.args.at

abbrev table-5 : (d : goal.Else-table-s-ne0) → Table d.args.rule.now d.args.n d.args.k
table-5 d = d.requires.table

abbrev room-11 : (d : goal.Else-table-s-ne0) → MarksRoom (mark_bytes-11 d) (section-11 d) d.args.count d.args.n d.args.table.now
room-11 d = d.requires.marks_room

start_below-5 : (d : goal.Else-table-s-ne0) → mark_start (mark_bytes-11 d) (section-11 d) d.loop-i.i < d.args.n
start_below-5 d = (room-11 d).starts d.loop-i.i d.loop-i-test.true

cycle_below-5 : (d : goal.Else-table-s-ne0) → mark_cycle (mark_bytes-11 d) (section-11 d) d.loop-i.i < d.args.n
cycle_below-5 d = (room-11 d).cycles d.loop-i.i d.loop-i-test.true

-- the mark's place in the table
spot_below-3 : (d : goal.Else-table-s-ne0) → mark_start (mark_bytes-11 d) (section-11 d) d.loop-i.i * 64 + mark_cycle (mark_bytes-11 d) (section-11 d) d.loop-i.i < mark_table_size
spot_below-3 d = pair_below (table-5 d).small (start_below-5 d) (cycle_below-5 d)

spot_in-2 : (d : goal.Else-table-s-ne0) → mark_start (mark_bytes-11 d) (section-11 d) d.loop-i.i * 64 + mark_cycle (mark_bytes-11 d) (section-11 d) d.loop-i.i < length d.loop-i.table
spot_in-2 d = omega (arith, spot_below-3 d, (room-11 d).room, d.loop-i.invariant.1.same_length)

pub loop-i-init : goal.loop-i-init
loop-i-init c =
    (no_marks _ _ _, laid_start c.args.bytes.now c.args.at c.requires.table.small c.requires.marks_room, omega arith)

pub overflow_mul-place : goal.overflow_mul-place
overflow_mul-place c = omega (arith, (room c).long)

pub overflow_add-place : goal.overflow_add-place
overflow_add-place c = omega (arith, (room c).long)

pub overflow_add-place-in-loop-i : goal.overflow_add-place-in-loop-i
overflow_add-place-in-loop-i c = omega (arith, (room c).long)

pub bounds-bytes-place : goal.bounds-bytes-place
bounds-bytes-place c = omega (arith, (room-2 c).long)

pub overflow_cast-s : goal.overflow_cast-s
overflow_cast-s c = Fits-8_64 (c.type_inv.bytes _)

pub overflow_add-e : goal.overflow_add-e
overflow_add-e c = omega (arith, (room-3 c).long)

pub bounds-bytes-place-in-loop-i : goal.bounds-bytes-place-in-loop-i
bounds-bytes-place-in-loop-i c = omega (arith, (room-4 c).long)

pub overflow_cast-e : goal.overflow_cast-e
overflow_cast-e c = Fits-8_64 (c.type_inv.bytes _)

pub overflow_add-grade : goal.overflow_add-grade
overflow_add-grade c = omega (arith, (room-5 c).long)

pub bounds-bytes-place-in-loop-i-2 : goal.bounds-bytes-place-in-loop-i-2
bounds-bytes-place-in-loop-i-2 c = omega (arith, (room-6 c).long)

pub linked-requires : goal.linked-requires
unfolding mark_start mark_cycle
linked-requires c = record {
  table = table c;
  s_lt_n = (start_below c, cycle_below c);
}

pub shape_of-table-then-not-linked : goal.shape_of-table-then-not-linked
shape_of-table-then-not-linked c =
    c.loop-i.invariant.1.same_length

pub returns-then-not-linked : goal.returns-then-not-linked
unfolding mark_start mark_cycle
returns-then-not-linked c = record {
  refusal = λ input. mark_unlinked input _ c.loop-i.i c.loop-i-test.true c.loop-i.invariant.0
      (said_unlinked _ _ _ c.linked.result c.linked.ensures (ap not c.if-not-linked.true));
  laid = c.loop-i.invariant.1.same_length;
}

pub overflow_mul-s : goal.overflow_mul-s
unfolding mark_start mark_cycle
overflow_mul-s c = omega (arith, spot_below c)

pub overflow_add-s : goal.overflow_add-s
unfolding mark_start mark_cycle
overflow_add-s c = omega (arith, spot_below c)

pub bounds-table-s : goal.bounds-table-s
unfolding mark_start mark_cycle
bounds-table-s c =
    spot_in c

pub shape_of-table-then-table-s-ne0 : goal.shape_of-table-then-table-s-ne0
shape_of-table-then-table-s-ne0 c =
    c.loop-i.invariant.1.same_length

pub returns-then-table-s-ne0 : goal.returns-then-table-s-ne0
unfolding mark_start mark_cycle
returns-then-table-s-ne0 c =
    let l = said_linked _ _ _ c.linked.result c.linked.ensures (ap not c.if-not-linked.false) in
    let f = mark_seen (mark_bytes-10 c) (section-10 c) c.loop-i.i (table-4 c).small c.loop-i.invariant.1 (start_below-4 c) (cycle_below-4 c) c.if-table-s-ne0.true in record {
      refusal = λ input. mark_repeated input _ c.loop-i.i c.loop-i-test.true c.loop-i.invariant.0 l f.earlier f.before
          f.same_start f.same_cycle;
      laid = c.loop-i.invariant.1.same_length;
    }

pub overflow_mul-table : goal.overflow_mul-table
unfolding mark_start mark_cycle
overflow_mul-table c =
    omega (arith, spot_below-3 c)

pub overflow_add-table : goal.overflow_add-table
unfolding mark_start mark_cycle
overflow_add-table c =
    omega (arith, spot_below-3 c)

pub bounds-table-s-in-loop-i : goal.bounds-table-s-in-loop-i
unfolding mark_start mark_cycle
bounds-table-s-in-loop-i c =
    spot_in-2 c

pub loop-i-preserved : goal.loop-i-preserved
unfolding mark_start mark_cycle mark_grade
loop-i-preserved c =
    let l = said_linked _ _ _ c.linked.result c.linked.ensures (ap not c.if-not-linked.false) in (
      good_more c.loop-i.invariant.0
          (record { linked = l; fresh = mark_new (mark_bytes-11 c) (section-11 c) c.loop-i.i (table-5 c).small c.loop-i.invariant.1 (start_below-5 c) (cycle_below-5 c) (λ j h. ((room-11 c).grades j (omega (arith, c.loop-i-test.true))).above) c.if-table-s-ne0.false }),
      laid_next (mark_bytes-11 c) (section-11 c) c.loop-i.i (table-5 c).small c.loop-i.invariant.1 (start_below-5 c) (cycle_below-5 c) (spot_in-2 c),
      omega arith,
    )

pub shape_of-table : goal.shape_of-table
shape_of-table c = c.loop-i.invariant.1.same_length

pub returns : goal.returns
returns c =
    let e : c.loop-i.i ≡ c.args.count = omega arith in record {
      refusal = λ input. marks_pass input _ (subst (GoodMarks (morphism_at c.args.rule.now c.args.n c.args.k) c.args.bytes.now c.args.at) e c.loop-i.invariant.0);
      laid = subst (λ (x : ℕ). MarksLaid (grade_among c.args.bytes.now c.args.at x) c.args.n c.args.table.now c.loop-i.table) e c.loop-i.invariant.1;
    }
