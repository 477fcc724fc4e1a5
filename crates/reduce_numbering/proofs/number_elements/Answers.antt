-- `reduce_numbering::number_elements` meets its contract: the elements of the entries that were passed have their numbers. Assumes nothing.
use Rattle.std.proofs.Common.{◌<◌, ◌≤◌, length, arith}
use Rattle.reduce_numbering.proofs.Steps.{numbered_none, numbered_more, numbered_all, entries_many, entry_item}
use Rattle.scratch.proofs.Unchanged.{unchanged_room}
use Rattle.reduce_numbering.proofs.number_elements.Goals as goal

pub loop-s-init : goal.loop-s-init
loop-s-init c = (numbered_none _ _ _, omega arith)

pub number_element-c-requires : goal.number_element-c-requires
number_element-c-requires c =
    let e = c.requires.entries in
    let room : c.args.count ≤ length c.args.queue.now = omega (arith, e.long, e.few, e.small) in
    let below : c.loop-s.s-index < c.args.count = omega (arith, c.loop-s-test.true, entries_many c.args.queue.now c.args.count room) in
    record {
      c_bound = (
        omega (arith, c.loop-s.invariant.0.few, e.few, e.small),
        omega (arith, e.small, e.inside _ below, entry_item c.args.queue.now c.args.count room c.loop-s.s-index below),
      );
      scratch_size_in_bounds = unchanged_room c.loop-s.invariant.0.kept c.requires.scratch_size_in_bounds;
    }

pub loop-s-preserved : goal.loop-s-preserved
loop-s-preserved c =
    let e = c.requires.entries in
    let room : c.args.count ≤ length c.args.queue.now = omega (arith, e.long, e.few, e.small) in
    let below : c.loop-s.s-index < c.args.count = omega (arith, c.loop-s-test.true, entries_many c.args.queue.now c.args.count room) in (
      numbered_more e below (unchanged_room c.loop-s.invariant.0.kept c.requires.scratch_size_in_bounds) c.loop-s.invariant.0
          (rw (entry_item c.args.queue.now c.args.count room c.loop-s.s-index below) at c.number_element-c.ensures),
      omega arith,
    )

pub shape_of-scratch : goal.shape_of-scratch
shape_of-scratch c = c.loop-s.invariant.0.kept.same_length

pub returns : goal.returns
returns c =
    let e = c.requires.entries in
    let room : c.args.count ≤ length c.args.queue.now = omega (arith, e.long, e.few, e.small) in
    numbered_all c.loop-s.invariant.1 (omega (arith, c.loop-s-test.false, entries_many c.args.queue.now c.args.count room)) c.loop-s.invariant.0
