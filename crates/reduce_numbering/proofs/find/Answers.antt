-- `reduce_numbering::find` meets its contract: none of the leaders that were passed is in one block with s. Assumes nothing.
use Rattle.std.proofs.Common.{ℕ, ◌+◌, ◌<◌, ◌≤◌, length, get_or, sym, ap, ◌∙◌, arith}
use Rattle.scratch.specs.Map.{blocks_base, leaders_base}
use Rattle.reduce_numbering.proofs.Steps.{none_start, none_next, sought_found, sought_none, part_many, part_item}
use Rattle.reduce_numbering.proofs.find.Goals as goal

pub loop-j-init : goal.loop-j-init
loop-j-init c = none_start

pub returns-then-scratch-leader : goal.returns-then-scratch-leader
returns-then-scratch-leader c =
    let bytes = c.args.scratch.now in
    let room : leaders_base + c.args.c ≤ length bytes = omega (arith, c.requires.c_bound, c.requires.scratch_size_in_bounds) in
    let below : c.loop-j.j < c.args.c = omega (arith, c.loop-j-test.true, part_many bytes leaders_base c.args.c room) in
    sought_found below c.loop-j.invariant
    (ap (λ (x : ℕ). get_or bytes (blocks_base + x) 0) (sym (part_item bytes leaders_base c.args.c room c.loop-j.j below)) ∙ c.if-scratch-leader.true)

pub loop-j-preserved : goal.loop-j-preserved
loop-j-preserved c =
    let bytes = c.args.scratch.now in
    let room : leaders_base + c.args.c ≤ length bytes = omega (arith, c.requires.c_bound, c.requires.scratch_size_in_bounds) in
    let below : c.loop-j.j < c.args.c = omega (arith, c.loop-j-test.true, part_many bytes leaders_base c.args.c room) in
    none_next c.loop-j.invariant
    (λ q. c.if-scratch-leader.false (ap (λ (x : ℕ). get_or bytes (blocks_base + x) 0) (part_item bytes leaders_base c.args.c room c.loop-j.j below) ∙ q))

pub returns : goal.returns
returns c =
    let bytes = c.args.scratch.now in
    let room : leaders_base + c.args.c ≤ length bytes = omega (arith, c.requires.c_bound, c.requires.scratch_size_in_bounds) in
    sought_none (omega (arith, c.loop-j-test.false, part_many bytes leaders_base c.args.c room)) c.loop-j.invariant
