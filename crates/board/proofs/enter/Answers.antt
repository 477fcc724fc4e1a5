-- `board::enter` meets its contract: the buffers, the name, everybody, the file; then the copy, and the board with the name. Assumes nothing.
use Prim.Native.Nat.{◌≤◌}
use mathlib.Core.Path.{refl, ap, ◌∙◌}
use mathlib.Core.Bool.{true, not}
use borrow.Author.Rules.{rules}
use borrow.Author.Tests.{not-true, not-false}
use lib.ListN.{length}
use Rattle.formats.specs.RuleChecks.{scratch_size}
use Rattle.board_promises.specs.declared.Board.{Board}
use Rattle.board_promises.specs.declared.Notice.TheVariants.{Done}
use Rattle.board_promises.specs.declared.Posted.{Posted}
use Rattle.board_promises.specs.Boards.{files_size}
use Rattle.board_promises.specs.Monitors.{Whole}
use Rattle.board_answers.proofs.Notices.{said_refuses, said_done}
use Rattle.board_values.specs.Presence.{FreeAnswer}
use Rattle.board_values.proofs.FreeNames.{said_free, said_taken}
use Rattle.board.proofs.Rooms.{filled_cleared, said_short, said_long}
use Rattle.board.proofs.Answered.{file_fits, enter_short, enter_taken, enter_refused, enter_done}
use Rattle.board.proofs.enter.Goals as goal

abbrev posted : Board → Posted
posted b = record { board = b; notice = Done }

rooms : (c : goal.After-refuse-then-not-free) → (files_size ≤ length c.args.files.now) × (scratch_size ≤ length c.args.scratch.now)
rooms c = said_long c.args.files.now c.args.scratch.now c.short.result c.short.ensures c.if-short.false

rooms-2 : (c : goal.After-admit-arg-1) → (files_size ≤ length c.args.files.now) × (scratch_size ≤ length c.args.scratch.now)
rooms-2 c = said_long c.args.files.now c.args.scratch.now c.short.result c.short.ensures c.if-short.false

rooms-3 : (c : goal.Then-refuses) → (files_size ≤ length c.args.files.now) × (scratch_size ≤ length c.args.scratch.now)
rooms-3 c = said_long c.args.files.now c.args.scratch.now c.short.result c.short.ensures c.if-short.false

is_free : (c : goal.Then-refuses) → FreeAnswer c.args.board c.args.name true
is_free c =
    let a = c.args in
    said_free a.board a.name c.free.result c.free.ensures (not-false _ (ap not c.if-not-free.false))

is_free-2 : (c : goal.After-put-arg-1) → FreeAnswer c.args.board c.args.name true
is_free-2 c =
    let a = c.args in
    said_free a.board a.name c.free.result c.free.ensures (not-false _ (ap not c.if-not-free.false))

rooms-4 : (c : goal.After-put-arg-1) → (files_size ≤ length c.args.files.now) × (scratch_size ≤ length c.args.scratch.now)
rooms-4 c = said_long c.args.files.now c.args.scratch.now c.short.result c.short.ensures c.if-short.false

is_free-3 : (c : goal.After-slice_known-5-1) → FreeAnswer c.args.board c.args.name true
is_free-3 c =
    let a = c.args in
    said_free a.board a.name c.free.result c.free.ensures (not-false _ (ap not c.if-not-free.false))

rooms-5 : (c : goal.After-with_entered) → (files_size ≤ length c.args.files.now) × (scratch_size ≤ length c.args.scratch.now)
rooms-5 c = said_long c.args.files.now c.args.scratch.now c.short.result c.short.ensures c.if-short.false

is_free-4 : (c : goal.After-with_entered) → FreeAnswer c.args.board c.args.name true
is_free-4 c =
    let a = c.args in
    said_free a.board a.name c.free.result c.free.ensures (not-false _ (ap not c.if-not-free.false))

-- the board's arrays, where the buffers are long enough, and where the name is free
whole_board : (s : goal.After-with_entered) → Whole s.args.board
whole_board s = search rules

pub returns-then-short : goal.returns-then-short
returns-then-short c =
    enter_short (said_short c.args.files.now c.args.scratch.now c.short.result c.short.ensures c.if-short.true) c.refuse.ensures refl

pub returns-then-not-free : goal.returns-then-not-free
returns-then-not-free c =
    let a = c.args in
    enter_taken (rooms c) c.clear.ensures (said_taken a.board a.name c.free.result c.free.ensures (not-true _ (ap not c.if-not-free.true)))
    c.refuse-then-not-free.ensures

pub admit-pass-requires : goal.admit-pass-requires
admit-pass-requires c = record {
  files_size_in_bounds = (rooms-2 c).0;
  cleared = filled_cleared c.args.scratch.now _ (rooms-2 c).1 c.clear.ensures;
}

pub returns-then-refuses : goal.returns-then-refuses
returns-then-refuses c =
    enter_refused (rooms-3 c) (c.admit-pass.ensures.scratch ∙ c.clear.ensures) (is_free c) c.admit-pass.ensures.pass
    (said_refuses _ c.refuses.result c.refuses.ensures c.if-refuses.true) refl

pub put-requires : goal.put-requires
put-requires c =
    file_fits c.admit-pass.ensures.pass (said_done _ c.refuses.result c.refuses.ensures c.if-refuses.false) (is_free-2 c).0 (rooms-4 c).0

pub with_entered-requires : goal.with_entered-requires
with_entered-requires c = (is_free-3 c).0

pub returns : goal.returns
returns c =
    enter_done (rooms-5 c) (c.admit-pass.ensures.scratch ∙ c.clear.ensures) (is_free-4 c) c.admit-pass.ensures.pass
    (said_done _ c.refuses.result c.refuses.ensures c.if-refuses.false) (whole_board c) c.put.ensures (ap posted c.with_entered.ensures)
