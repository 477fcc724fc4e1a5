-- `board::leave` meets its contract: the buffers, the name, then everybody. Assumes nothing.
use Prim.Native.Nat.{◌≤◌}
use mathlib.Core.Path.{refl, ◌∙◌, ap}
use mathlib.Core.Bool.{true, not}
use borrow.Author.Rules.{rules}
use borrow.Author.Tests.{not-true, not-false}
use lib.ListN.{length}
use Rattle.formats.specs.RuleChecks.{scratch_size}
use Rattle.board_promises.specs.Boards.{files_size}
use Rattle.board_promises.specs.Monitors.{Whole}
use Rattle.board_values.specs.Presence.{PresentAnswer}
use Rattle.board_values.proofs.Flags.{said_present, said_absent}
use Rattle.board.proofs.Rooms.{filled_cleared, said_short, said_long}
use Rattle.board.proofs.Answered.{absent_refused, leave_decided, leave_present, call_short, call_decided, refused_decided, leave_call}
use Rattle.board.proofs.leave.Goals as goal

rooms : (c : goal.After-refuse-then-not-there) → (files_size ≤ length c.args.files.now) × (scratch_size ≤ length c.args.scratch.now)
rooms c = said_long c.args.files.now c.args.scratch.now c.short.result c.short.ensures c.if-short.false

rooms-2 : (c : goal.After-visit_all-arg-1) → (files_size ≤ length c.args.files.now) × (scratch_size ≤ length c.args.scratch.now)
rooms-2 c = said_long c.args.files.now c.args.scratch.now c.short.result c.short.ensures c.if-short.false

present : (c : goal.After-slice_known-3-1) → PresentAnswer c.args.board c.args.name true
present c =
    let a = c.args in
    said_present a.board a.name c.there.result c.there.ensures (not-false _ (ap not c.if-not-there.false))

rooms-3 : (c : goal.After-after_leaving) → (files_size ≤ length c.args.files.now) × (scratch_size ≤ length c.args.scratch.now)
rooms-3 c = said_long c.args.files.now c.args.scratch.now c.short.result c.short.ensures c.if-short.false

present-2 : (c : goal.After-after_leaving) → PresentAnswer c.args.board c.args.name true
present-2 c =
    let a = c.args in
    said_present a.board a.name c.there.result c.there.ensures (not-false _ (ap not c.if-not-there.false))

-- the board's arrays, where the buffers are long enough, and where the name is present
whole_board : (s : goal.After-after_leaving) → Whole s.args.board
whole_board s = search rules

pub returns-then-short : goal.returns-then-short
returns-then-short c =
    leave_call (call_short (said_short c.args.files.now c.args.scratch.now c.short.result c.short.ensures c.if-short.true) c.refuse.ensures refl)

pub returns-then-not-there : goal.returns-then-not-there
returns-then-not-there c =
    let a = c.args in
    leave_call (call_decided (rooms c)
    (refused_decided (absent_refused a.board a.files.now (said_absent a.board a.name c.there.result c.there.ensures (not-true _ (ap not c.if-not-there.true)))) c.refuse-then-not-there.ensures)
    c.clear.ensures)

pub visit_all-pass-requires : goal.visit_all-pass-requires
visit_all-pass-requires c = record {
  files_size_in_bounds = (rooms-2 c).0;
  cleared = filled_cleared c.args.scratch.now _ (rooms-2 c).1 c.clear.ensures;
}

pub after_leaving-requires : goal.after_leaving-requires
after_leaving-requires c = (present c).0

pub returns : goal.returns
returns c =
    let a = c.args in
    leave_call (call_decided (rooms-3 c)
    (leave_present (present-2 c) (leave_decided a.board a.files.now (whole_board c) (present-2 c).0 c.visit_all-pass.ensures.pass c.after_leaving.ensures))
    (c.visit_all-pass.ensures.scratch ∙ c.clear.ensures))
