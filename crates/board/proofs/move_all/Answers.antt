-- `board::move_all` meets its contract: the buffers, then everybody, then what the pass comes to. Assumes nothing.
use Prim.Native.Nat.{◌≤◌}
use mathlib.Core.Path.{refl, ◌∙◌}
use borrow.Author.Rules.{rules}
use lib.ListN.{length}
use Rattle.formats.specs.RuleChecks.{scratch_size}
use Rattle.board_promises.specs.Boards.{files_size}
use Rattle.board_promises.specs.Monitors.{Whole}
use Rattle.board.proofs.Rooms.{filled_cleared, said_short, said_long}
use Rattle.board.proofs.Answered.{step_decided, call_short, call_decided}
use Rattle.board.proofs.move_all.Goals as goal

rooms : (c : goal.After-visit_all-arg-1) → (files_size ≤ length c.args.files.now) × (scratch_size ≤ length c.args.scratch.now)
rooms c = said_long c.args.files.now c.args.scratch.now c.short.result c.short.ensures c.if-short.false

rooms-2 : (c : goal.After-after_step) → (files_size ≤ length c.args.files.now) × (scratch_size ≤ length c.args.scratch.now)
rooms-2 c = said_long c.args.files.now c.args.scratch.now c.short.result c.short.ensures c.if-short.false

-- the board's arrays, and where the buffers are long enough
whole_board : (s : goal.After-after_step) → Whole s.args.board
whole_board s = search rules

pub returns-then-short : goal.returns-then-short
returns-then-short c =
    call_short (said_short c.args.files.now c.args.scratch.now c.short.result c.short.ensures c.if-short.true) c.refuse.ensures refl

pub visit_all-pass-requires : goal.visit_all-pass-requires
visit_all-pass-requires c = record {
  files_size_in_bounds = (rooms c).0;
  cleared = filled_cleared c.args.scratch.now _ (rooms c).1 c.clear.ensures;
}

pub returns : goal.returns
returns c =
    call_decided (rooms-2 c) (step_decided _ _ (whole_board c) _ c.visit_all-pass.ensures.pass c.after_step.ensures)
    (c.visit_all-pass.ensures.scratch ∙ c.clear.ensures)
