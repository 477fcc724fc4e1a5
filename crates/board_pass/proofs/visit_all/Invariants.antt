-- `board_pass::visit_all` meets its contract: one name more each turn, and scratch as it was. Assumes nothing.
use Prim.Native.Nat.{◌≤◌}
use mathlib.Core.Path.{◌≡◌}
use Rattle.board_promises.specs.Boards.{board_names_count}
use Rattle.board_pass.specs.Passes.{PassAt}
use Rattle.board_pass.proofs.visit_all.Given as goal

abbrev pub invariant-loop-i : goal.invariant-loop-i
invariant-loop-i l = PassAt l.board l.files l.step l.leaver l.i l.pass × (l.scratch ≡ l.initial.scratch) × (l.i ≤ board_names_count)
