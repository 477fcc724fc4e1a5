-- `board_pass::visit_all` meets its contract: one name more each turn, and scratch as it was. Assumes nothing.
use mathlib.Core.Path.{refl, sym, ap, ◌∙◌, subst}
use native.Mathlib.Omega.{arith}
use lib.ListN.{length}
use Rattle.board_pass.specs.Passes.{Cleared}
use Rattle.board_pass.proofs.Visited.{pass_begun, pass_ended}
use Rattle.board_pass.proofs.visit_all.Goals as goal

pub loop-i-init : goal.loop-i-init
loop-i-init c = (pass_begun _ _ _ _, refl, omega arith)

pub visit-pass-requires : goal.visit-pass-requires
visit-pass-requires c = record {
  i_lt_board_names_count = omega arith;
  files_size_in_bounds = c.requires.files_size_in_bounds;
  cleared = subst Cleared (sym c.loop-i.invariant.1) c.requires.cleared;
  pass_at = c.loop-i.invariant.0;
}

pub loop-i-preserved : goal.loop-i-preserved
loop-i-preserved c =
    (c.visit-pass.ensures.pass, c.visit-pass.ensures.scratch ∙ c.loop-i.invariant.1, omega arith)

pub shape_of-scratch : goal.shape_of-scratch
shape_of-scratch c = ap length c.loop-i.invariant.1

pub returns : goal.returns
returns c =
    let end = c.loop-i.invariant in record {
      pass = pass_ended end.0 c.loop-i-test.false end.2;
      scratch = end.1;
    }
