-- `stretch_call::stretch` meets its contract: each way through the tests is one case of the definition. Assumes nothing.
use native.Mathlib.Omega.{arith}
use native.Mathlib.Nat.{mod-lt}
use lib.ListN.{length}
use Prim.Native.Nat.{◌-◌}
use Rattle.stretch_call.proofs.Parts.{empty, long, Fit, start_unfit, cycle_unfit, in_start, in_cycle, start_unfit_place, cycle_unfit_place, in_start_place, in_cycle_place}
use Rattle.stretch_call.proofs.stretch.Goals as goal

pub returns-then-u-gt-LONGEST_WORD : goal.returns-then-u-gt-LONGEST_WORD
returns-then-u-gt-LONGEST_WORD c = let h = long c.if-u-gt-LONGEST_WORD.true in record {
  result_value = start_unfit _ _ h;
  place = start_unfit_place _ _ _ _ h;
}

pub returns-then-v-lt1 : goal.returns-then-v-lt1
returns-then-v-lt1 c = let h = empty c.if-v-lt1.true in record {
  result_value = cycle_unfit _ _ h;
  place = cycle_unfit_place _ _ _ _ h;
}

pub returns-then-v-gt-LONGEST_WORD : goal.returns-then-v-gt-LONGEST_WORD
returns-then-v-gt-LONGEST_WORD c = let h = long c.if-v-gt-LONGEST_WORD.true in record {
  result_value = cycle_unfit _ _ h;
  place = cycle_unfit_place _ _ _ _ h;
}

pub returns-then-position-u : goal.returns-then-position-u
returns-then-position-u c =
    let a = c.args in
    let fu : Fit 0 a.u.now = record { some = omega arith; short = omega arith } in
    let fv : Fit 1 a.v.now = record { some = omega arith; short = omega arith } in
    let h = c.if-position-u.true in record {
      result_value = in_start fu fv _ h;
      place = in_start_place a.u.ref_ptr a.v.ref_ptr fu fv _ h (omega arith);
    }

pub slice_bounds-result-count-2 : goal.slice_bounds-result-count-2
slice_bounds-result-count-2 c =
    let a = c.args in
    omega (arith, mod-lt (a.position - length a.u.now) {m = length a.v.now} (omega arith))

pub slice_bounds-result-start-2 : goal.slice_bounds-result-start-2
slice_bounds-result-start-2 c =
    let a = c.args in
    omega (arith, mod-lt (a.position - length a.u.now) {m = length a.v.now} (omega arith))

pub returns : goal.returns
returns c =
    let a = c.args in
    let fu : Fit 0 a.u.now = record { some = omega arith; short = omega arith } in
    let fv : Fit 1 a.v.now = record { some = omega arith; short = omega arith } in
    let h = c.if-position-u.false in record {
      result_value = in_cycle fu fv _ h;
      place = in_cycle_place a.u.ref_ptr a.v.ref_ptr fu fv _ h (omega arith);
    }
