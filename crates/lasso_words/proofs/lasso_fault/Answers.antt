-- `lasso_words::lasso_fault` meets its contract: each way through the tests is the first check that fails, or none. Assumes nothing.
use mathlib.Core.Logic.{inl, inr}
use native.Mathlib.Omega.{arith}
use Rattle.lasso_words.proofs.Lassos.{foreign_at, letters_below, start_out, cycle_out, start_foreign, cycle_foreign, good_lasso}
use Rattle.lasso_words.proofs.lasso_fault.Goals as goal

pub returns-then-u-gt-LONGEST_WORD : goal.returns-then-u-gt-LONGEST_WORD
returns-then-u-gt-LONGEST_WORD c = start_out _ _ _ c.if-u-gt-LONGEST_WORD.true

pub returns-then-v-lt1 : goal.returns-then-v-lt1
returns-then-v-lt1 c = cycle_out _ _ _ (record { some = omega arith; short = omega arith }) (inl c.if-v-lt1.true)

pub returns-then-v-gt-LONGEST_WORD : goal.returns-then-v-gt-LONGEST_WORD
returns-then-v-gt-LONGEST_WORD c = cycle_out _ _ _ (record { some = omega arith; short = omega arith }) (inr c.if-v-gt-LONGEST_WORD.true)

pub returns-in-Some : goal.returns-in-Some
returns-in-Some c =
    let a = c.args in
    start_foreign _ _ _ (record { some = omega arith; short = omega arith }) (record { some = omega arith; short = omega arith })
    (foreign_at a.k a.u.now c.first_out.result c.first_out.ensures c.in-Some.is)

pub returns-in-Some-first_out : goal.returns-in-Some-first_out
returns-in-Some-first_out c =
    let a = c.args in
    cycle_foreign _ _ _ (record { some = omega arith; short = omega arith }) (record { some = omega arith; short = omega arith })
    (letters_below a.k a.u.now c.first_out.result c.first_out.ensures c.in-None.is)
    (foreign_at a.k a.v.now c.first_out-2.result c.first_out-2.ensures c.in-Some-first_out.is)

pub returns-in-None-first_out : goal.returns-in-None-first_out
returns-in-None-first_out c =
    let a = c.args in
    good_lasso _ _ _ (record { some = omega arith; short = omega arith }) (record { some = omega arith; short = omega arith })
    (letters_below a.k a.u.now c.first_out.result c.first_out.ensures c.in-None.is)
    (letters_below a.k a.v.now c.first_out-2.result c.first_out-2.ensures c.in-None-first_out.is)
