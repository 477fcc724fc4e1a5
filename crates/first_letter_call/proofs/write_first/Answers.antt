-- A grade of 0, letters of two kinds, all in the set, or none. Assumes nothing.
use native.Mathlib.Omega.{arith}
use Rattle.first_letter_call.proofs.Rules.{written_zero, written_none, written_every, written_other}
use Rattle.first_letter_call.proofs.write_first.Goals as goal

pub write_one-requires : goal.write_one-requires
write_one-requires c = let p = c.requires in (p.0, p.1, omega arith, p.3)

pub returns-then-grade-eq0 : goal.returns-then-grade-eq0
returns-then-grade-eq0 c =
    let p = c.requires in written_zero p.0 p.1 _ _ c.if-grade-eq0.true c.write_one.ensures

pub write_two-requires : goal.write_two-requires
write_two-requires c = let p = c.requires in let f = c.if-grade-eq0.false in (p.0, p.1, omega arith, p.2, p.3)

pub returns-then-other-k : goal.returns-then-other-k
returns-then-other-k c =
    let p = c.requires in let f = c.if-grade-eq0.false in written_other p.0 p.1 _ _ c.first_other-other.ensures c.if-other-k.true (omega arith) p.2 c.write_two.ensures

pub write_one-requires-then-in_set : goal.write_one-requires-then-in_set
write_one-requires-then-in_set c = c.requires

pub returns-then-in_set : goal.returns-then-in_set
returns-then-in_set c =
    let p = c.requires in written_every p.0 p.1 _ _ c.first_other-other.ensures c.if-other-k.false c.in_set.ensures c.if-in_set.true p.2 c.write_one-then-in_set.ensures

pub write_one-requires-2 : goal.write_one-requires-2
write_one-requires-2 c =
    let p = c.requires in (p.0, p.1, omega arith, p.3)

pub returns : goal.returns
returns c =
    let p = c.requires in written_none p.0 p.1 _ _ c.first_other-other.ensures c.if-other-k.false c.in_set.ensures c.if-in_set.false c.write_one-2.ensures
