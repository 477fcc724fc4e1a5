-- The loop holds that no cycle escapes at the grades that were passed. Assumes nothing.
use Rattle.std.proofs.Common.{arith, refl}
use Rattle.std.proofs.lemmas.Option.{MatchOption-at_none, MatchOption-at_some}
use Rattle.mark_grade_search.proofs.Grades.{searched_start, pass_room, next_place, escaped_none, escaped_at, searched_next}
use Rattle.mark_grade_search.proofs.highest_escape.Goals as goal

pub loop-grade-init : goal.loop-grade-init
loop-grade-init c =
    searched_start c.requires.table.small c.requires.escape_needs

pub overflow_mul-n : goal.overflow_mul-n
overflow_mul-n c = omega (arith, c.requires.table.small)

pub highest_below-requires : goal.highest_below-requires
highest_below-requires c =
    (omega (arith, c.loop-grade.invariant.some), pass_room c.requires.table.small c.requires.escape_needs c.loop-grade.invariant)

pub first_escape-requires : goal.first_escape-requires
first_escape-requires c = record {
  table = c.requires.table;
  escape_needs = next_place c.requires.table.small c.requires.escape_needs c.loop-grade.invariant;
}

pub returns-in-Some-first_escape : goal.returns-in-Some-first_escape
returns-in-Some-first_escape c =
    let highest = MatchOption-at_some _ _ _ c.in-Some.is c.highest_below.ensures in
    let positive = highest.1 in
    escaped_at c.requires.table.small c.requires.escape_needs c.loop-grade.invariant highest.0 (λ e. omega arith) c.first_escape.ensures c.in-Some-first_escape.is

pub loop-grade-smaller : goal.loop-grade-smaller
loop-grade-smaller c =
    let highest = MatchOption-at_some _ _ _ c.in-Some.is c.highest_below.ensures in
    let positive = highest.1 in
    omega (arith, highest.0.less)

pub loop-grade-preserved : goal.loop-grade-preserved
loop-grade-preserved c =
    let highest = MatchOption-at_some _ _ _ c.in-Some.is c.highest_below.ensures in
    let positive = highest.1 in
    searched_next c.requires.table.small c.requires.escape_needs c.loop-grade.invariant highest.0 (λ e. omega arith) c.first_escape.ensures c.in_default-first_escape.is

pub shape_of-scratch : goal.shape_of-scratch
shape_of-scratch c = c.loop-grade.invariant.same_length

pub returns : goal.returns
returns c =
    escaped_none c.requires.table.small c.requires.escape_needs c.loop-grade.invariant (MatchOption-at_none _ _ c.in_default.is c.highest_below.ensures) refl
