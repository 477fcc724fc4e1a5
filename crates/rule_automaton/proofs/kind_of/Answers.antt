-- `rule_automaton::kind_of` meets its contract: the least grade, then the state; 64 is final, and an element is initial by its grade. Assumes nothing.
use Prim.Native.Nat.{◌≤◌, ◌<◌}
use native.Mathlib.Omega.{arith}
use lib.ListN.{length}
use Rattle.scratch.specs.Map.{mark_table_size}
use mathlib.Core.Logic.{inl, inr}
use Rattle.rule_automaton.proofs.StateKinds.{pair_inside, kind_least, kind_missing, kind_final, kind_initial, kind_plain}
use mathlib.Core.Bool.{not}
use mathlib.Core.Path.{ap}
use Rattle.rule_automaton.proofs.kind_of.Goals as goal

-- the pair is one of elements, and the table of marks has a byte for it
below : (c : goal.Else-s-eq64) → (c.args.s < c.args.n)
    × (c.args.e < c.args.n)
below c =
    pair_inside _ _ _ c.is_state-found.ensures (ap not c.if-not-found.false) c.if-s-eq64.false

small : (c : goal.Else-s-eq64) → c.args.n ≤ 64
small c =
    c.requires.table.small

-- the pair is one of elements, and the table of marks has a byte for it
below-2 : (c : goal.After-shared_slice_known-3-1-unread) → (c.args.s < c.args.n)
    × (c.args.e < c.args.n)
below-2 c =
    pair_inside _ _ _ c.is_state-found.ensures (ap not c.if-not-found.false) c.if-s-eq64.false

small-2 : (c : goal.After-shared_slice_known-3-1-unread) → c.args.n ≤ 64
small-2 c =
    c.requires.table.small

room : (c : goal.After-shared_slice_known-3-1-unread) → mark_table_size ≤ length c.args.marks.now
room c =
    c.requires.mark_table_size_in_bounds

pub returns-then-least-lt1 : goal.returns-then-least-lt1
returns-then-least-lt1 c = kind_least _ _ _ _ _ (inl c.if-least-lt1.true)

pub returns-then-least-gt3 : goal.returns-then-least-gt3
returns-then-least-gt3 c = kind_least _ _ _ _ _ (inr c.if-least-gt3.true)

pub returns-then-not-found : goal.returns-then-not-found
returns-then-not-found c =
    kind_missing _ _ _ _ _ c.if-least-lt1.false c.if-least-gt3.false c.is_state-found.ensures (ap not c.if-not-found.true)

pub returns-then-s-eq64 : goal.returns-then-s-eq64
returns-then-s-eq64 c =
    kind_final _ _ _ _ _ c.if-least-lt1.false c.if-least-gt3.false c.is_state-found.ensures (ap not c.if-not-found.false) c.if-s-eq64.true

pub overflow_mul-grade : goal.overflow_mul-grade
overflow_mul-grade c = omega (arith, (below c).0, small c)

pub overflow_add-grade : goal.overflow_add-grade
overflow_add-grade c = omega (arith, (below c).0, (below c).1, small c)

pub bounds-marks-s : goal.bounds-marks-s
bounds-marks-s c = omega (arith, (below-2 c).0, (below-2 c).1, small-2 c, room c)

pub returns-then-least-grade : goal.returns-then-least-grade
returns-then-least-grade c =
    kind_initial _ _ _ _ _ c.if-least-lt1.false c.if-least-gt3.false c.is_state-found.ensures (ap not c.if-not-found.false) c.if-s-eq64.false c.if-least-grade.true

pub returns : goal.returns
returns c =
    kind_plain _ _ _ _ _ c.if-least-lt1.false c.if-least-gt3.false c.is_state-found.ensures (ap not c.if-not-found.false) c.if-s-eq64.false c.if-least-grade.false
