-- `keep_and_return_call::return_to` meets its contract: what the beginning refuses is refused first, then the name, a name never kept and the values;
-- else the two values under the name are read. Assumes nothing.
use Prim.Native.Nat.{◌≤◌, ◌<◌}
use native.Mathlib.Omega.{arith}
use mir.Facts.{Fits-8_64}
use lib.ListN.{length}
use Rattle.promises.specs.Points.{names_count, points_size}
use Rattle.keep_and_return_call.proofs.Ways.{return_refused, points_room, return_fault, return_name, return_read}
use Rattle.keep_and_return_call.proofs.return_to.Goals as goal

room : (c : goal.In-Ok) → points_size ≤ length c.args.points.now
room c =
    points_room _ _ _ _ c.begin.result c.begin.ensures c.in-Ok.is

-- a name that passed
named : (c : goal.In-Ok-return_fault) → c.args.name < names_count
named c =
    return_name _ _ _ _ _ _ c.begin.result c.begin.ensures c.in-Ok.is c.return_fault.result c.return_fault.ensures c.in-Ok-return_fault.is

-- a name that passed
named-2 : (c : goal.After-shared_slice_known-3-1-unread) → c.args.name < names_count
named-2 c =
    return_name _ _ _ _ _ _ c.begin.result c.begin.ensures c.in-Ok.is c.return_fault.result c.return_fault.ensures c.in-Ok-return_fault.is

room-2 : (c : goal.After-shared_slice_known-3-1-unread) → points_size ≤ length c.args.points.now
room-2 c =
    points_room _ _ _ _ c.begin.result c.begin.ensures c.in-Ok.is

-- a name that passed
named-3 : (c : goal.After-shared_slice_known-3-1) → c.args.name < names_count
named-3 c =
    return_name _ _ _ _ _ _ c.begin.result c.begin.ensures c.in-Ok.is c.return_fault.result c.return_fault.ensures c.in-Ok-return_fault.is

-- a name that passed
named-4 : (c : goal.After-shared_slice_known-4-1-unread) → c.args.name < names_count
named-4 c =
    return_name _ _ _ _ _ _ c.begin.result c.begin.ensures c.in-Ok.is c.return_fault.result c.return_fault.ensures c.in-Ok-return_fault.is

room-3 : (c : goal.After-shared_slice_known-4-1-unread) → points_size ≤ length c.args.points.now
room-3 c =
    points_room _ _ _ _ c.begin.result c.begin.ensures c.in-Ok.is

pub returns-in-Err : goal.returns-in-Err
returns-in-Err c =
    return_refused _ _ _ _ _ _ c.begin.result c.begin.ensures c.in-Err.is

pub return_fault-requires : goal.return_fault-requires
return_fault-requires c = room c

pub returns-in-Err-return_fault : goal.returns-in-Err-return_fault
returns-in-Err-return_fault c =
    return_fault _ _ _ _ _ _ c.begin.result c.begin.ensures c.in-Ok.is c.return_fault.result c.return_fault.ensures
    c.in-Err-return_fault.is

pub overflow_mul-before : goal.overflow_mul-before
overflow_mul-before c = omega (arith, named c)

pub overflow_add-before : goal.overflow_add-before
overflow_add-before c = omega (arith, named c)

pub bounds-points-name : goal.bounds-points-name
bounds-points-name c =
    omega (arith, named-2 c, room-2 c)

pub overflow_cast-before : goal.overflow_cast-before
overflow_cast-before c = Fits-8_64 (c.type_inv.points _)

pub overflow_mul-since : goal.overflow_mul-since
overflow_mul-since c = omega (arith, named-3 c)

pub overflow_add-since : goal.overflow_add-since
overflow_add-since c = omega (arith, named-3 c)

pub bounds-points-name-2 : goal.bounds-points-name-2
bounds-points-name-2 c =
    omega (arith, named-4 c, room-3 c)

pub overflow_cast-since : goal.overflow_cast-since
overflow_cast-since c = Fits-8_64 (c.type_inv.points _)

pub returns : goal.returns
returns c =
    return_read _ _ _ _ _ _ c.begin.result c.begin.ensures c.in-Ok.is c.return_fault.result c.return_fault.ensures c.in-Ok-return_fault.is
