-- `keep_and_return_call::keep` meets its contract: what the beginning refuses is refused first, then the name and the values; else the monitor's two
-- values are stored under the name, where they fit in bytes. Assumes nothing.
use native.Mathlib.Omega.{arith}
use lib.ListN.{length-set}
use Rattle.keep_and_return_call.proofs.Ways.{Keepable, keep_refused, points_room, keep_fault, keepable_point, keep_stored}
use Rattle.keep_and_return_call.proofs.keep.Goals as goal

-- all has passed
known : (c : goal.In-Ok-keep_fault) → Keepable c.args.m c.args.name c.args.points.now
known c =
    keepable_point _ _ _ _ _ _ c.begin.result c.begin.ensures c.in-Ok.is c.keep_fault.result c.keep_fault.ensures c.in-Ok-keep_fault.is

pub returns-in-Err : goal.returns-in-Err
returns-in-Err c =
    keep_refused _ _ _ _ _ _ c.begin.result c.begin.ensures c.in-Err.is

pub keep_fault-requires : goal.keep_fault-requires
keep_fault-requires c =
    points_room _ _ _ _ c.begin.result c.begin.ensures c.in-Ok.is

pub returns-in-Err-keep_fault : goal.returns-in-Err-keep_fault
returns-in-Err-keep_fault c =
    keep_fault _ _ _ _ _ _ c.begin.result c.begin.ensures c.in-Ok.is c.keep_fault.result c.keep_fault.ensures
    c.in-Err-keep_fault.is

pub overflow_mul-points : goal.overflow_mul-points
overflow_mul-points c = omega (arith, (known c).named)

pub bounds-points-name : goal.bounds-points-name
bounds-points-name c = omega (arith, (known c).named, (known c).room)

pub overflow_cast-points : goal.overflow_cast-points
overflow_cast-points c = omega (arith, (known c).before_byte_lem)

pub overflow_mul-points-2 : goal.overflow_mul-points-2
overflow_mul-points-2 c = omega (arith, (known c).named)

pub overflow_add-points : goal.overflow_add-points
overflow_add-points c = omega (arith, (known c).named)

pub bounds-points-name-2 : goal.bounds-points-name-2
bounds-points-name-2 c = simp length-set (omega (arith, (known c).named, (known c).room))

pub overflow_cast-points-2 : goal.overflow_cast-points-2
overflow_cast-points-2 c = omega (arith, (known c).since_byte_lem)

pub overflow_mul-points-3 : goal.overflow_mul-points-3
overflow_mul-points-3 c = omega (arith, (known c).named)

pub overflow_add-points-2 : goal.overflow_add-points-2
overflow_add-points-2 c = omega (arith, (known c).named)

pub bounds-points-name-3 : goal.bounds-points-name-3
bounds-points-name-3 c = simp length-set (omega (arith, (known c).named, (known c).room))

pub returns : goal.returns
returns c =
    keep_stored _ _ _ _ _ _ c.begin.result c.begin.ensures c.in-Ok.is c.keep_fault.result c.keep_fault.ensures c.in-Ok-keep_fault.is
