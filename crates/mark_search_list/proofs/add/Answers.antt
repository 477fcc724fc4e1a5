use Prim.Native.Nat.{◌+◌}
use native.Mathlib.Omega.{arith}
use mir.Facts.{Fits-8_64}
use Rattle.mark_search_list.specs.Steps.{Added}
use Rattle.mark_search_list.proofs.Growth.{add_there, add_room, new_place, add_done}
use Rattle.mark_search_list.proofs.add.Goals as goal

-- the state is a new entry
added : (c : goal.After-slice_known-3-1) → Added c.args.n c.args.s c.args.scratch.now c.args.count c.args.x c.args.y c.args.from c.args.letter c.store.new.scratch (c.args.count + 1)
added c = add_done c.requires c.if-seen-s.false c.store.ensures

pub overflow_cast-seen : goal.overflow_cast-seen
overflow_cast-seen c = Fits-8_64 (c.type_inv.scratch _)

pub returns-then-seen-s : goal.returns-then-seen-s
returns-then-seen-s c = add_there c.requires c.if-seen-s.true

pub store-requires : goal.store-requires
store-requires c = new_place c.requires c.if-seen-s.false

pub overflow_add-result : goal.overflow_add-result
overflow_add-result c = omega (arith, add_room c.requires c.if-seen-s.false)

pub shape_of-scratch : goal.shape_of-scratch
shape_of-scratch c = (added c).grown.kept.same_length

pub returns : goal.returns
returns c = added c
