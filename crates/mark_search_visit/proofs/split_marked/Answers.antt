-- The pair (s·x, (y·x)²) by three products, and its byte in the table of marks. Assumes nothing.
use Prim.Native.Nat.{◌<◌}
use native.Mathlib.Omega.{arith}
use Rattle.mark_search_letters.proofs.Values.{product_place}
use Rattle.mark_search_visit.proofs.Values.{product_inside, turned_inside, split_byte}
use Rattle.mark_search_visit.proofs.split_marked.Goals as goal

-- the values are elements
turned_below : (c : goal.After-turn-turned) → c.turn-turned.result < c.args.n
turned_below c = turned_inside _ _ _ c.requires.table _ c.requires.s_lt_n.1 _ c.turn-turned.ensures

start_below : (c : goal.After-product-t) → c.product-t.result < c.args.n
start_below c = product_inside _ _ _ c.requires.table c.requires.s_lt_n.0 c.requires.s_lt_n.1 c.product-t.ensures

-- the values are elements
turned_below-2 : (c : goal.After-product-t) → c.turn-turned.result < c.args.n
turned_below-2 c = turned_inside _ _ _ c.requires.table _ c.requires.s_lt_n.1 _ c.turn-turned.ensures

square_below : (c : goal.After-product-t) → c.product-f.result < c.args.n
square_below c = product_inside _ _ _ c.requires.table (turned_below-2 c) (turned_below-2 c) c.product-f.ensures

start_below-2 : (c : goal.After-shared_slice_known-3-1-unread) → c.product-t.result < c.args.n
start_below-2 c = product_inside _ _ _ c.requires.table c.requires.s_lt_n.0 c.requires.s_lt_n.1 c.product-t.ensures

-- the values are elements
turned_below-3 : (c : goal.After-shared_slice_known-3-1-unread) → c.turn-turned.result < c.args.n
turned_below-3 c = turned_inside _ _ _ c.requires.table _ c.requires.s_lt_n.1 _ c.turn-turned.ensures

square_below-2 : (c : goal.After-shared_slice_known-3-1-unread) → c.product-f.result < c.args.n
square_below-2 c = product_inside _ _ _ c.requires.table (turned_below-3 c) (turned_below-3 c) c.product-f.ensures

pub product-f-requires : goal.product-f-requires
product-f-requires c = product_place _ _ _ c.requires.table (turned_below c) (turned_below c)

pub overflow_mul-result : goal.overflow_mul-result
overflow_mul-result c = omega (arith, start_below c, c.requires.table.small)

pub overflow_add-result : goal.overflow_add-result
overflow_add-result c = omega (arith, start_below c, square_below c, c.requires.table.small)

pub overflow_add-result-2 : goal.overflow_add-result-2
overflow_add-result-2 c = omega (arith, start_below c, square_below c, c.requires.table.small, c.requires.second_le_second_base.0)

pub bounds-scratch-second : goal.bounds-scratch-second
bounds-scratch-second c = omega (arith, start_below-2 c, square_below-2 c, c.requires.table.small, c.requires.second_le_second_base.0, c.requires.second_le_second_base.1)

pub returns : goal.returns
returns c = split_byte _ _ _ c.requires.table _ _ _ _ _ _ c.turn-turned.ensures c.product-f.ensures c.product-t.ensures
