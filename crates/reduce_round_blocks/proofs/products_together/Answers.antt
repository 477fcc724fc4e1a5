-- `reduce_round_blocks::products_together` meets its contract: the blocks of the products on each side are compared. Assumes nothing.
use Prim.Native.Nat.{◌<◌}
use native.Mathlib.Omega.{arith}
use Rattle.rule_table.proofs.Facts.{table_place, product_below}
use Rattle.formats.proofs.Tables.{image_below}
use Rattle.reduce_first_round.proofs.Products.{right_apart, left_apart, both_together}
use Rattle.reduce_round_blocks.proofs.products_together.Goals as goal

-- the letter's element is one
letter : (d : goal.After-image-h) → d.image-h.result < d.args.n
letter d = image_below d.requires.table d.requires.s_lt_n.2 d.image-h.ensures

-- the letter's element is one
letter-2 : (d : goal.After-product-s_right) → d.image-h.result < d.args.n
letter-2 d = image_below d.requires.table d.requires.s_lt_n.2 d.image-h.ensures

-- the letter's element is one
letter-3 : (d : goal.After-product-t_right) → d.image-h.result < d.args.n
letter-3 d = image_below d.requires.table d.requires.s_lt_n.2 d.image-h.ensures

-- the letter's element is one
letter-4 : (d : goal.After-shared_slice_known-3-1-unread) → d.image-h.result < d.args.n
letter-4 d = image_below d.requires.table d.requires.s_lt_n.2 d.image-h.ensures

-- the letter's element is one
letter-5 : (d : goal.After-shared_slice_known-3-1) → d.image-h.result < d.args.n
letter-5 d = image_below d.requires.table d.requires.s_lt_n.2 d.image-h.ensures

-- the letter's element is one
letter-6 : (d : goal.After-shared_slice_known-4-1-unread) → d.image-h.result < d.args.n
letter-6 d = image_below d.requires.table d.requires.s_lt_n.2 d.image-h.ensures

-- the letter's element is one
letter-7 : (d : goal.Else-scratch-s_right) → d.image-h.result < d.args.n
letter-7 d = image_below d.requires.table d.requires.s_lt_n.2 d.image-h.ensures

-- the letter's element is one
letter-8 : (d : goal.After-product-s_left) → d.image-h.result < d.args.n
letter-8 d = image_below d.requires.table d.requires.s_lt_n.2 d.image-h.ensures

-- the letter's element is one
letter-9 : (d : goal.After-product-t_left) → d.image-h.result < d.args.n
letter-9 d = image_below d.requires.table d.requires.s_lt_n.2 d.image-h.ensures

-- the letter's element is one
letter-10 : (d : goal.After-shared_slice_known-5-1-unread) → d.image-h.result < d.args.n
letter-10 d = image_below d.requires.table d.requires.s_lt_n.2 d.image-h.ensures

-- the letter's element is one
letter-11 : (d : goal.After-shared_slice_known-5-1) → d.image-h.result < d.args.n
letter-11 d = image_below d.requires.table d.requires.s_lt_n.2 d.image-h.ensures

-- the letter's element is one
letter-12 : (d : goal.After-shared_slice_known-6-1-unread) → d.image-h.result < d.args.n
letter-12 d = image_below d.requires.table d.requires.s_lt_n.2 d.image-h.ensures

pub product-s_right-requires : goal.product-s_right-requires
product-s_right-requires c =
    let table = c.requires.table in
    let below = letter c in
    table_place table (omega arith) (omega arith)

pub product-t_right-requires : goal.product-t_right-requires
product-t_right-requires c =
    let table = c.requires.table in
    let below = letter-2 c in
    table_place table (omega arith) (omega arith)

pub overflow_add-s_right : goal.overflow_add-s_right
overflow_add-s_right c =
    let table = c.requires.table in
    let below = letter-3 c in
    omega (arith, product_below table (omega arith) (omega arith) c.product-s_right.ensures, table.small)

pub bounds-scratch-s_right : goal.bounds-scratch-s_right
bounds-scratch-s_right c =
    let table = c.requires.table in
    let below = letter-4 c in
    omega (arith, product_below table (omega arith) (omega arith) c.product-s_right.ensures, table.small)

pub overflow_add-t_right : goal.overflow_add-t_right
overflow_add-t_right c =
    let table = c.requires.table in
    let below = letter-5 c in
    omega (arith, product_below table (omega arith) (omega arith) c.product-t_right.ensures, table.small)

pub bounds-scratch-t_right : goal.bounds-scratch-t_right
bounds-scratch-t_right c =
    let table = c.requires.table in
    let below = letter-6 c in
    omega (arith, product_below table (omega arith) (omega arith) c.product-t_right.ensures, table.small)

pub returns-then-scratch-s_right : goal.returns-then-scratch-s_right
returns-then-scratch-s_right c = right_apart _ c.image-h.ensures c.product-s_right.ensures c.product-t_right.ensures c.if-scratch-s_right.true

pub product-s_left-requires : goal.product-s_left-requires
product-s_left-requires c =
    let table = c.requires.table in
    let below = letter-7 c in
    table_place table (omega arith) (omega arith)

pub product-t_left-requires : goal.product-t_left-requires
product-t_left-requires c =
    let table = c.requires.table in
    let below = letter-8 c in
    table_place table (omega arith) (omega arith)

pub overflow_add-s_left : goal.overflow_add-s_left
overflow_add-s_left c =
    let table = c.requires.table in
    let below = letter-9 c in
    omega (arith, product_below table (omega arith) (omega arith) c.product-s_left.ensures, table.small)

pub bounds-scratch-s_left : goal.bounds-scratch-s_left
bounds-scratch-s_left c =
    let table = c.requires.table in
    let below = letter-10 c in
    omega (arith, product_below table (omega arith) (omega arith) c.product-s_left.ensures, table.small)

pub overflow_add-t_left : goal.overflow_add-t_left
overflow_add-t_left c =
    let table = c.requires.table in
    let below = letter-11 c in
    omega (arith, product_below table (omega arith) (omega arith) c.product-t_left.ensures, table.small)

pub bounds-scratch-t_left : goal.bounds-scratch-t_left
bounds-scratch-t_left c =
    let table = c.requires.table in
    let below = letter-12 c in
    omega (arith, product_below table (omega arith) (omega arith) c.product-t_left.ensures, table.small)

pub returns-then-scratch-s_left : goal.returns-then-scratch-s_left
returns-then-scratch-s_left c =
    left_apart _ c.image-h.ensures c.product-s_left.ensures c.product-t_left.ensures c.if-scratch-s_left.true

pub returns : goal.returns
returns c =
    both_together _ c.image-h.ensures c.product-s_right.ensures c.product-t_right.ensures c.product-s_left.ensures c.product-t_left.ensures c.if-scratch-s_right.false
    c.if-scratch-s_left.false
