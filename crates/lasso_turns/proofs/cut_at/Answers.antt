-- The value before the cut, and that of the turn by both ways to it. Assumes nothing.
use mathlib.Core.Path.{refl}
use mir.Facts.{Fits-8_64}
use Rattle.rule_table.proofs.Facts.{table_place}
use Rattle.lasso_turns.proofs.Searching.{cut_inner, cut_last, end_behind}
use Rattle.lasso_turns.proofs.cut_at.Goals as goal

pub overflow_cast-x : goal.overflow_cast-x
overflow_cast-x c = Fits-8_64 (c.type_inv.scratch _)

pub product-p-requires : goal.product-p-requires
product-p-requires c =
    table_place c.requires.table c.requires.s_lt_n.0 (c.requires.cut_values.beginning_inside _ c.requires.s_lt_n.1)

pub overflow_cast-scratch : goal.overflow_cast-scratch
overflow_cast-scratch c = Fits-8_64 (c.type_inv.scratch _)

pub product-r-requires : goal.product-r-requires
product-r-requires c =
    table_place c.requires.table (end_behind c.requires.cut_values _ c.if-j-len.true) (c.requires.cut_values.beginning_inside _ c.requires.s_lt_n.1)

pub returns-then-j-len : goal.returns-then-j-len
returns-then-j-len c =
    cut_inner c.requires.table c.requires.cut_values c.requires.s_lt_n.0 c.requires.s_lt_n.1 c.product-p.ensures c.if-j-len.true c.product-r.ensures

pub returns-else-j-len : goal.returns-else-j-len
returns-else-j-len c =
    cut_last c.requires.table c.requires.cut_values c.requires.s_lt_n.0 c.requires.s_lt_n.1 c.product-p.ensures c.if-j-len.false refl
