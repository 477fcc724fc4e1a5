-- `rule_automaton::list_successors` meets its contract: each turn looks at one element more, and 64 comes last. Assumes nothing.
use mathlib.Core.Path.{refl}
use mathlib.Core.Logic.{inl, inr}
use Rattle.rule_table.proofs.Facts.{image_place}
use Rattle.rule_automaton.proofs.Successors.{state_good, list_start, list_needs, list_kept, list_next, list_written}
use Rattle.rule_automaton.proofs.list_successors.Goals as goal

pub image-h-requires : goal.image-h-requires
image-h-requires c = let pre = c.requires in image_place pre.table pre.letter

pub join-turned-requires : goal.join-turned-requires
join-turned-requires c = let pre = c.requires in record {
  table = pre.table;
  good_number = state_good pre;
}

pub loop-t-init : goal.loop-t-init
loop-t-init c = list_start _ c.requires c.image-h.ensures

pub write_successor-next-requires : goal.write_successor-next-requires
write_successor-next-requires c = list_needs c.loop-t.invariant (inl c.loop-t-test.true)

pub loop-t-preserved : goal.loop-t-preserved
loop-t-preserved c =
    list_next c.loop-t.invariant c.loop-t-test.true c.write_successor-next.ensures

pub write_successor-requires : goal.write_successor-requires
write_successor-requires c = list_needs c.loop-t.invariant (inr refl)

pub shape_of-out : goal.shape_of-out
shape_of-out c = list_kept c.loop-t.invariant _ c.write_successor.ensures

pub returns : goal.returns
returns c =
    list_written c.requires c.image-h.ensures c.join-turned.ensures c.loop-t.invariant c.loop-t-test.false
    c.write_successor.ensures
